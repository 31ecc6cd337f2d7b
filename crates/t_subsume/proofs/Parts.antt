-- A turn, literal by literal.
use Rattle.std.proofs.Common.{◌≡◌, ◌⊎◌, ℕ, ◌+◌, ◌-◌, ◌<◌, ◌≤◌, Bool, true, false, List, [], ◌∷◌, ◌++◌, cond, length, set, length-append, refl, sym, ◌∙◌, ap, subst, arith, inl, inr, Contains, sum_by}
use Rattle.std.specs.Prelude.{Option, Some}
use Rattle.std.proofs.Math.Nat.{mul-le-mul_right}
use Rattle.std.proofs.lemmas.Bool.{cases_Bool, true≢false, cases_lt}
use Rattle.std.proofs.lemmas.List.{get_or_default}
use Rattle.std.proofs.lemmas.List.Elements.{Contains-append_left, Contains-push}
use Rattle.mp_logic.specs.Literal.{Literal, negation}
use Rattle.mp_logic.specs.Keeping.{State}
use Rattle.mp_logic.specs.Sets.{with_hard}
use Rattle.mp_store.specs.declared.rewrite.Rewrite.{Rewrite}
use Rattle.mp_store.specs.Held.{Held, labelled_of, IsUntouched}
use Rattle.mp_clauses.specs.Slots.{clause_of, live_clauses, has_empty}
use Rattle.mp_store.specs.Measures.{IsSmaller}
use Rattle.mp_store.specs.Rewriting.{changed_by, refuted_by, after}
use Rattle.mp_store.specs.Soundness.{IsStore}
use Rattle.mp_store.proofs.KeptFixing.{live-at}
use Rattle.mp_store.proofs.Replaced.{replaced_ids}
use Rattle.mp_store.proofs.Rewritten.{refuted-length}
use Rattle.mp_store.proofs.Runs.{smaller-smaller, untouched-twice}
use Rattle.mp_turns.specs.Turned.{IsTurn}
use Rattle.mp_turns.specs.declared.turn.Turned.TheVariants.{Idle, Changed}
use Rattle.mp_turns.specs.Clauses.{replacing, clause_places}
use Rattle.mp_turns.proofs.ClausePlaces.{length-places}
use Rattle.mp_turns.proofs.Replacing.{replacing-slots, replacing-state}
use Rattle.mp_turns.proofs.Shrinking.{smaller-shortened}
use Rattle.t_subsume.specs.Containment.{AreHolders}
use Rattle.t_subsume.specs.Strengthening.{Strengthens, IsNotStrengthening, strengthening}
use Rattle.t_subsume.specs.Shortening.{shortened_by, lit_at, AreAgain, AreStrengthened, IsUseless, IsPart}
use Rattle.t_subsume.proofs.Strengthened.{new_slots, new-back, new-shrinks, new-number, new-literals, new-length, new-own, new-useless, used-useless, new-idle, strengthened-from}
use Rattle.t_subsume.proofs.Flipping.{set-back}

pub part-none : (id : ℕ) (c : List Literal) (h : Held) (again : List ℕ) → clause_of h.slots id ≡ Some c → IsPart id c h h again again false
part-none id c h again e = record { own = e; rest = λ i m. m; kept = λ i r. inr r; useless = λ l u. u; few = omega arith; number = refl; same = λ f. (refl, refl); smaller = λ f. absurd (cc) }

-- the changes with one literal
pub part-one : (h u : Held) (id : ℕ) (c : List Literal) (l : Literal) (gone before again : List ℕ) → AreStrengthened h id c l gone → 0 < length gone → IsUntouched (after (replacing gone (shortened_by (negation l) h.slots gone) []) h) u → u.refuted ≡ false → AreAgain (length h.slots) (length u.slots) before again → IsPart id c h u before again true × IsUseless u.slots c l
part-one h u id c l gone before again a some e n put =
    let added = shortened_by (negation l) h.slots gone in
    let slots : u.slots ≡ new_slots h l gone = replacing-slots gone added [] h u e n in
    let state : labelled_of u ≡ with_hard (labelled_of h) (live_clauses (new_slots h l gone)) = replacing-state gone added [] h u e n in
    let many : length u.slots ≡ length h.slots + length gone = ap (λ (s : List (Option (List Literal))). length s) slots ∙ new-length h l gone in
    let P : List (Option (List Literal)) → Type 0 = λ s. (clause_of s id ≡ Some c) × ((i : ℕ) → IsNotStrengthening h.slots i → Contains again i ⊎ IsNotStrengthening s i) × ((k : Literal) → IsUseless h.slots c k → IsUseless s c k) × (sum_by length (live_clauses s) + length gone ≤ sum_by length (live_clauses h.slots)) × (length (live_clauses s) ≡ length (live_clauses h.slots)) × IsUseless s c l in
    let facts : P u.slots = subst P (sym slots) (
      new-own h id c l gone a,
      new-idle h id c l gone again a (λ i low high. put.each i low (subst (λ (s : List (Option (List Literal))). i < length s) (sym slots) high)),
      λ k r. new-useless h id c l gone c k a r,
      new-literals h id c l gone a,
      new-number h id c l gone a,
      used-useless h id c l gone a,
    ) in
    let less : sum_by length (live_clauses (new_slots h l gone)) < sum_by length (live_clauses h.slots) = omega (arith, new-literals h id c l gone a) in
    let small = smaller-shortened (labelled_of h) (with_hard (labelled_of h) (live_clauses (new_slots h l gone))) refl refl (new-shrinks h id c l gone a) (new-back h id c l gone a) (new-number h id c l gone a) less in
    let Q : State → Type 0 = λ t. IsSmaller t (labelled_of h) in (
      record {
        own = facts.0;
        rest = put.rest;
        kept = facts.1;
        useless = facts.2;
        few = omega (arith, put.many, many, facts.3);
        number = facts.4;
        same = λ f. absurd (cc);
        smaller = λ f. subst Q (sym state) small;
      },
      facts.5,
    )

joined-kept : (old mid new : Held) (b d : List ℕ) → ((i : ℕ) → Contains b i → Contains d i) → ((i : ℕ) → IsNotStrengthening old.slots i → Contains b i ⊎ IsNotStrengthening mid.slots i) → ((i : ℕ) → IsNotStrengthening mid.slots i → Contains d i ⊎ IsNotStrengthening new.slots i) → (i : ℕ) → IsNotStrengthening old.slots i → Contains d i ⊎ IsNotStrengthening new.slots i
joined-kept old mid new b d r f g i idle = elim (f i idle) [ inl m ↦ inl (r i m) | inr x ↦ g i x ]

pub part-still : (id : ℕ) (c : List Literal) (h u v : Held) (a b d : List ℕ) (x : Bool) → IsPart id c h u a b x → IsPart id c u v b d false → IsPart id c h v a d x
part-still id c h u v a b d x p q =
    let same = q.same refl in
    record {
      own = q.own;
      rest = λ i m. q.rest i (p.rest i m);
      kept = joined-kept h u v b d q.rest p.kept q.kept;
      useless = λ l r. q.useless l (p.useless l r);
      few = omega (arith, p.few, q.few);
      number = q.number ∙ p.number;
      same = λ f. let was = p.same f in (untouched-twice h u v was.0 same.0, same.1 ∙ was.1);
      smaller = λ f. subst (λ (y : Held). IsSmaller (labelled_of y) (labelled_of h)) (sym same.0) (p.smaller f);
    }

pub part-more : (id : ℕ) (c : List Literal) (h u v : Held) (a b d : List ℕ) (x : Bool) → IsPart id c h u a b x → IsPart id c u v b d true → IsPart id c h v a d true
part-more id c h u v a b d x p q = record {
  own = q.own;
  rest = λ i m. q.rest i (p.rest i m);
  kept = joined-kept h u v b d q.rest p.kept q.kept;
  useless = λ l r. q.useless l (p.useless l r);
  few = omega (arith, p.few, q.few);
  number = q.number ∙ p.number;
  same = λ f. absurd (cc);
  smaller = λ f. elim (cases_Bool x) [
    | inl t ↦ smaller-smaller (labelled_of h) (labelled_of u) (labelled_of v) (q.smaller refl) (p.smaller t)
    | inr g ↦ subst (λ (y : Held). IsSmaller (labelled_of v) (labelled_of y)) ((p.same g).0) (q.smaller refl)
  ];
}

-- one literal more is used
pub useless-more : (s : List (Option (List Literal))) (c : List Literal) (n : ℕ) → ((k : ℕ) → k < n → IsUseless s c (lit_at c k)) → IsUseless s c (lit_at c n) → (k : ℕ) → k < n + 1 → IsUseless s c (lit_at c k)
useless-more s c n f own k lt = elim (cases_lt k n) [ inl b ↦ f k b | inr m ↦ let e : n ≡ k = omega arith in subst (λ j. IsUseless s c (lit_at c j)) e own ]

all-useless : (s : List (Option (List Literal))) (id : ℕ) (c : List Literal) → clause_of s id ≡ Some c → ((k : ℕ) → k < length c → IsUseless s c (lit_at c k)) → IsNotStrengthening s id
all-useless s id c e f x g d l m i t =
    let both : Some x ≡ Some c = sym g ∙ e in
    let same : x ≡ c = cc in
    let there : Contains c l = subst (λ y. Contains y l) same i in
    let at : lit_at c there.0 ≡ l = get_or_default c there.0 (record { variable = 0; negative = false }) l there.1 ∙ there.2 in
    f there.0 there.1 d m (subst (λ k. Strengthens k c d) (sym at) (subst (λ y. Strengthens l y d) same t))

-- the whole turn
pub turn-idle : (h u : Held) (id : ℕ) (c : List Literal) (again : List ℕ) → IsPart id c h u [] again false → ((k : ℕ) → k < length c → IsUseless u.slots c (lit_at c k)) → IsTurn strengthening id h u again Idle
turn-idle h u id c again p f =
    let same = p.same refl in
    (same.0, same.1, subst (λ s. IsNotStrengthening s id) (ap (λ (x : Held). x.slots) same.0) (all-useless u.slots id c p.own f))

pub turn-changed : (h u : Held) (id : ℕ) (c : List Literal) (again : List ℕ) → (u.refuted ≡ false → IsPart id c h u [] again true) → (u.refuted ≡ false → (k : ℕ) → k < length c → IsUseless u.slots c (lit_at c k)) → IsTurn strengthening id h u again Changed
turn-changed h u id c again p f =
    elim (cases_Bool u.refuted) [
      | inl t ↦ inl t
      | inr n ↦
          let q = p n in
          let there = (live-at u.slots id c q.own).1 in
          let was = length-places (labelled_of h) in
          let now = length-places (labelled_of u) in
          let some : 1 ≤ length (clause_places (labelled_of h)) = omega (arith, q.number, was) in
          let wide = mul-le-mul_right (sum_by length (live_clauses h.slots) - sum_by length (live_clauses u.slots)) some in
          inr (record {
            kept = q.kept;
            own = inr (all-useless u.slots id c q.own (f n));
            falls = omega (arith, q.few);
            few = omega (arith, q.few, wide);
            fewer = omega (arith, q.number, was, now);
            smaller = q.smaller refl;
          })
    ]

-- the negation of the literal that was read
pub negated-at : (c lits : List Literal) (place : ℕ) (l n : Literal) → lits ≡ c → l ≡ lit_at lits place → n ≡ negation l → n ≡ negation (lit_at c place)
negated-at c lits place l n e f g = g ∙ ap negation (f ∙ ap (λ x. lit_at x place) e)

pub after-shortened : (h u : Held) (gone : List ℕ) (n m : Literal) → n ≡ m → IsUntouched (after (replacing gone (shortened_by n h.slots gone) []) h) u → IsUntouched (after (replacing gone (shortened_by m h.slots gone) []) h) u
after-shortened h u gone n m e f = subst (λ k. IsUntouched (after (replacing gone (shortened_by k h.slots gone) []) h) u) e f

-- the clause with a literal turned round, and turned back
pub flipped-from : (c set1 items : List Literal) (place : ℕ) (l n : Literal) → l ≡ lit_at c place → n ≡ negation l → set1 ≡ set c place n → items ≡ set1 → items ≡ set c place (negation (lit_at c place))
flipped-from c set1 items place l n e g i j = j ∙ i ∙ ap (set c place) (g ∙ ap negation e)

pub put-back : (c set1 set2 : List Literal) (place : ℕ) (l n : Literal) → l ≡ lit_at c place → set1 ≡ set c place n → set2 ≡ set set1 place l → set2 ≡ c
put-back c set1 set2 place l n e i j = j ∙ ap (λ (x : List Literal). set x place l) i ∙ ap (set (set c place n) place) e ∙ set-back c place n

pub used-from : (h : Held) (id place : ℕ) (c items : List Literal) (gone : List ℕ) → IsStore h → clause_of h.slots id ≡ Some c → place < length c → items ≡ set c place (negation (lit_at c place)) → AreHolders h.slots items id gone → AreStrengthened h id c (lit_at c place) gone
used-from h id place c items gone s own lt flip a = strengthened-from h id place c gone s own lt (subst (λ x. AreHolders h.slots x id gone) flip a)

pub after-longer : (r : Rewrite) (h u : Held) → IsUntouched (after r h) u → length h.slots ≤ length u.slots
after-longer r h u e =
    let step : (b : Bool) → length h.slots ≤ length (cond b (refuted_by r h) (changed_by r h)).slots =
    λ (t : Bool). elim t as (λ b. length h.slots ≤ length (cond b (refuted_by r h) (changed_by r h)).slots) [
      | true ↦ refuted-length (length h.slots)
      | false ↦ let len = (replaced_ids r.gone r.added h.slots).len in omega (arith, len)
    ] in
    let same : length u.slots ≡ length (after r h).slots = ap (λ (x : Held). length x.slots) e in
    let least : length h.slots ≤ length (after r h).slots = step (has_empty r.added) in
    omega (arith, same, least)

-- literal by literal
pub each-more : (id : ℕ) (c lits : List Literal) (h u v : Held) (a b d : List ℕ) (x used : Bool) → lits ≡ c → v.refuted ≡ false → IsPart id c h u a b x → (v.refuted ≡ false → IsPart id lits u v b d used) → used ≡ true → IsPart id c h v a d true
each-more id c lits h u v a b d x used e n p q t = part-more id c h u v a b d x p (subst (λ y. IsPart id c u v b d y) t (subst (λ y. IsPart id y u v b d used) e (q n)))

pub each-still : (id : ℕ) (c lits : List Literal) (h u v : Held) (a b d : List ℕ) (x used : Bool) → lits ≡ c → v.refuted ≡ false → IsPart id c h u a b x → (v.refuted ≡ false → IsPart id lits u v b d used) → used ≡ false → IsPart id c h v a d x
each-still id c lits h u v a b d x used e n p q t = part-still id c h u v a b d x p (subst (λ y. IsPart id c u v b d y) t (subst (λ y. IsPart id y u v b d used) e (q n)))

pub each-useless : (id : ℕ) (c lits : List Literal) (u v : Held) (b d : List ℕ) (used : Bool) (n : ℕ) → lits ≡ c → v.refuted ≡ false → (v.refuted ≡ false → IsPart id lits u v b d used) → ((k : ℕ) → k < n → IsUseless u.slots c (lit_at c k)) → (v.refuted ≡ false → IsUseless v.slots lits (lit_at lits n)) → (k : ℕ) → k < n + 1 → IsUseless v.slots c (lit_at c k)
each-useless id c lits u v b d used n e s q f own k lt =
    let p = subst (λ y. IsPart id y u v b d used) e (q s) in
    useless-more v.slots c n (λ j l. p.useless (lit_at c j) (f j l)) (subst (λ y. IsUseless v.slots y (lit_at y n)) e (own s)) k lt

pub not-refuted : (u : Held) (used : Bool) → (u.refuted ≡ true → used ≡ true) → used ≡ false → u.refuted ≡ false
not-refuted u used f e = elim (cases_Bool u.refuted) [ inl t ↦ absurd (true≢false (sym (f t) ∙ e)) | inr n ↦ n ]

pub again-more : (first id : ℕ) (old mid new : List ℕ) → first ≤ id → AreAgain first id old mid → new ≡ mid ++ id ∷ [] → AreAgain first (id + 1) old new
again-more first id old mid new le a e = rw e (record {
  each = λ i low high. elim (cases_lt i id) [ inl b ↦ Contains-append_left mid (id ∷ []) i (a.each i low b) | inr m ↦ let same : id ≡ i = omega arith in subst (Contains (mid ++ id ∷ [])) same (Contains-push mid id) ];
  rest = λ i m. Contains-append_left mid (id ∷ []) i (a.rest i m);
  many = omega (arith, a.many, length-append mid (id ∷ []));
})

pub turn-idle-from : (h u : Held) (id : ℕ) (c : List Literal) (before again : List ℕ) (used : Bool) → before ≡ [] → used ≡ false → (u.refuted ≡ true → used ≡ true) → (u.refuted ≡ false → IsPart id c h u before again used) → (u.refuted ≡ false → (k : ℕ) → k < length c → IsUseless u.slots c (lit_at c k)) → IsTurn strengthening id h u again Idle
turn-idle-from h u id c before again used e f r p q =
    let n = not-refuted u used r f in
    turn-idle h u id c again (subst (λ b. IsPart id c h u [] again b) f (subst (λ b. IsPart id c h u b again used) e (p n))) (q n)

pub turn-changed-from : (h u : Held) (id : ℕ) (c : List Literal) (before again : List ℕ) (used : Bool) → before ≡ [] → used ≡ true → (u.refuted ≡ false → IsPart id c h u before again used) → (u.refuted ≡ false → (k : ℕ) → k < length c → IsUseless u.slots c (lit_at c k)) → IsTurn strengthening id h u again Changed
turn-changed-from h u id c before again used e f p q = turn-changed h u id c again (λ n. subst (λ b. IsPart id c h u [] again b) f (subst (λ b. IsPart id c h u b again used) e (p n))) q
