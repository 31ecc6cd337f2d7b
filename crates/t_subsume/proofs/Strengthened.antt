-- What shortening clauses with one literal of a clause leaves.
use Rattle.std.proofs.Common.{◌≡◌, ◌⊎◌, ℕ, ◌+◌, ◌<◌, ◌≤◌, true, false, List, [], ◌∷◌, ◌++◌, length, get_or, set, suc, refl, sym, ◌∙◌, ap, subst, arith, inl, inr, Contains, All, sum_by}
use Rattle.std.specs.Prelude.{Option, Some, None, is_some, map}
use Rattle.std.proofs.lemmas.Bool.{cases_Bool, cases_eq, cases_lt, true≢false}
use Rattle.std.proofs.lemmas.List.{get_or_past}
use Rattle.std.proofs.lemmas.List.Elements.{Contains-get_or}
use Rattle.std.proofs.lemmas.List.Sums.{sum_by-cons}
use Rattle.mp_logic.specs.Literal.{Literal, negation, IsUpTo}
use Rattle.mp_logic.specs.Labelled.{IsProper}
use Rattle.mp_logic.specs.Truth.{literal_value}
use Rattle.mp_logic.specs.Keeping.{State, Keeps}
use Rattle.mp_logic.specs.Normal.{rises}
use Rattle.mp_logic.specs.Sets.{Among, Implies, with_hard}
use Rattle.mp_logic.specs.declared.instances.Repair.{Repair}
use Rattle.mp_logic.proofs.General.{same_models_keep, Entails-implied}
use Rattle.mp_logic.proofs.Literals.{cases_literal, never_both}
use Rattle.mp_logic.proofs.Members.{Contains-none, Contains-first, Contains-later, Contains-cases, All-from_contained, satisfied, witness, true_by}
use Rattle.mp_clauses.specs.Places.{is_in}
use Rattle.mp_store.specs.Held.{Held, labelled_of, IsUntouched}
use Rattle.mp_clauses.specs.Slots.{clause_of, live_clauses}
use Rattle.mp_store.specs.Replacing.{replaced, slot_worth, worth_of, IsReplacement}
use Rattle.mp_store.specs.Rewriting.{after}
use Rattle.mp_store.specs.Soundness.{IsStore}
use Rattle.mp_store.specs.Techniques.{IsRun}
use Rattle.mp_store.proofs.Clashes.{all-none}
use Rattle.mp_clauses.proofs.Found.{is_in-by, is_in-contains}
use Rattle.mp_store.proofs.KeptFixing.{live-at, live-id}
use Rattle.mp_store.proofs.Replaced.{replaced_clauses, replaced_ids, replaced_sums, replaced_count}
use Rattle.mp_store.proofs.Rewritten.{changed-ids}
use Rattle.mp_turns.specs.Turning.{IsTurning}
use Rattle.mp_turns.specs.Leaving.{ShortensClauses}
use Rattle.mp_turns.specs.Clauses.{replacing, AreShrunk}
use Rattle.mp_turns.proofs.ClausePlaces.{live-placed, live-once, live-others, first-idle}
use Rattle.mp_turns.proofs.Replacing.{replacing-keeps, replacing-run}
use Rattle.mp_turns.proofs.Shrinking.{shrunk-entails}
use Rattle.mp_resting.specs.declared.seen.Seen.{Seen}
use Rattle.mp_resting.specs.Resting.{IsRested}
use Rattle.t_subsume.specs.Containment.{HasNoHolderBelow, AreHolders}
use Rattle.t_subsume.specs.Strengthening.{Strengthens, NoStrengthened, self_subsumption, IsNotStrengthening, strengthening}
use Rattle.t_subsume.specs.Shortening.{without_literal, left_at, shortened_by, lit_at, IsUseless, AreStrengthened, StrengthensNoneBelow, NoneStrengthenedBelow}
use Rattle.t_subsume.proofs.Flipping.{no-both, lit-in, flip-strengthens, strengthens-flip, without-from, without-has, without-shorter, without-rises, without-within}
use Rattle.t_subsume.proofs.Subsuming.{same_some, live-low, clause-normal, clause-within}

none_some : {X : Type 0} (o : Option X) (x : X) → o ≡ None → o ≡ Some x → ⊥
none_some o x e f = cc

pub dead-useless : (slots : List (Option (List Literal))) (id : ℕ) → clause_of slots id ≡ None → IsNotStrengthening slots id
dead-useless slots id n c e d l m i s = none_some (clause_of slots id) c n e

shortens-twice : (a b c : State) (x y : List Repair) → ShortensClauses a b x → ShortensClauses b c y → ShortensClauses a c (x ++ y)
shortens-twice a b c x y f g =
    let none : x ++ y ≡ [] = rw (f.repairs, g.repairs) refl in
    record {
      costs = record { vars = g.costs.vars ∙ f.costs.vars; costs = g.costs.costs ∙ f.costs.costs; offset = g.costs.offset ∙ f.costs.offset };
      repairs = none;
      clauses = g.clauses ∙ f.clauses;
      within = λ d m. let w = g.within d m in let v = f.within w.0 w.1 in (v.0, v.1, λ l i. v.2 l (w.2 l i));
    }

pub strengthening-sound : IsTurning strengthening
strengthening-sound = record {
  itself = λ s. record { costs = record { vars = refl; costs = refl; offset = refl }; repairs = refl; clauses = refl; within = λ d m. (d, m, λ l i. i) };
  twice = shortens-twice;
  stays_itself = λ h u e. tt;
  stays_twice = λ m n a b c f g. tt;
  counted = λ h s. live-placed h;
  distinct = λ h s. live-once h.slots;
  others = λ h id s. elim (live-others h.slots id) [ inl m ↦ inl m | inr n ↦ inr (dead-useless h.slots id n) ];
  untouched = λ h u i e idle. subst (λ s. IsNotStrengthening s i) (sym (ap (λ (x : Held). x.slots) e)) idle;
  ended = λ h s u idle c d l i j m t. let w = live-id h.slots c i in idle w.0 c w.1 d l j m t;
  idle = λ h first rest s e own. first-idle self_subsumption h (IsNotStrengthening h.slots) first rest refl e own (λ id k c p idle. (c, p.place, λ d l m i t. idle c p.clause d l m i t));
}

pub strengthened-from : (h : Held) (id k : ℕ) (c : List Literal) (gone : List ℕ) → IsStore h → clause_of h.slots id ≡ Some c → k < length c → AreHolders h.slots (set c k (negation (lit_at c k))) id gone → AreStrengthened h id c (lit_at c k) gone
strengthened-from h id k c gone s e lt a =
    let normal = clause-normal h id c s e in
    record {
      own = e;
      has = lit-in c k lt;
      normal = normal;
      once = a.once;
      each = λ j m. let w = a.each j m in (w.0, w.1, w.2, flip-strengthens c w.0 k lt w.3);
      all = λ j d f t.
          elim (cases_eq j id) [
            | inl g ↦
                let same : d ≡ c = same_some (clause_of h.slots j) d c f (ap (clause_of h.slots) g ∙ e) in
                absurd (no-both c (lit_at c k) normal (lit-in c k lt) (subst (λ x. Contains x (negation (lit_at c k))) same t.negated))
            | inr n ↦ a.all j d f n (strengthens-flip c d k normal lt t)
          ];
    }

pub none-useless : (h : Held) (id : ℕ) (c : List Literal) (l : Literal) (gone : List ℕ) → AreStrengthened h id c l gone → length gone ≡ 0 → IsUseless h.slots c l
none-useless h id c l gone a n d m t =
    let w = live-id h.slots d m in
    let there = a.all w.0 d w.1 t in
    let below = there.1 in
    omega arith

map-from : {X Y : Type 0} (f : X → Y) (xs : List X) (y : Y) → Contains (map f xs) y → (x : X) × Contains xs x × (y ≡ f x)
map-from f [] y m = absurd (Contains-none y m)
map-from f (x ∷ xs) y m = elim (Contains-cases (f x) (map f xs) y m) [ inl e ↦ (x, Contains-first x xs, e) | inr r ↦ let w = map-from f xs y r in (w.0, Contains-later x xs w.0 w.1, w.2) ]

map-has : {X Y : Type 0} (f : X → Y) (xs : List X) (x : X) → Contains xs x → Contains (map f xs) (f x)
map-has f [] x m = absurd (Contains-none x m)
map-has f (y ∷ xs) x m = elim (Contains-cases y xs x m) [ inl e ↦ subst (λ z. Contains (f y ∷ map f xs) (f z)) (sym e) (Contains-first (f y) (map f xs)) | inr r ↦ Contains-later (f y) (map f xs) (f x) (map-has f xs x r) ]

-- a clause that comes is one that goes without the negation
pub shortened-from : (h : Held) (id : ℕ) (c : List Literal) (l : Literal) (gone : List ℕ) (x : List Literal) → AreStrengthened h id c l gone → Contains (shortened_by (negation l) h.slots gone) x → (j : ℕ) × (d : List Literal) × Contains gone j × (clause_of h.slots j ≡ Some d) × Strengthens l c d × (x ≡ without_literal (negation l) d)
shortened-from h id c l gone x a m =
    let w = map-from (λ j. left_at (negation l) (clause_of h.slots j)) gone x m in
    let d = a.each w.0 w.1 in
    (w.0, d.0, w.1, d.1, d.3, w.2 ∙ ap (left_at (negation l)) d.1)

shortened-has : (h : Held) (l : Literal) (gone : List ℕ) (j : ℕ) (d : List Literal) → Contains gone j → clause_of h.slots j ≡ Some d → Contains (shortened_by (negation l) h.slots gone) (without_literal (negation l) d)
shortened-has h l gone j d m e = subst (Contains (shortened_by (negation l) h.slots gone)) (ap (left_at (negation l)) e) (map-has (λ j. left_at (negation l) (clause_of h.slots j)) gone j m)

pub strengthened-fits : (h : Held) (id : ℕ) (c : List Literal) (l : Literal) (gone : List ℕ) → IsStore h → AreStrengthened h id c l gone → IsReplacement (replacing gone (shortened_by (negation l) h.slots gone) []) h
strengthened-fits h id c l gone s a = record {
  keeps_costs = replacing-keeps gone (shortened_by (negation l) h.slots gone) [];
  gone_live = λ k d lt. let w = a.each (get_or gone k d) (Contains-get_or gone k d lt) in ap is_some w.1;
  gone_distinct = a.once;
  added_normal = All-from_contained (λ x. rises 0 x ≡ true) (shortened_by (negation l) h.slots gone) (λ x m. let w = shortened-from h id c l gone x a m in subst (λ y. rises 0 y ≡ true) (sym w.5) (without-rises (negation l) w.1 (clause-normal h w.0 w.1 s w.3)));
  added_within = All-from_contained (All (IsUpTo h.vars)) (shortened_by (negation l) h.slots gone) (λ x m. let w = shortened-from h id c l gone x a m in subst (All (IsUpTo h.vars)) (sym w.5) (without-within h.vars (negation l) w.1 (clause-within h w.0 w.1 s w.3)));
  repairs_proper = all-none (IsProper h.vars);
}

-- the slots after it, and the clauses
abbrev pub new_slots : Held → Literal → List ℕ → List (Option (List Literal))
new_slots h l gone = replaced gone (shortened_by (negation l) h.slots gone) h.slots

pub new-back : (h : Held) (id : ℕ) (c : List Literal) (l : Literal) (gone : List ℕ) → AreStrengthened h id c l gone → (x : List Literal) → Contains (live_clauses (new_slots h l gone)) x → (d : List Literal) × Contains (live_clauses h.slots) d × Among x d
new-back h id c l gone a x m =
    elim ((replaced_clauses gone (shortened_by (negation l) h.slots gone) h.slots).only x m) [
      | inl w ↦ (x, live-at h.slots w.0 x w.1, λ k j. j)
      | inr i ↦ let w = shortened-from h id c l gone x a i in (w.1, live-at h.slots w.0 w.1 w.3, λ k j. (without-from (negation l) w.1 k (subst (λ y. Contains y k) w.5 j)).0)
    ]

pub new-shrinks : (h : Held) (id : ℕ) (c : List Literal) (l : Literal) (gone : List ℕ) → AreStrengthened h id c l gone → AreShrunk (live_clauses h.slots) (live_clauses (new_slots h l gone))
new-shrinks h id c l gone a x m =
    let all = replaced_clauses gone (shortened_by (negation l) h.slots gone) h.slots in
    let w = live-id h.slots x m in
    elim (cases_Bool (is_in w.0 gone)) [
      | inl t ↦ (without_literal (negation l) x, all.come (without_literal (negation l) x) (shortened-has h l gone w.0 x (is_in-contains gone w.0 t) w.1), λ k j. (without-from (negation l) x k j).0)
      | inr f ↦ (x, all.kept w.0 x w.1 f, λ k j. j)
    ]

-- a clause without the negation is implied
shortened-implied : (cs : List (List Literal)) (c d : List Literal) (l : Literal) → rises 0 c ≡ true → Contains cs c → Contains cs d → Contains c l → Strengthens l c d → Implies cs (without_literal (negation l) d)
shortened-implied cs c d l normal mc md has s a m =
    let w = witness a d (satisfied a cs d m md) in
    elim (cases_literal w.0 (negation l)) [
      | inr n ↦ true_by a (without_literal (negation l) d) w.0 (without-has (negation l) d w.0 w.1 n) w.2
      | inl e ↦
          let v = witness a c (satisfied a cs c m mc) in
          elim (s.others v.0 v.1) [
            | inl g ↦ absurd (never_both a w.0 l (subst (λ k. literal_value a k ≡ true) g v.2) w.2 e)
            | inr i ↦ true_by a (without_literal (negation l) d) v.0 (without-has (negation l) d v.0 i (λ g. no-both c l normal has (subst (Contains c) g v.1))) v.2
          ]
    ]

new-keeps : (h : Held) (id : ℕ) (c : List Literal) (l : Literal) (gone : List ℕ) → AreStrengthened h id c l gone → Keeps (labelled_of h) (with_hard (labelled_of h) (live_clauses (new_slots h l gone))) []
new-keeps h id c l gone a =
    let on = Entails-implied (live_clauses h.slots) (live_clauses (new_slots h l gone)) (λ x m. elim ((replaced_clauses gone (shortened_by (negation l) h.slots gone) h.slots).only x m) [
      | inl w ↦ inl (live-at h.slots w.0 x w.1)
      | inr i ↦ let w = shortened-from h id c l gone x a i in inr (subst (Implies (live_clauses h.slots)) (sym w.5) (shortened-implied (live_clauses h.slots) c w.1 l a.normal (live-at h.slots id c a.own) (live-at h.slots w.0 w.1 w.3) a.has w.4))
    ]) in
    same_models_keep (labelled_of h) (live_clauses (new_slots h l gone)) on (shrunk-entails (live_clauses h.slots) (live_clauses (new_slots h l gone)) (new-shrinks h id c l gone a))

-- numbers
length-shortened : (n : Literal) (slots : List (Option (List Literal))) (ids : List ℕ) → length (shortened_by n slots ids) ≡ length ids
length-shortened n slots [] = refl
length-shortened n slots (i ∷ ids) = ap suc (length-shortened n slots ids)

shorter-each : (h : Held) (n : Literal) (gone : List ℕ) → ((j : ℕ) → Contains gone j → (d : List Literal) × (clause_of h.slots j ≡ Some d) × Contains d n) → sum_by length (shortened_by n h.slots gone) + length gone ≤ worth_of length h.slots gone
shorter-each h n [] f = omega arith
shorter-each h n (g ∷ gs) f =
    let own = f g (Contains-first g gs) in
    let rest = shorter-each h n gs (λ j m. f j (Contains-later g gs j m)) in
    let less = without-shorter n own.0 own.2 in
    let made : length (left_at n (clause_of h.slots g)) ≡ length (without_literal n own.0) = ap (λ x. length (left_at n x)) own.1 in
    let was : slot_worth length (clause_of h.slots g) ≡ length own.0 = ap (slot_worth length) own.1 in
    omega (arith, rest, less, made, was, sum_by-cons (λ j. slot_worth length (clause_of h.slots j)) g gs, sum_by-cons (λ (x : List Literal). length x) (left_at n (clause_of h.slots g)) (shortened_by n h.slots gs))

pub new-number : (h : Held) (id : ℕ) (c : List Literal) (l : Literal) (gone : List ℕ) → AreStrengthened h id c l gone → length (live_clauses (new_slots h l gone)) ≡ length (live_clauses h.slots)
new-number h id c l gone a =
    let count = replaced_count gone (shortened_by (negation l) h.slots gone) h.slots (λ k d lt. let w = a.each (get_or gone k d) (Contains-get_or gone k d lt) in ap is_some w.1) a.once in
    let many = length-shortened (negation l) h.slots gone in
    omega (arith, count, many)

pub new-literals : (h : Held) (id : ℕ) (c : List Literal) (l : Literal) (gone : List ℕ) → AreStrengthened h id c l gone → sum_by length (live_clauses (new_slots h l gone)) + length gone ≤ sum_by length (live_clauses h.slots)
new-literals h id c l gone a =
    let sums = replaced_sums length gone (shortened_by (negation l) h.slots gone) h.slots a.once in
    let each = shorter-each h (negation l) gone (λ j m. let w = a.each j m in (w.0, w.1, w.3.negated)) in
    omega (arith, sums, each)

pub strengthened-run : (h u : Held) (id : ℕ) (c : List Literal) (l : Literal) (gone : List ℕ) → AreStrengthened h id c l gone → IsUntouched (after (replacing gone (shortened_by (negation l) h.slots gone) []) h) u → IsRun self_subsumption.LeavesAlone h u
strengthened-run h u id c l gone a e =
    replacing-run self_subsumption.LeavesAlone gone (shortened_by (negation l) h.slots gone) [] h u e (new-keeps h id c l gone a)
    (record {
      costs = record { vars = refl; costs = refl; offset = refl };
      repairs = refl;
      clauses = new-number h id c l gone a;
      within = new-back h id c l gone a;
    })

-- ids
pub new-length : (h : Held) (l : Literal) (gone : List ℕ) → length (new_slots h l gone) ≡ length h.slots + length gone
new-length h l gone =
    let len = (replaced_ids gone (shortened_by (negation l) h.slots gone) h.slots).len in
    omega (arith, len, length-shortened (negation l) h.slots gone)

pub new-was : (h : Held) (l : Literal) (gone : List ℕ) (i : ℕ) (x : List Literal) → i < length h.slots → clause_of (new_slots h l gone) i ≡ Some x → clause_of h.slots i ≡ Some x
new-was h l gone i x lt e = changed-ids gone (shortened_by (negation l) h.slots gone) h.slots i x lt e

pub new-own : (h : Held) (id : ℕ) (c : List Literal) (l : Literal) (gone : List ℕ) → AreStrengthened h id c l gone → clause_of (new_slots h l gone) id ≡ Some c
new-own h id c l gone a =
    let out : is_in id gone ≡ false = elim (cases_Bool (is_in id gone)) [ inl t ↦ absurd ((a.each id (is_in-contains gone id t)).2 refl) | inr f ↦ f ] in
    (replaced_ids gone (shortened_by (negation l) h.slots gone) h.slots).kept_ids id out (live-low h.slots id c a.own) ∙ a.own

more-strengthens : (l : Literal) (c x d : List Literal) → Among x d → Strengthens l c x → Strengthens l c d
more-strengthens l c x d m s = record { negated = m (negation l) s.negated; others = λ k i. elim (s.others k i) [ inl e ↦ inl e | inr j ↦ inr (m k j) ] }

pub new-useless : (h : Held) (id : ℕ) (c : List Literal) (l : Literal) (gone : List ℕ) (b : List Literal) (k : Literal) → AreStrengthened h id c l gone → IsUseless h.slots b k → IsUseless (new_slots h l gone) b k
new-useless h id c l gone b k a u x m s = let w = new-back h id c l gone a x m in u w.0 w.1 (more-strengthens k b x w.0 w.2 s)

-- the clause strengthens none with the literal any more
pub used-useless : (h : Held) (id : ℕ) (c : List Literal) (l : Literal) (gone : List ℕ) → AreStrengthened h id c l gone → IsUseless (new_slots h l gone) c l
used-useless h id c l gone a x m s =
    elim ((replaced_clauses gone (shortened_by (negation l) h.slots gone) h.slots).only x m) [
      | inl w ↦ true≢false (sym (is_in-by gone w.0 (a.all w.0 x w.1 s)) ∙ w.2)
      | inr i ↦ let w = shortened-from h id c l gone x a i in (without-from (negation l) w.1 (negation l) (subst (λ y. Contains y (negation l)) w.5 s.negated)).1 refl
    ]

pub new-idle : (h : Held) (id : ℕ) (c : List Literal) (l : Literal) (gone again : List ℕ) → AreStrengthened h id c l gone → ((i : ℕ) → length h.slots ≤ i → i < length (new_slots h l gone) → Contains again i) → (i : ℕ) → IsNotStrengthening h.slots i → Contains again i ⊎ IsNotStrengthening (new_slots h l gone) i
new-idle h id c l gone again a put i idle =
    elim (cases_lt i (length h.slots)) [
      | inl b ↦ inr (λ x e d k m j s.
          let w = new-back h id c l gone a d m in
          idle x (new-was h l gone i x b e) w.0 k w.1 j (more-strengthens k x d w.0 w.2 s))
      | inr n ↦ elim (cases_lt i (length (new_slots h l gone))) [
        | inl b ↦ inl (put i n b)
        | inr m ↦ inr (dead-useless (new_slots h l gone) i (get_or_past (new_slots h l gone) i None m))
      ]
    ]

-- where no clause strengthens another, each id is idle
pub all-strengthen-none : (h : Held) → NoStrengthened (live_clauses h.slots) → (id : ℕ) → IsNotStrengthening h.slots id
all-strengthen-none h end id c e d l m i t = end c d l (live-at h.slots id c e) m i t

-- what is remembered of the clauses that there were
pub none-strengthened : (seen : Seen) (h : Held) → IsRested strengthening.IsIdle seen h → NoneStrengthenedBelow seen.mark h.slots
none-strengthened seen h r =
    elim r [
      | inl z ↦ record { within = omega (arith, z); none = λ id c lt e. absurd (omega (arith, z, lt)) }
      | inr w ↦
          let before = w.1.before_is in
          let mark = w.1.mark in
          let next = before.next in
          let within : seen.mark ≤ length h.slots = omega (arith, mark, next) in
          record {
            within = within;
            none = λ id c lt e. record {
              within = within;
              none = λ j d l lower f i t. w.2 id c (before.ids id c (omega (arith, mark, lt)) e) d l (live-at w.0.slots j d (before.ids j d (omega (arith, mark, lower)) f)) i t;
            };
          }
    ]

pub strengthens-none-run : (least : ℕ) (c : List Literal) (h u : Held) → StrengthensNoneBelow least h.slots c → IsRun self_subsumption.LeavesAlone h u → StrengthensNoneBelow least u.slots c
strengthens-none-run least c h u a r =
    let within = a.within in
    let next = r.next in
    record { within = omega (arith, within, next); none = λ j d l lower f i t. a.none j d l lower (r.ids j d (omega (arith, within, lower)) f) i t }

pub none-strengthened-run : (mark : ℕ) (h u : Held) → NoneStrengthenedBelow mark h.slots → IsRun self_subsumption.LeavesAlone h u → NoneStrengthenedBelow mark u.slots
none-strengthened-run mark h u a r =
    let within = a.within in
    let next = r.next in
    record { within = omega (arith, within, next); none = λ id c lt e. strengthens-none-run mark c h u (a.none id c lt (r.ids id c (omega (arith, within, lt)) e)) r }

pub strengthens-none : (id mark least : ℕ) (slots : List (Option (List Literal))) (c : List Literal) → NoneStrengthenedBelow mark slots → clause_of slots id ≡ Some c → least ≤ mark → (0 < least → id < mark) → StrengthensNoneBelow least slots c
strengthens-none id mark least slots c a e low old =
    let within = a.within in
    record { within = omega (arith, within, low); none = λ j d l lower f i t. (a.none id c (old (omega arith)) e).none j d l (omega arith) f i t }

pub flipped-no-holder : (least own k : ℕ) (slots : List (Option (List Literal))) (c : List Literal) → k < length c → StrengthensNoneBelow least slots c → HasNoHolderBelow least slots (set c k (negation (lit_at c k))) own
flipped-no-holder least own k slots c h a j d lower f n m = a.none j d (lit_at c k) lower f (lit-in c k h) (flip-strengthens c d k h m)
