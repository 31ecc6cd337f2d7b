-- What a rewrite of clauses leaves.
use Rattle.std.proofs.Common.{◌≡◌, ◌≢◌, ◌⊎◌, ℕ, ◌+◌, ◌-◌, ◌<◌, ◌≤◌, Bool, true, false, cond, List, [], ◌∷◌, length, get_or, set, zero, suc, refl, sym, ◌∙◌, ap, subst, arith, sum_by, sum, inl, inr, Contains, All, add-zero}
use Rattle.std.specs.Prelude.{Option, Some, None, is_some, not, ◌==◌, ◌||◌, map}
use Rattle.std.specs.List.{list_all}
use Rattle.std.proofs.lemmas.Bool.{cases_Bool, or_parts, and_parts, eq-eqb, ne_eqb, true≢false, false≢true, not-true}
use Rattle.std.proofs.lemmas.List.{append-nil, length-append, get_or_append_left, get_or-append_right}
use Rattle.std.proofs.lemmas.List.Elements.{All-contains, Contains-append_cases, Contains-append_left, Contains-append_right}
use Rattle.std.proofs.lemmas.List.Sums.{sum_by-cons, sum_by-append}
use Rattle.std.proofs.Math.ListN.{length-set}
use Rattle.mp_logic.specs.Literal.{Literal, IsUpTo}
use Rattle.mp_logic.specs.Keeping.{State}
use Rattle.mp_logic.specs.declared.instances.Cost.{Cost}
use Rattle.mp_logic.proofs.Members.{Contains-first, Contains-later}
use Rattle.mp_store.specs.declared.rewrite.Rewrite.{Rewrite}
use Rattle.mp_clauses.specs.Places.{place_of, is_in, no_repeats}
use Rattle.mp_store.specs.Held.{Held, labelled_of}
use Rattle.mp_clauses.specs.Slots.{clause_of, is_live, live_clauses, has_empty}
use Rattle.mp_clauses.specs.Slots.{cleared}
use Rattle.mp_store.specs.Rewriting.{weights_after, changed_by, refuted_by, after}
use Rattle.mp_store.specs.Measures.{occurring, is_covered, uncovered, IsLower, IsSmaller}
use Rattle.mp_store.specs.Replacing.{KeepsCosts, replaced, clauses_after, ReplacingLeaves, ReplacedClauses, ReplacedIds, slot_worth, worth_of, ReplacedSums, ReplacedCount, ReplacementIsValid, CoversStay, ReplacingIsSmaller}
use Rattle.mp_clauses.proofs.Found.{any-by, any-found}
use Rattle.mp_store.proofs.Sound.{live-after}
use Rattle.mp_store.proofs.KeptFixing.{live-at, live-id, cleared-out, cleared-other}
use Rattle.mp_store.proofs.Measured.{uncovered-le, covered-only, only-covered, lower-or-same}

pub same-weights : (r : Rewrite) (h : Held) → KeepsCosts r → weights_after r h ≡ h.weights
same-weights r h k = rw (k.costs, k.fresh) (append-nil h.weights)

pub replacing_leaves : ReplacingLeaves
replacing_leaves r h k =
    let weights = same-weights r h k in
    let vars : h.vars + r.fresh ≡ h.vars = ap (λ n. h.vars + n) k.fresh ∙ add-zero h.vars in
    let offset : h.offset + r.shift ≡ h.offset = ap (λ n. h.offset + n) k.shift ∙ add-zero h.offset in
    rw (weights, vars, offset) refl

pub length-cleared : (gone : List ℕ) (s : List (Option (List Literal))) → length (cleared gone s) ≡ length s
length-cleared [] s = refl
length-cleared (g ∷ gs) s = length-cleared gs (set s g None) ∙ length-set s g None

pub replaced_clauses : ReplacedClauses
replaced_clauses gone added slots = record {
  kept = λ id c e f.
      let stays = live-at (cleared gone slots) id c (cleared-other gone slots id f ∙ e) in
      rw (live-after gone added slots) (Contains-append_left (live_clauses (cleared gone slots)) added c stays);
  come = λ c m. rw (live-after gone added slots) (Contains-append_right (live_clauses (cleared gone slots)) added c m);
  only = λ c m.
      elim (Contains-append_cases (live_clauses (cleared gone slots)) added c (rw (live-after gone added slots) at m)) [
        | inl a ↦
            let w = live-id (cleared gone slots) c a in
            elim (cases_Bool (is_in w.0 gone)) [
              | inl t ↦ let n = cleared-out gone slots w.0 t in let e = w.1 in absurd (cc)
              | inr f ↦ inl (w.0, sym (cleared-other gone slots w.0 f) ∙ w.1, f)
            ]
        | inr b ↦ inr b
      ];
}

some-at : (cs : List (List Literal)) (k : ℕ) (c : List Literal) → get_or (map Some cs) k None ≡ Some c → Contains cs c
some-at [] k c h = absurd (cc)
some-at (d ∷ cs) zero c h = let e : d ≡ c = cc in subst (Contains (d ∷ cs)) e (Contains-first d cs)
some-at (d ∷ cs) (suc k) c h = Contains-later d cs c (some-at cs k c h)

length-some : (cs : List (List Literal)) → length (map Some cs) ≡ length cs
length-some [] = refl
length-some (c ∷ cs) = ap suc (length-some cs)

pub replaced_ids : ReplacedIds
replaced_ids gone added slots =
    let len = length-cleared gone slots in
    record {
      gone_ids = λ id t below. get_or_append_left (cleared gone slots) (map Some added) None id (omega (arith, len)) ∙ cleared-out gone slots id t;
      kept_ids = λ id f below. get_or_append_left (cleared gone slots) (map Some added) None id (omega (arith, len)) ∙ cleared-other gone slots id f;
      new_ids = λ k c e.
          let at = get_or-append_right (cleared gone slots) (map Some added) (length slots) (length slots + k) None len (omega arith) in
          let n : length slots + k - length slots ≡ k = omega arith in
          some-at added k c (sym (at ∙ ap (λ j. get_or (map Some added) j None) n) ∙ e);
      len = length-append (cleared gone slots) (map Some added) ∙ omega (arith, len, length-some added);
    }

-- sums
sum-set : (f : List Literal → ℕ) (s : List (Option (List Literal))) (k : ℕ) → sum_by f (live_clauses (set s k None)) + slot_worth f (get_or s k None) ≡ sum_by f (live_clauses s)
sum-set f [] k = omega arith
sum-set f (None ∷ s) zero = omega arith
sum-set f (Some c ∷ s) zero = omega (arith, sum_by-cons f c (live_clauses s))
sum-set f (None ∷ s) (suc k) = sum-set f s k
sum-set f (Some c ∷ s) (suc k) = omega (arith, sum-set f s k, sum_by-cons f c (live_clauses s), sum_by-cons f c (live_clauses (set s k None)))

set-other : (s : List (Option (List Literal))) (g k : ℕ) → g ≢ k → get_or (set s g None) k None ≡ get_or s k None
set-other s g k n =
    let far : is_in k (g ∷ []) ≡ false = rw (ne_eqb g k n) refl in
    cleared-other (g ∷ []) s k far

worth-other : (f : List Literal → ℕ) (s : List (Option (List Literal))) (g : ℕ) (ids : List ℕ) → is_in g ids ≡ false → worth_of f (set s g None) ids ≡ worth_of f s ids
worth-other f s g [] h = refl
worth-other f s g (x ∷ ids) h =
    let parts = or_parts (x == g) (is_in g ids) h in
    let far : g ≢ x = λ e. true≢false (sym (eq-eqb x g (sym e)) ∙ parts.0) in
    let own : slot_worth f (clause_of (set s g None) x) ≡ slot_worth f (clause_of s x) = ap (slot_worth f) (set-other s g x far) in
    let rest = worth-other f s g ids parts.1 in
    omega (arith, own, rest, sum_by-cons (λ id. slot_worth f (clause_of s id)) x ids, sum_by-cons (λ id. slot_worth f (clause_of (set s g None) id)) x ids)

sum-cleared : (f : List Literal → ℕ) (gone : List ℕ) (s : List (Option (List Literal))) → no_repeats gone ≡ true → sum_by f (live_clauses (cleared gone s)) + worth_of f s gone ≡ sum_by f (live_clauses s)
sum-cleared f [] s h = omega arith
sum-cleared f (g ∷ gs) s h =
    let parts = and_parts (not (is_in g gs)) (no_repeats gs) h in
    let rest = sum-cleared f gs (set s g None) parts.1 in
    let own = sum-set f s g in
    let others = worth-other f s g gs (not-true (is_in g gs) parts.0) in
    omega (arith, rest, own, others, sum_by-cons (λ id. slot_worth f (clause_of s id)) g gs)

pub replaced_sums : ReplacedSums
replaced_sums f gone added slots d =
    let all = ap (sum_by f) (live-after gone added slots) ∙ sum_by-append f (live_clauses (cleared gone slots)) added in
    let some = sum-cleared f gone slots d in
    omega (arith, all, some)

pub sum-ones : {X : Type 0} (xs : List X) → sum_by (λ x. 1) xs ≡ length xs
sum-ones [] = refl
sum-ones (x ∷ xs) = omega (arith, sum-ones xs, sum_by-cons (λ x. 1) x xs)

one-live : (slot : Option (List Literal)) → is_some slot ≡ true → slot_worth (λ c. 1) slot ≡ 1
one-live None h = absurd (false≢true h)
one-live (Some c) h = refl

pub worth-live : (slots : List (Option (List Literal))) (ids : List ℕ) → ((id : ℕ) → Contains ids id → is_live slots id ≡ true) → worth_of (λ c. 1) slots ids ≡ length ids
worth-live slots [] h = refl
worth-live slots (x ∷ ids) h =
    omega (arith, worth-live slots ids (λ id i. h id (Contains-later x ids id i)), one-live (clause_of slots x) (h x (Contains-first x ids)), sum_by-cons (λ id. slot_worth (λ c. 1) (clause_of slots id)) x ids)

pub replaced_count : ReplacedCount
replaced_count gone added slots live d =
    let s = replaced_sums (λ c. 1) gone added slots d in
    let w = worth-live slots gone (λ id i. All-contains (λ id. is_live slots id ≡ true) gone id live i) in
    omega (arith, s, w, sum-ones (live_clauses (replaced gone added slots)), sum-ones (live_clauses slots), sum-ones added)

none-all : {X : Type 0} (P : X → Type 0) → All P []
none-all P k d h = absurd (omega arith)

pub replacement_is_valid : ReplacementIsValid
replacement_is_valid r h s v =
    let k = v.keeps_costs in
    let weights = same-weights r h k in
    let vars : h.vars + r.fresh ≡ h.vars = ap (λ n. h.vars + n) k.fresh ∙ add-zero h.vars in
    let fresh = k.fresh in
    let shift = k.shift in
    let limit = s.limit in
    let sums = ap sum weights in
    record {
      gone_live = v.gone_live;
      gone_distinct = v.gone_distinct;
      added_normal = v.added_normal;
      fresh = omega arith;
      limit = omega arith;
      added_within = rw vars v.added_within;
      costs_within = rw k.costs (none-all (λ c. IsUpTo (h.vars + r.fresh) c.lit));
      costs_distinct = rw k.costs refl;
      repairs_proper = rw vars v.repairs_proper;
      apart = rw weights s.weights.one_each;
      total = omega arith;
    }

-- covers
pub covered-stays : (r : Rewrite) (h : Held) → CoversStay (labelled_of h).costs h.slots r.gone (clauses_after r h) → (p q : Cost) → Contains (labelled_of h).costs p → Contains (labelled_of h).costs q
    → is_covered (live_clauses h.slots) p.lit q.lit ≡ true → is_covered (clauses_after r h) p.lit q.lit ≡ true
covered-stays r h cover p q i j t =
    let test : List Literal → Bool = λ c. list_all (λ k. (place_of k == place_of p.lit) || (place_of k == place_of q.lit)) c in
    let w = any-found test (live_clauses h.slots) t in
    let only = covered-only p.lit q.lit w.0 w.2 in
    let at = live-id h.slots w.0 w.1 in
    let all = replaced_clauses r.gone r.added h.slots in
    elim (cases_Bool (is_in at.0 r.gone)) [
      | inr f ↦ any-by test (clauses_after r h) w.0 (all.kept at.0 w.0 at.1 f) w.2
      | inl g ↦ elim (cover at.0 w.0 g at.1) [
        | inl l ↦ absurd (elim (only l.0 l.1) [ inl e ↦ l.2 p i (sym e) | inr e ↦ l.2 q j (sym e) ])
        | inr d ↦ any-by test (clauses_after r h) d.0 d.1 (only-covered p.lit q.lit d.0 (λ k m. only k (d.2 k m)))
      ]
    ]

lower-last : (n m x y a b : ℕ) → n ≡ m → (x < y) ⊎ ((x ≤ y) × (a < b)) → IsLower (n ∷ (x ∷ (a ∷ []))) (m ∷ (y ∷ (b ∷ [])))
lower-last n m x y a b e h = inr (e, elim h [ inl l ↦ inl l | inr l ↦ lower-or-same x y (a ∷ []) (b ∷ []) l.0 (inl l.1) ])

pub replacing_is_smaller : ReplacingIsSmaller
replacing_is_smaller r h v cover fewer =
    let ps = (labelled_of h).costs in
    let cs = live_clauses h.slots in
    let ds = clauses_after r h in
    let count = replaced_count r.gone r.added h.slots v.gone_live v.gone_distinct in
    let literals = replaced_sums length r.gone r.added h.slots v.gone_distinct in
    let rest : IsLower (length ds ∷ (occurring h.vars ds ∷ (sum_by length ds ∷ []))) (length cs ∷ (occurring h.vars cs ∷ (sum_by length cs ∷ []))) =
    elim fewer [
      | inl l ↦ inl (omega (arith, count, l))
      | inr e ↦
          lower-last (length ds) (length cs) (occurring h.vars ds) (occurring h.vars cs) (sum_by length ds) (sum_by length cs) (let same = e.0 in omega (arith, count, same))
          (elim e.1 [ inl l ↦ inl l | inr l ↦ inr (l.0, let less = l.1 in omega (arith, literals, less)) ])
    ] in
    let P : State → Type 0 = λ t. IsSmaller t (labelled_of h) in
    subst P (sym (replacing_leaves r h v.keeps_costs)) (inr (refl, inr (refl, lower-or-same (uncovered ds ps) (uncovered cs ps) (length ds ∷ (occurring h.vars ds ∷ (sum_by length ds ∷ []))) (length cs ∷ (occurring h.vars cs ∷ (sum_by length cs ∷ []))) (uncovered-le cs ds ps (covered-stays r h cover)) rest)))

-- a rewrite that is no refutation
pub after-unrefuted : (r : Rewrite) (h : Held) → (after r h).refuted ≡ false → after r h ≡ changed_by r h
after-unrefuted r h e =
    let step : (b : Bool) → (cond b (refuted_by r h) (changed_by r h)).refuted ≡ false → cond b (refuted_by r h) (changed_by r h) ≡ changed_by r h =
    λ (t : Bool). elim t as (λ b. (cond b (refuted_by r h) (changed_by r h)).refuted ≡ false → cond b (refuted_by r h) (changed_by r h) ≡ changed_by r h) [ true ↦ λ f. absurd (true≢false f) | false ↦ λ f. refl ] in
    step (has_empty r.added) e

pub after-plain : (r : Rewrite) (h : Held) → has_empty r.added ≡ false → after r h ≡ changed_by r h
after-plain r h e = ap (λ b. cond b (refuted_by r h) (changed_by r h)) e
