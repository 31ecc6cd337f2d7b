-- Which labels cover a label: those of its first clause that each further clause has.
use Rattle.std.proofs.Common.{◌≡◌, ◌≢◌, ◌↔◌, ℕ, ◌+◌, ◌<◌, ◌≤◌, Bool, true, false, not, cond, List, [], ◌∷◌, length, get_or, drop, refl, sym, ◌∙◌, ap, subst, arith, inl, inr, Contains, All, IsTrue}
use Rattle.std.specs.Prelude.{Option, Some, is_some, ◌==◌, ◌&&◌, nat_le}
use Rattle.std.specs.List.{filter}
use Rattle.std.proofs.lemmas.Bool.{and_parts, and_from, ne_eqb, leb-true, le-leb, true≢false, not-true}
use Rattle.std.proofs.lemmas.List.{drop_all, drop_more}
use Rattle.mp_logic.specs.Literal.{Literal}
use Rattle.mp_logic.specs.declared.instances.Cost.{Cost}
use Rattle.mp_logic.proofs.Members.{Contains-first, Contains-later, Contains-cases, All-from_contained}
use Rattle.mp_clauses.specs.Places.{place_of, has}
use Rattle.mp_clauses.specs.Slots.{clause_of, is_live, live_clauses}
use Rattle.mp_clauses.specs.Weighing.{weight_in}
use Rattle.mp_clauses.specs.Occurrences.{slot_has, ids_with}
use Rattle.mp_clauses.proofs.Found.{has-by, has-contains}
use Rattle.mp_store.specs.Held.{Held, labelled_of}
use Rattle.mp_store.proofs.Fixes.{filter-from, filter-has}
use Rattle.mp_store.proofs.KeptFixing.{live-at, live-id}
use Rattle.mp_store.proofs.Measured.{all-at, all-by}
use Rattle.t_labels.specs.Labels.{may_cover}
use Rattle.t_labels.specs.Covers.{IsUnused, IsCovered, covering, cost_in, may_pay, is_in_each}
use Rattle.t_labels.proofs.Labels.{cost-weight, weight-cost, cost-some, at-place, id-in, id-of, may-parts, may-by}

-- one clause more
filter-twice : {X : Type 0} (p q : X → Bool) (xs : List X) → filter q (filter p xs) ≡ filter (λ x. p x && q x) xs
filter-twice p q [] = refl
filter-twice p q (x ∷ xs) =
    let rest = filter-twice p q xs in
    elim (p x) as (λ b. filter q (cond b (x ∷ filter p xs) (filter p xs)) ≡ cond (b && q x) (x ∷ filter (λ x. p x && q x) xs) (filter (λ x. p x && q x) xs)) [
      | true ↦ elim (q x) as (λ b. cond b (x ∷ filter q (filter p xs)) (filter q (filter p xs)) ≡ cond b (x ∷ filter (λ x. p x && q x) xs) (filter (λ x. p x && q x) xs)) [ true ↦ ap (λ ys. x ∷ ys) rest | false ↦ rest ]
      | false ↦ rest
    ]

pub filter-all : {X : Type 0} (p : X → Bool) (xs : List X) → ((x : X) → p x ≡ true) → filter p xs ≡ xs
filter-all p [] h = refl
filter-all p (x ∷ xs) h = rw (h x) (ap (λ ys. x ∷ ys) (filter-all p xs h))

same-filter : {X : Type 0} (p q : X → Bool) (xs : List X) → ((x : X) → p x ≡ q x) → filter p xs ≡ filter q xs
same-filter p q [] h = refl
same-filter p q (x ∷ xs) h = ap (λ b. cond b (x ∷ filter p xs) (filter p xs)) (h x) ∙ ap (λ ys. cond (q x) (x ∷ ys) ys) (same-filter p q xs h)

pub common-step : (s : List (Option (List Literal))) (ids : List ℕ) (i : ℕ) (hand clause : List Literal) (was kept all : List Literal) → i < length ids → Some clause ≡ clause_of s (get_or ids i 0) → hand ≡ clause → kept ≡ filter (λ k. has (place_of k) hand) was
    → filter (is_in_each s (drop i ids)) was ≡ all → filter (is_in_each s (drop (i + 1) ids)) kept ≡ all
common-step s ids i hand clause was kept all lt at same f inv =
    let id : ℕ = get_or ids i 0 in
    let own = drop_more ids i 0 lt in
    let slot : Some hand ≡ clause_of s id = ap (λ (c : List Literal). Some c) same ∙ at in
    let first : filter (is_in_each s (drop i ids)) was ≡ filter (λ (k : Literal). slot_has (place_of k) (clause_of s id) && is_in_each s (drop (i + 1) ids) k) was = ap (λ (xs : List ℕ). filter (is_in_each s xs) was) own in
    ap (filter (is_in_each s (drop (i + 1) ids))) (f ∙ ap (λ (x : Option (List Literal)). filter (λ (k : Literal). slot_has (place_of k) x) was) slot)
    ∙ (filter-twice (λ (k : Literal). slot_has (place_of k) (clause_of s id)) (is_in_each s (drop (i + 1) ids)) was ∙ (sym first ∙ inv))

pub common-end : (s : List (Option (List Literal))) (ids : List ℕ) (i : ℕ) (kept all : List Literal) → length ids ≤ i → filter (is_in_each s (drop i ids)) kept ≡ all → kept ≡ all
common-end s ids i kept all le inv =
    let none = drop_all i ids le in
    sym (filter-all (is_in_each s []) kept (λ x. refl)) ∙ (ap (λ (xs : List ℕ). filter (is_in_each s xs) kept) (sym none) ∙ inv)

pub common-none : (s : List (Option (List Literal))) (ids : List ℕ) (kept all : List Literal) → length kept ≡ 0 → filter (is_in_each s ids) kept ≡ all → kept ≡ all
common-none s ids [] all e inv = inv
common-none s ids (k ∷ kept) all e inv = absurd (omega arith)

-- whether some are left
some-left : (xs : List Literal) → (length xs == 0) ≡ false → (k : Literal) × Contains xs k
some-left [] e = absurd (true≢false e)
some-left (k ∷ xs) e = (k, Contains-first k xs)

full : (xs : List Literal) (k : Literal) → Contains xs k → (length xs == 0) ≡ false
full xs k i = let lt = i.1 in ne_eqb (length xs) 0 (λ z. omega (arith, lt, z))

pub unused-by : (l : Literal) (s : List (Option (List Literal))) (ids : List ℕ) → ids ≡ ids_with (place_of l) s → length ids ≡ 0 → IsUnused l (live_clauses s)
unused-by l s ids e z c m i =
    let w = live-id s c m in
    let at = subst (λ (xs : List ℕ). Contains xs w.0) (sym e) (id-in l s w.0 c w.1 i) in
    let lt = at.1 in absurd (omega (arith, lt, z))

-- the clauses of the first id and of the others are live
pub first-live : (l : Literal) (s : List (Option (List Literal))) (ids rest : List ℕ) (first : ℕ) → ids ≡ ids_with (place_of l) s → ids ≡ first ∷ rest → is_live s first ≡ true
first-live l s ids rest first e split = let o = id-of l s first (subst (λ (xs : List ℕ). Contains xs first) (sym split ∙ e) (Contains-first first rest)) in ap is_some o.1

pub rest-live : (l : Literal) (s : List (Option (List Literal))) (ids rest : List ℕ) (first : ℕ) → ids ≡ ids_with (place_of l) s → ids ≡ first ∷ rest → All (λ id. is_live s id ≡ true) rest
rest-live l s ids rest first e split = All-from_contained (λ id. is_live s id ≡ true) rest (λ id i. let o = id-of l s id (subst (λ (xs : List ℕ). Contains xs id) (sym split ∙ e) (Contains-later first rest id i)) in ap is_some o.1)

-- exactly those of the first clause that the others have too
pub covered-exact : (h : Held) (l : Literal) (ids rest : List ℕ) (first : ℕ) (c was kept : List Literal) (t : Bool) → weight_in h.weights l ≢ 0 → ids ≡ ids_with (place_of l) h.slots → ids ≡ first ∷ rest → Some c ≡ clause_of h.slots first
    → was ≡ filter (may_pay h l) c → kept ≡ filter (is_in_each h.slots rest) was → t ≡ (length kept == 0) → IsTrue (not t) ↔ IsCovered (cost_in h.weights l) (labelled_of h)
covered-exact h l ids rest first c was kept t n e split at f g z =
    let same : ids_with (place_of l) h.slots ≡ first ∷ rest = sym e ∙ split in
    let own = id-of l h.slots first (subst (λ (xs : List ℕ). Contains xs first) (sym same) (Contains-first first rest)) in
    let is : own.0 ≡ c = (let q : Some own.0 ≡ Some c = sym own.1 ∙ sym at in cc) in
    let has_l : Contains c l = subst (λ (x : List Literal). Contains x l) is own.2 in
    let live = live-at h.slots first c (sym at) in (
      λ yes_.
          let none : (length kept == 0) ≡ false = sym z ∙ not-true t yes_ in
          let b = some-left kept none in
          let a = filter-from (is_in_each h.slots rest) was b.0 (subst (λ (xs : List Literal). Contains xs b.0) g b.1) in
          let d = filter-from (may_pay h l) c b.0 (subst (λ (xs : List Literal). Contains xs b.0) f a.0) in
          let parts = and_parts (nat_le (weight_in h.weights b.0) (weight_in h.weights l)) (may_cover (weight_in h.weights) (live_clauses h.slots) l b.0) d.1 in
          let may = may-parts (weight_in h.weights) (live_clauses h.slots) l b.0 parts.1 in
          inr (
            cost_in h.weights b.0,
            record {
              cost = weight-cost h.weights b.0 may.some;
              other = may.other;
              plain = may.plain;
              weight = leb-true (weight_in h.weights b.0) (weight_in h.weights l) parts.0;
              covers = λ x m i.
                  let w = live-id h.slots x m in
                  elim (Contains-cases first rest w.0 (subst (λ (xs : List ℕ). Contains xs w.0) same (id-in l h.slots w.0 x w.1 i))) [
                    | inl o ↦
                        let twice : Some c ≡ Some x = at ∙ (ap (clause_of h.slots) (sym o) ∙ w.1) in
                        let again : c ≡ x = cc in
                        subst (λ (y : List Literal). Contains y b.0) again d.0
                    | inr r ↦
                        let q = all-at (λ id. slot_has (place_of b.0) (clause_of h.slots id)) rest w.0 a.1 r in
                        has-contains x b.0 (rw w.1 at q)
                  ];
            },
          ),
      λ k. elim k [
        | inl un ↦ absurd (un c live has_l)
        | inr q ↦
            let by = q.1 in
            let weighs = cost-weight h.weights q.0 by.cost in
            let le = by.weight in
            let pays : nat_le (weight_in h.weights q.0.lit) (weight_in h.weights l) ≡ true = le-leb (weight_in h.weights q.0.lit) (weight_in h.weights l) (omega (arith, le, weighs.0)) in
            let may = may-by (weight_in h.weights) (live_clauses h.slots) l q.0.lit (record { some = cost-some h.weights q.0 by.cost; other = by.other; plain = by.plain }) in
            let there = filter-has (may_pay h l) c q.0.lit (by.covers c live has_l) (and_from (nat_le (weight_in h.weights q.0.lit) (weight_in h.weights l)) (may_cover (weight_in h.weights) (live_clauses h.slots) l q.0.lit) pays may) in
            let each : is_in_each h.slots rest q.0.lit ≡ true = all-by (λ id. slot_has (place_of q.0.lit) (clause_of h.slots id)) rest (λ id i.
            let w = id-of l h.slots id (subst (λ (xs : List ℕ). Contains xs id) (sym same) (Contains-later first rest id i)) in
            rw w.1 (has-by w.0 q.0.lit (by.covers w.0 (live-at h.slots id w.0 w.1) w.2))) in
            let kept_there : Contains kept q.0.lit = subst (λ (xs : List Literal). Contains xs q.0.lit) (sym g) (filter-has (is_in_each h.slots rest) was q.0.lit (subst (λ (xs : List Literal). Contains xs q.0.lit) (sym f) there) each) in
            ap not (z ∙ full kept q.0.lit kept_there)
      ],
    )

-- a label that is not covered is idle
pub covered-idle : (h : Held) (l : Literal) (item : ℕ) → place_of l ≡ item → (IsCovered (cost_in h.weights l) (labelled_of h) → ⊥) → covering.IsIdle h item
covered-idle h l item at unlike p i e c = unlike (subst (λ (q : Cost). IsCovered q (labelled_of h)) (at-place h.weights l p i (e ∙ sym at)) c)
