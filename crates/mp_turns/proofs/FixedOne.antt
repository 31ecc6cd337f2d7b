-- What fixing one literal does to a store: a run, costs that were there before, and a smaller state.
use Rattle.std.proofs.Common.{◌≡◌, ◌≢◌, ◌⊎◌, ℕ, ◌+◌, ◌<◌, ◌≤◌, Bool, true, false, not, cond, List, [], ◌∷◌, ◌++◌, length, get_or, refl, sym, ◌∙◌, ap, subst, arith, sum_by, sum, inl, inr, Contains, add-zero}
use Rattle.std.specs.Prelude.{Option, Some, None, ◌==◌, ◌||◌, ◌&&◌}
use Rattle.std.specs.List.{list_all}
use Rattle.std.proofs.lemmas.Bool.{cases_Bool, eqb-true, eq-eqb, or_left, true≢false}
use Rattle.std.proofs.lemmas.List.{length-append}
use Rattle.std.proofs.lemmas.List.Elements.{Contains-append_cases}
use Rattle.mp_logic.specs.Literal.{Literal, negation, IsUpTo}
use Rattle.mp_logic.specs.Keeping.{State}
use Rattle.mp_logic.specs.Fixing.{Bends}
use Rattle.mp_logic.specs.Sets.{Among}
use Rattle.mp_logic.specs.Rewrites.{set_repair}
use Rattle.mp_logic.specs.declared.instances.Cost.{Cost}
use Rattle.mp_logic.specs.declared.instances.Repair.{Repair}
use Rattle.mp_logic.proofs.Literals.{same_or_negation}
use Rattle.mp_logic.proofs.Fixed.{fixing_keeps}
use Rattle.mp_clauses.specs.Places.{place_of, literal_at, is_in, has}
use Rattle.mp_store.specs.Held.{Held, IsUntouched, labelled_of}
use Rattle.mp_clauses.specs.Slots.{clause_of, live_clauses}
use Rattle.mp_clauses.specs.Weighing.{costs_of, weight_in}
use Rattle.mp_clauses.specs.Slots.{cleared}
use Rattle.mp_clauses.specs.Weighing.{weighted}
use Rattle.mp_store.specs.Rewriting.{changed_by, after}
use Rattle.mp_store.specs.Soundness.{IsStore}
use Rattle.mp_clauses.specs.Occurrences.{ids_where}
use Rattle.mp_store.specs.Fixing.{meets, clashes, without, slot_touched, touched_by, left_of, shortened, paid_off_one, paid_off, fixing_of}
use Rattle.mp_store.specs.Measures.{occurs, occurring, is_covered, uncovered, IsSmaller}
use Rattle.mp_store.specs.Techniques.{IsRun}
use Rattle.mp_clauses.proofs.Pricing.{cost_at, has_cost, sum-costs, place-literal}
use Rattle.mp_store.proofs.Sound.{live-after}
use Rattle.mp_clauses.proofs.Found.{any-by, any-found, ids_where-at, ids_where-once}
use Rattle.mp_store.proofs.Fixes.{sum-set-zero, weighted-zeros, weights-fixed, paid-from, untouched-left, touched-live, shortened-from, filter-from}
use Rattle.mp_store.proofs.KeptFixing.{live-id, cleared-out, cleared-other, negated-one, meets-one, one-meets, new-slots, fixed-weights, table-fixed, untouched-live, store-fixed, store-paid, store-variables}
use Rattle.mp_store.proofs.Measured.{occurs-by, occurs-found, occurring-lower, uncovered-le, covered-only, lower-or-same}
use Rattle.mp_store.proofs.Replaced.{replaced_count}
use Rattle.mp_store.proofs.Rewritten.{run-after}

-- a literal may be fixed that, for each model, some model of no greater cost makes true
pub fixing-run : (L : State → State → List Repair → Type 0) (h u : Held) (l : Literal) → IsStore h → IsUpTo h.vars l → Bends (labelled_of h) l → IsUntouched (after (fixing_of (l ∷ []) h) h) u →
    L (labelled_of h) (labelled_of (changed_by (fixing_of (l ∷ []) h) h)) (set_repair l (l ∷ []) ∷ []) → IsRun L h u
fixing-run L h u l s up bends e alone =
    let same : h.vars + 0 ≡ h.vars = add-zero h.vars in
    run-after L (fixing_of (l ∷ []) h) h u e (fixing_keeps (labelled_of h) (labelled_of (changed_by (fixing_of (l ∷ []) h) h)) l (store-variables h s) up.0 bends (store-fixed l h) (store-paid l h s up) same) alone

-- each cost is one that there was
pub costs-among : (h : Held) (l : Literal) → Among (costs_of (fixed-weights l h)) (costs_of h.weights)
costs-among h l p m =
    let c = cost_at 0 (fixed-weights l h) p m in
    let same : get_or (fixed-weights l h) c.place 0 ≡ get_or (weighted (paid_off h.weights (l ∷ [])) h.weights) c.place 0 = ap (λ w. get_or w c.place 0) (weights-fixed h (l ∷ [])) in
    elim (weighted-zeros (paid_off h.weights (l ∷ [])) h.weights c.place (λ d i. (paid-from h.weights (l ∷ []) d i).weight)) [
      | inr z ↦ absurd (c.some (same ∙ z))
      | inl e ↦
          let value : get_or (fixed-weights l h) c.place 0 ≡ get_or h.weights c.place 0 = same ∙ e in
          let there = has_cost 0 h.weights c.place (λ z. c.some (value ∙ z)) in
          let is : p ≡ record { lit = literal_at (0 + c.place); weight = get_or h.weights c.place 0 } = c.is ∙ ap (λ (n : ℕ). record { lit = literal_at (0 + c.place); weight = n }) value in
          subst (Contains (costs_of h.weights)) (sym is) there
    ]

-- the weights fall, or no cost is on the variable
pub pay-cases : (l : Literal) (w : List ℕ) → (sum (weighted (paid_off_one w l) w) < sum w) ⊎ ((weighted (paid_off_one w l) w ≡ w) × (weight_in w l ≡ 0) × (weight_in w (negation l) ≡ 0))
pay-cases l w =
    let step : (x y : Bool) → (weight_in w l == 0) ≡ x → (weight_in w (negation l) == 0) ≡ y →
    (sum (weighted (cond x (cond y [] (record { lit = negation l; weight = 0 } ∷ [])) (record { lit = l; weight = 0 } ∷ [])) w) < sum w) ⊎ ((weighted (cond x (cond y [] (record { lit = negation l; weight = 0 } ∷ [])) (record { lit = l; weight = 0 } ∷ [])) w ≡ w) × (weight_in w l ≡ 0) × (weight_in w (negation l) ≡ 0)) =
    λ (s : Bool) (t : Bool). elim s as (λ x. (weight_in w l == 0) ≡ x → (weight_in w (negation l) == 0) ≡ t →
    (sum (weighted (cond x (cond t [] (record { lit = negation l; weight = 0 } ∷ [])) (record { lit = l; weight = 0 } ∷ [])) w) < sum w) ⊎ ((weighted (cond x (cond t [] (record { lit = negation l; weight = 0 } ∷ [])) (record { lit = l; weight = 0 } ∷ [])) w ≡ w) × (weight_in w l ≡ 0) × (weight_in w (negation l) ≡ 0))) [
      | true ↦ λ e. elim t as (λ y. (weight_in w (negation l) == 0) ≡ y →
          (sum (weighted (cond y [] (record { lit = negation l; weight = 0 } ∷ [])) w) < sum w) ⊎ ((weighted (cond y [] (record { lit = negation l; weight = 0 } ∷ [])) w ≡ w) × (weight_in w l ≡ 0) × (weight_in w (negation l) ≡ 0))) [
            | true ↦ λ f. inr (refl, eqb-true (weight_in w l) 0 e, eqb-true (weight_in w (negation l)) 0 f)
            | false ↦ λ f. let n : weight_in w (negation l) ≢ 0 = λ z. true≢false (sym (eq-eqb (weight_in w (negation l)) 0 z) ∙ f) in inl (let p = sum-set-zero w (place_of (negation l)) in omega arith)
          ]
      | false ↦ λ e f. let n : weight_in w l ≢ 0 = λ z. true≢false (sym (eq-eqb (weight_in w l) 0 z) ∙ e) in inl (let p = sum-set-zero w (place_of l) in omega arith)
    ] in
    step (weight_in w l == 0) (weight_in w (negation l) == 0) refl refl

no-cost-on : (h : Held) (l : Literal) → weight_in h.weights l ≡ 0 → weight_in h.weights (negation l) ≡ 0 → (p : Cost) → Contains (costs_of h.weights) p → p.lit.variable ≢ l.variable
no-cost-on h l z y p m e =
    let c = cost_at 0 h.weights p m in
    let at : place_of p.lit ≡ c.place = let n : 0 + c.place ≡ c.place = omega arith in ap (λ (q : Cost). place_of q.lit) c.is ∙ (place-literal (0 + c.place) ∙ n) in
    elim (same_or_negation p.lit l e) [
      | inl f ↦ c.some (subst (λ k. get_or h.weights k 0 ≡ 0) (ap place_of (sym f) ∙ at) z)
      | inr f ↦ c.some (subst (λ k. get_or h.weights k 0 ≡ 0) (ap place_of (sym f) ∙ at) y)
    ]

-- a clause whose literals are on other variables stays
clash-far : (l : Literal) (c : List Literal) → ((k : Literal) → Contains c k → k.variable ≢ l.variable) → clashes (l ∷ []) c ≡ true → ⊥
clash-far l c far t =
    let w = any-found (λ k. has (place_of (negation k)) (l ∷ [])) c t in
    far w.0 w.1 (ap (λ (k : Literal). k.variable) (negated-one l w.0 w.2))

other-stays : (l : Literal) (h : Held) (c : List Literal) → Contains (live_clauses h.slots) c → ((k : Literal) → Contains c k → k.variable ≢ l.variable) → Contains (live_clauses (new-slots l h)) c
other-stays l h c m far =
    untouched-live l h c m
    (elim (cases_Bool (meets (l ∷ []) c)) [ inl t ↦ absurd (far l (meets-one l c t) refl) | inr f ↦ f ])
    (elim (cases_Bool (clashes (l ∷ []) c)) [ inl t ↦ absurd (clash-far l c far t) | inr f ↦ f ])

-- what was covered stays covered
covered-stays : (l : Literal) (h : Held) (a b : Literal) → a.variable ≢ l.variable → b.variable ≢ l.variable → is_covered (live_clauses h.slots) a b ≡ true → is_covered (live_clauses (new-slots l h)) a b ≡ true
covered-stays l h a b na nb t =
    let test : List Literal → Bool = λ c. list_all (λ k. (place_of k == place_of a) || (place_of k == place_of b)) c in
    let w = any-found test (live_clauses h.slots) t in
    any-by test (live_clauses (new-slots l h)) w.0 (other-stays l h w.0 w.1 (λ k i.
    elim (covered-only a b w.0 w.2 k i) [
      | inl e ↦ subst (λ (j : Literal). j.variable ≢ l.variable) (sym e) na
      | inr e ↦ subst (λ (j : Literal). j.variable ≢ l.variable) (sym e) nb
    ])) w.2

-- at most one clause comes for each that goes
short-few : (us : List Literal) (i : ℕ) (s : List (Option (List Literal))) → length (shortened us s) ≤ length (ids_where (slot_touched us) i s)
short-few us i [] = omega arith
short-few us i (None ∷ s) = short-few us (i + 1) s
short-few us i (Some c ∷ s) =
    let rest = short-few us (i + 1) s in
    let split = length-append (left_of us (Some c)) (shortened us s) in
    let one : length (left_of us (Some c)) ≤ 1 = elim (clashes us c && not (meets us c)) as (λ b. length (cond b (without us c ∷ []) []) ≤ 1) [ true ↦ omega arith | false ↦ omega arith ] in
    let step : (b : Bool) → slot_touched us (Some c) ≡ b → length (left_of us (Some c) ++ shortened us s) ≤ length (cond b (i ∷ ids_where (slot_touched us) (i + 1) s) (ids_where (slot_touched us) (i + 1) s)) =
    λ (t : Bool). elim t as (λ b. slot_touched us (Some c) ≡ b → length (left_of us (Some c) ++ shortened us s) ≤ length (cond b (i ∷ ids_where (slot_touched us) (i + 1) s) (ids_where (slot_touched us) (i + 1) s))) [
      | true ↦ λ e. omega arith
      | false ↦ λ e. let none = ap length (untouched-left us (Some c) e) in omega arith
    ] in
    step (slot_touched us (Some c)) refl

pub no-more-clauses : (h : Held) (l : Literal) → length (live_clauses (new-slots l h)) ≤ length (live_clauses h.slots)
no-more-clauses h l =
    let ids = touched_by (l ∷ []) h.slots in
    let count = replaced_count ids (shortened (l ∷ []) h.slots) h.slots (touched-live (l ∷ []) h.slots) (ids_where-once (slot_touched (l ∷ [])) 0 h.slots) in
    let few = short-few (l ∷ []) 0 h.slots in
    omega (arith, count, few)

-- the variable of the literal occurs no more, and no other begins to occur
pub still-occurs : (h : Held) (l : Literal) (v : ℕ) → occurs v (live_clauses (new-slots l h)) ≡ true → occurs v (live_clauses h.slots) ≡ true
still-occurs h l v t =
    let o = occurs-found v (live_clauses (new-slots l h)) t in
    let c = (store-fixed l h).only o.clause o.live in
    occurs-by v (live_clauses h.slots) c.0 o.literal c.1 (c.2.only o.literal o.has).0 o.variable

met-gone : (h : Held) (l : Literal) (d : List Literal) → Contains (live_clauses (new-slots l h)) d → Contains d l → ⊥
met-gone h l d m i =
    let ids = touched_by (l ∷ []) h.slots in
    let met = one-meets l d i in
    elim (Contains-append_cases (live_clauses (cleared ids h.slots)) (shortened (l ∷ []) h.slots) d (rw (live-after ids (shortened (l ∷ []) h.slots) h.slots) at m)) [
      | inl a ↦
          let w = live-id (cleared ids h.slots) d a in
          elim (cases_Bool (is_in w.0 ids)) [
            | inl t ↦ let n = cleared-out ids h.slots w.0 t in let e = w.1 in cc
            | inr f ↦
                let was : clause_of h.slots w.0 ≡ Some d = sym (cleared-other ids h.slots w.0 f) ∙ w.1 in
                let test : slot_touched (l ∷ []) (clause_of h.slots w.0) ≡ true = rw was (or_left (meets (l ∷ []) d) (clashes (l ∷ []) d) met) in
                true≢false (sym (ids_where-at (slot_touched (l ∷ [])) h.slots w.0 refl ∙ test) ∙ f)
          ]
      | inr b ↦
          let f = shortened-from (l ∷ []) h.slots d b in
          let there = (filter-from (λ k. not (has (place_of (negation k)) (l ∷ []))) f.clause l (subst (λ x. Contains x l) f.is i)).0 in
          true≢false (sym (one-meets l f.clause there) ∙ f.met)
    ]

pub occurs-no-more : (h : Held) (l : Literal) → occurs l.variable (live_clauses (new-slots l h)) ≡ false
occurs-no-more h l =
    elim (cases_Bool (occurs l.variable (live_clauses (new-slots l h)))) [
      | inr f ↦ f
      | inl t ↦
          let o = occurs-found l.variable (live_clauses (new-slots l h)) t in
          let c = (store-fixed l h).only o.clause o.live in
          absurd (elim (same_or_negation o.literal l o.variable) [
            | inl e ↦ met-gone h l o.clause o.live (subst (Contains o.clause) e o.has)
            | inr e ↦ (c.2.only o.literal o.has).1 e
          ])
    ]

-- where the variable occurs, fewer do after it
pub fewer-occur : (h : Held) (l : Literal) → IsUpTo h.vars l → occurs l.variable (live_clauses h.slots) ≡ true → occurring (h.vars + 0) (live_clauses (new-slots l h)) < occurring h.vars (live_clauses h.slots)
fewer-occur h l up o =
    rw (add-zero h.vars) (occurring-lower h.vars (live_clauses h.slots) (live_clauses (new-slots l h)) l.variable up.0 up.1 (still-occurs h l) o (occurs-no-more h l))

-- and the state is smaller
pub fixed-smaller : (h : Held) (l : Literal) → IsUpTo h.vars l → occurs l.variable (live_clauses h.slots) ≡ true → IsSmaller (labelled_of (changed_by (fixing_of (l ∷ []) h) h)) (labelled_of h)
fixed-smaller h l up o =
    let clauses = no-more-clauses h l in
    let variables = fewer-occur h l up o in
    elim (pay-cases l h.weights) [
      | inl f ↦ inl (let a = sum-costs 0 (fixed-weights l h) in let b = sum-costs 0 h.weights in let e = ap sum (table-fixed l h) in omega arith)
      | inr n ↦
          let same : costs_of (fixed-weights l h) ≡ costs_of h.weights = ap costs_of (table-fixed l h ∙ n.0) in
          let last : List ℕ = sum_by length (live_clauses (new-slots l h)) ∷ [] in
          let was : List ℕ = sum_by length (live_clauses h.slots) ∷ [] in
          let now_occur : List ℕ = occurring (h.vars + 0) (live_clauses (new-slots l h)) ∷ last in
          let did_occur : List ℕ = occurring h.vars (live_clauses h.slots) ∷ was in
          rw same (inr (
            refl,
            inr (
              refl,
              lower-or-same (uncovered (live_clauses (new-slots l h)) (costs_of h.weights)) (uncovered (live_clauses h.slots) (costs_of h.weights)) (length (live_clauses (new-slots l h)) ∷ now_occur) (length (live_clauses h.slots) ∷ did_occur)
                  (uncovered-le (live_clauses h.slots) (live_clauses (new-slots l h)) (costs_of h.weights) (λ p q i j t. covered-stays l h p.lit q.lit (no-cost-on h l n.1 n.2 p i) (no-cost-on h l n.1 n.2 q j) t))
                  (lower-or-same (length (live_clauses (new-slots l h))) (length (live_clauses h.slots)) now_occur did_occur clauses (inl variables)),
            ),
          ))
    ]
