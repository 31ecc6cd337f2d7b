-- The labels of a store: weights by place and costs, the clauses of a literal, and plain literals.
use Rattle.std.proofs.Common.{◌≡◌, ◌≢◌, ℕ, ◌+◌, true, List, get_or, sym, ◌∙◌, ap, arith, Contains, All, IsTrue}
use Rattle.std.specs.Prelude.{Option, Some}
use Rattle.std.proofs.lemmas.List.Elements.{All-contains}
use Rattle.mp_logic.specs.Literal.{Literal, IsUpTo}
use Rattle.mp_logic.specs.Normal.{rises}
use Rattle.mp_logic.specs.declared.instances.Cost.{Cost}
use Rattle.mp_logic.proofs.Charges.{AreApart-same}
use Rattle.mp_clauses.specs.Places.{place_of}
use Rattle.mp_clauses.specs.Slots.{clause_of, live_clauses}
use Rattle.mp_clauses.specs.Weighing.{costs_of, weight_in}
use Rattle.mp_clauses.specs.Occurrences.{ids_with}
use Rattle.mp_clauses.proofs.Pricing.{cost_at, has_cost, place-literal, literal-place, same-place}
use Rattle.mp_clauses.proofs.Found.{exact-ids}
use Rattle.mp_store.specs.Held.{Held}
use Rattle.mp_store.specs.Soundness.{IsStore}

-- the weight of a cost
pub cost-weight : (w : List ℕ) (p : Cost) → Contains (costs_of w) p → (weight_in w p.lit ≡ p.weight) × (p.weight ≢ 0)
cost-weight w p m =
    let c = cost_at 0 w p m in
    let n : 0 + c.place ≡ c.place = omega arith in
    let at : place_of p.lit ≡ c.place = ap (λ (q : Cost). place_of q.lit) c.is ∙ (place-literal (0 + c.place) ∙ n) in
    let own : p.weight ≡ get_or w c.place 0 = ap (λ (q : Cost). q.weight) c.is in
    (ap (λ k. get_or w k 0) at ∙ sym own, λ z. c.some (sym own ∙ z))

pub weight-cost : (w : List ℕ) (l : Literal) → weight_in w l ≢ 0 → Contains (costs_of w) (record { lit = l; weight = weight_in w l })
weight-cost w l h =
    let n : 0 + place_of l ≡ place_of l = omega arith in
    let c = has_cost 0 w (place_of l) h in
    rw (n, literal-place l) at c

-- a cost weighs something in the table
pub cost-some : (w : List ℕ) (p : Cost) → Contains (costs_of w) p → weight_in w p.lit ≢ 0
cost-some w p m z = let c = cost-weight w p m in c.1 (sym c.0 ∙ z)

pub cost-is : (w : List ℕ) (p : Cost) → Contains (costs_of w) p → p ≡ record { lit = p.lit; weight = weight_in w p.lit }
cost-is w p m = ap (λ (n : ℕ). record { lit = p.lit; weight = n }) (sym (cost-weight w p m).0)

-- the one cost of a place
pub at-place : (w : List ℕ) (l : Literal) (p : Cost) → Contains (costs_of w) p → place_of p.lit ≡ place_of l → p ≡ record { lit = l; weight = weight_in w l }
at-place w l p m e = cost-is w p m ∙ ap (λ (k : Literal). record { lit = k; weight = weight_in w k }) (same-place p.lit l e)

pub label-within : (h : Held) (l : Literal) → IsStore h → weight_in h.weights l ≢ 0 → IsUpTo h.vars l
label-within h l s n = All-contains (λ (p : Cost). IsUpTo h.vars p.lit) (costs_of h.weights) (record { lit = l; weight = weight_in h.weights l }) s.labelled.costs_within (weight-cost h.weights l n)

-- no variable has two costs
pub other-variable : (h : Held) (p q : Cost) → IsStore h → Contains (costs_of h.weights) p → Contains (costs_of h.weights) q → q.lit ≢ p.lit → q.lit.variable ≢ p.lit.variable
other-variable h p q s i j n e = n (ap (λ (c : Cost). c.lit) (AreApart-same (costs_of h.weights) q p s.labelled.costs_apart j i e))

-- the ids of a literal's clauses
pub id-in : (l : Literal) (s : List (Option (List Literal))) (id : ℕ) (c : List Literal) → clause_of s id ≡ Some c → Contains c l → Contains (ids_with (place_of l) s) id
id-in l s id c e h = ((exact-ids l s).each id).1 (c, e, h)

pub id-of : (l : Literal) (s : List (Option (List Literal))) (id : ℕ) → Contains (ids_with (place_of l) s) id → (c : List Literal) × (clause_of s id ≡ Some c) × Contains c l
id-of l s id h = ((exact-ids l s).each id).0 h

-- what holds of live clauses
pub live-within : (h : Held) (c : List Literal) → IsStore h → Contains (live_clauses h.slots) c → All (IsUpTo h.vars) c
live-within h c s m = All-contains (All (IsUpTo h.vars)) (live_clauses h.slots) c s.labelled.hard_within m

pub live-normal : (h : Held) (c : List Literal) → IsStore h → Contains (live_clauses h.slots) c → rises 0 c ≡ true
live-normal h c s m = All-contains (λ c. IsTrue (rises 0 c)) (live_clauses h.slots) c s.labelled.hard_normal m
