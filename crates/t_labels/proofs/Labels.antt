-- The labels of a store: weights by place and costs, the clauses of a literal, and plain literals.
use Rattle.std.proofs.Common.{◌≡◌, ◌≢◌, ℕ, ◌+◌, Bool, true, false, not, cond, List, [], ◌∷◌, length, get_or, refl, sym, ◌∙◌, ap, subst, arith, inl, inr, Contains, All, IsTrue}
use Rattle.std.specs.Prelude.{Option, Some, None, ◌==◌, ◌||◌, ◌&&◌}
use Rattle.std.specs.List.{list_any}
use Rattle.std.proofs.lemmas.Bool.{cases_Bool, and_parts, and_from, eq-eqb, ne_eqb, not-true, true≢false}
use Rattle.std.proofs.lemmas.List.Elements.{All-contains}
use Rattle.mp_logic.specs.Literal.{Literal, negation, IsUpTo}
use Rattle.mp_logic.specs.Normal.{rises}
use Rattle.mp_logic.specs.SubsumedLabels.{IsPlain}
use Rattle.mp_logic.specs.declared.instances.Cost.{Cost}
use Rattle.mp_logic.proofs.Charges.{AreApart-same}
use Rattle.mp_clauses.specs.Places.{place_of, has}
use Rattle.mp_clauses.specs.Slots.{clause_of, live_clauses}
use Rattle.mp_clauses.specs.Weighing.{costs_of, weight_in}
use Rattle.mp_clauses.specs.Occurrences.{ids_where, slot_has, ids_with}
use Rattle.mp_clauses.proofs.Pricing.{cost_at, has_cost, place-literal, literal-place, same-place}
use Rattle.mp_clauses.proofs.Found.{any-by, any-found, has-by, has-contains, exact-ids}
use Rattle.mp_store.specs.Held.{Held}
use Rattle.mp_store.specs.Soundness.{IsStore}
use Rattle.t_labels.specs.Labels.{is_plain, may_cover}

-- the weight of a cost
pub cost-weight : (w : List ℕ) (p : Cost) → Contains (costs_of w) p → (weight_in w p.lit ≡ p.weight) × (p.weight ≢ 0)
cost-weight w p m =
    let c = cost_at 0 w p m in
    let n : 0 + c.place ≡ c.place = omega arith in
    let at : place_of p.lit ≡ c.place = ap (λ (q : Cost). place_of q.lit) c.is ∙ (place-literal (0 + c.place) ∙ n) in
    let own : p.weight ≡ get_or w c.place 0 = ap (λ (q : Cost). q.weight) c.is in
    (ap (λ k. get_or w k 0) at ∙ sym own, λ z. c.some (sym own ∙ z))

pub weight-cost : (w : List ℕ) (l : Literal) → weight_in w l ≢ 0 → Contains (costs_of w) (record { lit = l; weight = weight_in w l })
weight-cost w l h =
    let n : 0 + place_of l ≡ place_of l = omega arith in
    let c = has_cost 0 w (place_of l) h in
    rw (n, literal-place l) at c

-- a cost weighs something in the table
pub cost-some : (w : List ℕ) (p : Cost) → Contains (costs_of w) p → weight_in w p.lit ≢ 0
cost-some w p m z = let c = cost-weight w p m in c.1 (sym c.0 ∙ z)

pub cost-is : (w : List ℕ) (p : Cost) → Contains (costs_of w) p → p ≡ record { lit = p.lit; weight = weight_in w p.lit }
cost-is w p m = ap (λ (n : ℕ). record { lit = p.lit; weight = n }) (sym (cost-weight w p m).0)

-- the one cost of a place
pub at-place : (w : List ℕ) (l : Literal) (p : Cost) → Contains (costs_of w) p → place_of p.lit ≡ place_of l → p ≡ record { lit = l; weight = weight_in w l }
at-place w l p m e = cost-is w p m ∙ ap (λ (k : Literal). record { lit = k; weight = weight_in w k }) (same-place p.lit l e)

pub label-within : (h : Held) (l : Literal) → IsStore h → weight_in h.weights l ≢ 0 → IsUpTo h.vars l
label-within h l s n = All-contains (λ (p : Cost). IsUpTo h.vars p.lit) (costs_of h.weights) (record { lit = l; weight = weight_in h.weights l }) s.labelled.costs_within (weight-cost h.weights l n)

-- no variable has two costs
pub other-variable : (h : Held) (p q : Cost) → IsStore h → Contains (costs_of h.weights) p → Contains (costs_of h.weights) q → q.lit ≢ p.lit → q.lit.variable ≢ p.lit.variable
other-variable h p q s i j n e = n (ap (λ (c : Cost). c.lit) (AreApart-same (costs_of h.weights) q p s.labelled.costs_apart j i e))

-- the ids of a literal's clauses
pub id-in : (l : Literal) (s : List (Option (List Literal))) (id : ℕ) (c : List Literal) → clause_of s id ≡ Some c → Contains c l → Contains (ids_with (place_of l) s) id
id-in l s id c e h = ((exact-ids l s).each id).1 (c, e, h)

pub id-of : (l : Literal) (s : List (Option (List Literal))) (id : ℕ) → Contains (ids_with (place_of l) s) id → (c : List Literal) × (clause_of s id ≡ Some c) × Contains c l
id-of l s id h = ((exact-ids l s).each id).0 h

-- what holds of live clauses
pub live-within : (h : Held) (c : List Literal) → IsStore h → Contains (live_clauses h.slots) c → All (IsUpTo h.vars) c
live-within h c s m = All-contains (All (IsUpTo h.vars)) (live_clauses h.slots) c s.labelled.hard_within m

pub live-normal : (h : Held) (c : List Literal) → IsStore h → Contains (live_clauses h.slots) c → rises 0 c ≡ true
live-normal h c s m = All-contains (λ c. IsTrue (rises 0 c)) (live_clauses h.slots) c s.labelled.hard_normal m

-- whether a literal is in no clause
pub ids-none : (p i : ℕ) (s : List (Option (List Literal))) → (length (ids_where (slot_has p) i s) == 0) ≡ not (list_any (has p) (live_clauses s))
ids-none p i [] = refl
ids-none p i (None ∷ s) = ids-none p (i + 1) s
ids-none p i (Some c ∷ s) =
    let rest = ids-none p (i + 1) s in
    elim (has p c) as (λ b. (length (cond b (i ∷ ids_where (slot_has p) (i + 1) s) (ids_where (slot_has p) (i + 1) s)) == 0) ≡ not (b || list_any (has p) (live_clauses s))) [
      | true ↦ ne_eqb (length (i ∷ ids_where (slot_has p) (i + 1) s)) 0 (λ z. omega (arith, z))
      | false ↦ rest
    ]

pub plain-result : (l neg : Literal) (s : List (Option (List Literal))) (ids : List ℕ) (t : Bool) → neg ≡ negation l → ids ≡ ids_with (place_of neg) s → t ≡ (length ids == 0) → t ≡ is_plain (live_clauses s) l
plain-result l neg s ids t n e f = f ∙ (ap (λ (xs : List ℕ). length xs == 0) (e ∙ ap (λ (k : Literal). ids_with (place_of k) s) n) ∙ ids-none (place_of (negation l)) 0 s)

pub plain-found : (cs : List (List Literal)) (b : Literal) → is_plain cs b ≡ true → IsPlain b cs
plain-found cs b t c i k j z = true≢false (sym (any-by (has (place_of (negation b))) cs c i (has-by c (negation b) (subst (Contains c) z j))) ∙ not-true (list_any (has (place_of (negation b))) cs) t)

pub plain-by : (cs : List (List Literal)) (b : Literal) → IsPlain b cs → is_plain cs b ≡ true
plain-by cs b p =
    elim (cases_Bool (list_any (has (place_of (negation b))) cs)) [
      | inr f ↦ ap not f
      | inl t ↦ let w = any-found (has (place_of (negation b))) cs t in absurd (p w.0 w.1 (negation b) (has-contains w.0 (negation b) w.2) refl)
    ]

-- what a label that may cover another one is
pub record May (price : Literal → ℕ) (cs : List (List Literal)) (l k : Literal) : Type 0 where
  pub some : price k ≢ 0
  pub other : k ≢ l
  pub plain : IsPlain k cs

pub may-parts : (price : Literal → ℕ) (cs : List (List Literal)) (l k : Literal) → may_cover price cs l k ≡ true → May price cs l k
may-parts price cs l k e =
    let first = and_parts (not (price k == 0)) (not (place_of k == place_of l) && is_plain cs k) e in
    let rest = and_parts (not (place_of k == place_of l)) (is_plain cs k) first.1 in
    record {
      some = λ z. true≢false (sym (eq-eqb (price k) 0 z) ∙ not-true (price k == 0) first.0);
      other = λ z. true≢false (sym (eq-eqb (place_of k) (place_of l) (ap place_of z)) ∙ not-true (place_of k == place_of l) rest.0);
      plain = plain-found cs k rest.1;
    }

pub may-by : (price : Literal → ℕ) (cs : List (List Literal)) (l k : Literal) → May price cs l k → may_cover price cs l k ≡ true
may-by price cs l k m =
    let a : (price k == 0) ≡ false = ne_eqb (price k) 0 m.some in
    let b : (place_of k == place_of l) ≡ false = ne_eqb (place_of k) (place_of l) (λ e. m.other (same-place k l e)) in
    and_from (not (price k == 0)) (not (place_of k == place_of l) && is_plain cs k) (ap not a) (and_from (not (place_of k == place_of l)) (is_plain cs k) (ap not b) (plain-by cs k m.plain))
