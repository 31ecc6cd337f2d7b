-- Models of a state, in states that are alike.
use Rattle.std.proofs.Common.{◌≡◌, ◌≤◌, ℕ, Bool, true, false, not, cond, List, [], ◌∷◌, ◌++◌, Contains, map, sum_by, refl, ap, sym, ◌∙◌, subst, inl, inr}
use Rattle.std.proofs.lemmas.Bool.{cases_eq, true≢false}
use Rattle.std.proofs.lemmas.List.Elements.{Contains-append_left, Contains-append_right, Contains-append_cases}
use Rattle.std.proofs.lemmas.List.Sorted.{sum_by-IsPermutation}
use Rattle.mp_logic.specs.Literal.{Literal}
use Rattle.mp_logic.specs.Truth.{value_of, literal_value}
use Rattle.mp_logic.specs.Repairs.{made_true}
use Rattle.mp_logic.specs.Keeping.{State, IsModel, charged}
use Rattle.mp_logic.specs.declared.instances.Cost.{Cost}
use Rattle.mp_logic.proofs.MadeTrue.{value_of-made_true_same, value_of-made_true_other}
use Rattle.mp_logic.proofs.Members.{Contains-none, Contains-first, Contains-later, Contains-cases, satisfied, IsSatisfied-from, witness, true_by}
use Rattle.mp_labels.proofs.Lists.{Contains-map, Contains-from_map, sum_by-map, sum_by_agree}
use Rattle.mp_engine.specs.Alike.{Uses, numbered, numbered_cost, IsAlike}
use Rattle.mp_engine.proofs.Alike.{same_variable, uses, uses_cost, clause_behind, literal_ahead}

-- the variables of clauses
abbrev pub variables_in : List (List Literal) → List ℕ
variables_in [] = []
variables_in (c ∷ cs) = map (λ (l : Literal). l.variable) c ++ variables_in cs

variables_have : (cs : List (List Literal)) (c : List Literal) (l : Literal) → Contains cs c → Contains c l → Contains (variables_in cs) l.variable
variables_have [] c l i j = absurd (Contains-none c i)
variables_have (d ∷ cs) c l i j =
    let front = map (λ (k : Literal). k.variable) d in
    elim (Contains-cases d cs c i) [
      | inl e ↦ Contains-append_left front (variables_in cs) l.variable (Contains-map (λ (k : Literal). k.variable) d l (subst (λ (x : List Literal). Contains x l) e j))
      | inr k ↦ Contains-append_right front (variables_in cs) l.variable (variables_have cs c l k j)
    ]

-- a literal on the variable stands in one of the clauses
abbrev StandsIn : List (List Literal) → ℕ → Type 0
StandsIn cs v = (c : List Literal) × Contains cs c × ((l : Literal) × Contains c l × (l.variable ≡ v))

variables_from : (cs : List (List Literal)) (v : ℕ) → Contains (variables_in cs) v → StandsIn cs v
variables_from [] v i = absurd (Contains-none v i)
variables_from (d ∷ cs) v i =
    elim (Contains-append_cases (map (λ (k : Literal). k.variable) d) (variables_in cs) v i) [
      | inl j ↦ let l = Contains-from_map (λ (k : Literal). k.variable) d v j in (d, Contains-first d cs, (l.0, l.1, sym l.2))
      | inr j ↦ let w = variables_from cs v j in (w.0, Contains-later d cs w.0 w.1, w.2)
    ]

-- the variables that a state uses
abbrev pub used_variables : State → List ℕ
used_variables s = variables_in s.hard ++ map (λ (p : Cost). p.lit.variable) s.costs

pub is_used : (s : State) (v : ℕ) → Uses s v → Contains (used_variables s) v
is_used s v u =
    let costs = map (λ (p : Cost). p.lit.variable) s.costs in
    elim u [
      | inl k ↦ subst (Contains (used_variables s)) k.2.2 (Contains-append_left (variables_in s.hard) costs k.2.0.variable (variables_have s.hard k.0 k.2.0 k.1 k.2.1))
      | inr k ↦ subst (Contains (used_variables s)) k.2 (Contains-append_right (variables_in s.hard) costs k.0.lit.variable (Contains-map (λ (p : Cost). p.lit.variable) s.costs k.0 k.1))
    ]

pub used_is : (s : State) (v : ℕ) → Contains (used_variables s) v → Uses s v
used_is s v i =
    elim (Contains-append_cases (variables_in s.hard) (map (λ (p : Cost). p.lit.variable) s.costs) v i) [
      | inl j ↦ inl (variables_from s.hard v j)
      | inr j ↦ let p = Contains-from_map (λ (p : Cost). p.lit.variable) s.costs v j in inr (p.0, p.1, sym p.2)
    ]

-- the assignment that makes true, under their numbers, those of the variables that another makes true
abbrev moved_values : (ℕ → ℕ) → List Bool → List ℕ → List Bool
moved_values number a [] = []
moved_values number a (v ∷ vs) =
    cond (value_of a v) (made_true (moved_values number a vs) (record { variable = number v; negative = false })) (moved_values number a vs)

-- none of the variables but this one has its number
abbrev AreApart : (ℕ → ℕ) → List ℕ → ℕ → Type 0
AreApart number vs w = (v : ℕ) → Contains vs v → (1 ≤ number v) × (number v ≡ number w → v ≡ w)

stays_false : (number : ℕ → ℕ) (a : List Bool) (vs : List ℕ) (w : ℕ) → 1 ≤ number w → AreApart number vs w → value_of a w ≡ false → value_of (moved_values number a vs) (number w) ≡ false
stays_false number a [] w one apart e = refl
stays_false number a (v ∷ vs) w one apart e =
    let rest = stays_false number a vs w one (λ u i. apart u (Contains-later v vs u i)) e in
    let own = apart v (Contains-first v vs) in
    let l : Literal = record { variable = number v; negative = false } in
    let b : List Bool = moved_values number a vs in
    let step : (x : Bool) → value_of a v ≡ x → value_of (cond x (made_true b l) b) (number w) ≡ false =
    λ (x : Bool). elim x as (λ x. value_of a v ≡ x → value_of (cond x (made_true b l) b) (number w) ≡ false) [
      | true ↦ λ t. elim (cases_eq (number w) (number v)) [
        | inl same ↦ absurd (true≢false (sym t ∙ (ap (λ (k : ℕ). value_of a k) (own.1 (sym same)) ∙ e)))
        | inr other ↦ value_of-made_true_other b l (number w) own.0 one other ∙ rest
      ]
      | false ↦ λ f. rest
    ] in
    step (value_of a v) refl

stays_true : (number : ℕ → ℕ) (a : List Bool) (vs : List ℕ) (w : ℕ) → 1 ≤ number w → AreApart number vs w → value_of a w ≡ true → Contains vs w → value_of (moved_values number a vs) (number w) ≡ true
stays_true number a [] w one apart e i = absurd (Contains-none w i)
stays_true number a (v ∷ vs) w one apart e i =
    let rest : Contains vs w → value_of (moved_values number a vs) (number w) ≡ true = stays_true number a vs w one (λ u j. apart u (Contains-later v vs u j)) e in
    let own = apart v (Contains-first v vs) in
    let l : Literal = record { variable = number v; negative = false } in
    let b : List Bool = moved_values number a vs in
    let step : (x : Bool) → value_of a v ≡ x → value_of (cond x (made_true b l) b) (number w) ≡ true =
    λ (x : Bool). elim x as (λ x. value_of a v ≡ x → value_of (cond x (made_true b l) b) (number w) ≡ true) [
      | true ↦ λ t. elim (cases_eq (number w) (number v)) [
        | inl same ↦ subst (λ (k : ℕ). value_of (made_true b l) k ≡ true) (sym same) (value_of-made_true_same b l own.0)
        | inr other ↦ value_of-made_true_other b l (number w) own.0 one other
            ∙ rest (elim (Contains-cases v vs w i) [ inl q ↦ absurd (other (ap number q)) | inr j ↦ j ])
      ]
      | false ↦ λ f. rest (elim (Contains-cases v vs w i) [ inl q ↦ absurd (true≢false (sym e ∙ (ap (λ (k : ℕ). value_of a k) q ∙ f))) | inr j ↦ j ])
    ] in
    step (value_of a v) refl

moved_value : (number : ℕ → ℕ) (a : List Bool) (vs : List ℕ) (w : ℕ) → 1 ≤ number w → AreApart number vs w → Contains vs w → value_of (moved_values number a vs) (number w) ≡ value_of a w
moved_value number a vs w one apart i =
    let step : (x : Bool) → value_of a w ≡ x → value_of (moved_values number a vs) (number w) ≡ value_of a w =
    λ (x : Bool). elim x as (λ x. value_of a w ≡ x → value_of (moved_values number a vs) (number w) ≡ value_of a w) [
      | true ↦ λ e. stays_true number a vs w one apart e i ∙ sym e
      | false ↦ λ e. stays_false number a vs w one apart e ∙ sym e
    ] in
    step (value_of a w) refl

-- the values of the variables of a state, under their numbers
abbrev pub moved : (s t : State) → IsAlike s t → List Bool → List Bool
moved s t a m = moved_values a.number m (used_variables s)

pub literal_moves : (s t : State) (a : IsAlike s t) (m : List Bool) (l : Literal) → Uses s l.variable → literal_value (moved s t a m) (numbered a.number l) ≡ literal_value m l
literal_moves s t a m l u =
    let apart : AreApart a.number (used_variables s) l.variable = λ v i. (a.from_one v (used_is s v i), same_variable s t a v l.variable (used_is s v i) u) in
    ap (λ (x : Bool). cond l.negative (not x) x) (moved_value a.number m (used_variables s) l.variable (a.from_one l.variable u) apart (is_used s l.variable u))

-- they are a model where they were one
pub model_moves : (s t : State) (a : IsAlike s t) (m : List Bool) → IsModel s m → IsModel t (moved s t a m)
model_moves s t a m h =
    let b : List Bool = moved s t a m in
    IsSatisfied-from b t.hard (λ d i.
    let c = clause_behind s t a d i in
    let k = witness m c.0 (satisfied m s.hard c.0 h c.1) in
    let there : Contains d (numbered a.number k.0) = subst (λ (x : List Literal). Contains x (numbered a.number k.0)) (sym c.2) (literal_ahead a.number c.0 k.0 k.1) in
    true_by b d (numbered a.number k.0) there (literal_moves s t a m k.0 (uses s c.0 k.0 c.1 k.1) ∙ k.2))

-- and cost as much
pub charge_moves : (s t : State) (a : IsAlike s t) (m : List Bool) → sum_by (charged (moved s t a m)) t.costs ≡ sum_by (charged m) s.costs
charge_moves s t a m =
    let b : List Bool = moved s t a m in
    let own : (p : Cost) → Contains s.costs p → charged b (numbered_cost a.number p) ≡ charged m p =
    λ p i. ap (λ (x : Bool). cond x p.weight 0) (literal_moves s t a m p.lit (uses_cost s p i)) in
    sum_by-IsPermutation (charged b) (map (numbered_cost a.number) s.costs) t.costs a.costs
    ∙ (sum_by-map (charged b) (numbered_cost a.number) s.costs ∙ sum_by_agree (λ p. charged b (numbered_cost a.number p)) (charged m) s.costs own)
