-- Steps by the ids of their clauses, and the graph that is made of them.
use Rattle.std.specs.Prelude.{◌≡◌, ◌⊎◌, ℕ, ◌<◌, List, [], ◌∷◌, length, Option, Some}
use Rattle.mp_logic.specs.Literal.{Literal, negation, IsUpTo}
use Rattle.mp_clauses.specs.Slots.{clause_of}
use Rattle.t_equiv_graph.specs.Graphs.{Step}
use Rattle.t_equiv.specs.Implications.{number_place}

-- the clause of an id leads from x to y
pub record IsStepById (slots : List (Option (List Literal))) (x y : Literal) : Type 0 where
  pub id : ℕ
  pub a : Literal
  pub b : Literal
  pub clause : clause_of slots id ≡ Some (a ∷ b ∷ [])
  pub either : ((x ≡ negation a) × (y ≡ b)) ⊎ ((x ≡ negation b) × (y ≡ a))

-- a step between places is one between literals
pub record IsMade (slots : List (Option (List Literal))) (vars p q : ℕ) : Type 0 where
  pub x : Literal
  pub y : Literal
  pub known : IsUpTo vars x
  pub known_too : IsUpTo vars y
  pub starts : p ≡ number_place x
  pub ends : q ≡ number_place y
  pub step : IsStepById slots x y

-- the two lists have the steps of the clauses of the first ids, and no others
pub record AreStepsOf (vars : ℕ) (slots : List (Option (List Literal))) (ids : ℕ) (from to : List ℕ) : Type 0 where
  pub even : length from ≡ length to
  pub made : (p q : ℕ) → Step from to p q → IsMade slots vars p q
  pub has : (x y : Literal) (s : IsStepById slots x y) → s.id < ids → Step from to (number_place x) (number_place y)
