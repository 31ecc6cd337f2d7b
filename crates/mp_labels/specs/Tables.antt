-- The numbers of variables in a table, and clauses under them.
use Rattle.std.specs.Prelude.{◌≡◌, ℕ, ◌-◌, ◌≤◌, List, [], ◌∷◌, Contains, map, length, slice_index}
use Rattle.std.specs.List.Sorted.{IsPermutation, IsNonDecreasingBy}
use Rattle.mp_logic.specs.Literal.{Literal, negation}
use Rattle.mp_logic.specs.declared.instances.Cost.{Cost}
use Rattle.mp_logic.specs.declared.instances.Soft.{Soft}
use Rattle.mp_labels.specs.UnitForm.{number_of}

-- the table has the number of each name at the name's place
pub record IsNumbering (names numbers : List ℕ) : Type 0 where
  pub within : (v : ℕ) → Contains names v → (1 ≤ v) × (v ≤ length numbers)
  pub at : (v : ℕ) → Contains names v → slice_index numbers (v - 1) ≡ number_of names v

-- the table has a number for the literal's variable
pub record HasNumber (numbers : List ℕ) (l : Literal) : Type 0 where
  pub «from» : 1 ≤ l.variable
  pub within : l.variable ≤ length numbers
  pub number : 1 ≤ slice_index numbers (l.variable - 1)

-- the literal under the number that the table has for its variable
abbrev pub by_number : List ℕ → Literal → Literal
by_number numbers l = record l { variable = slice_index numbers (l.variable - 1) }

abbrev pub soft_by_number : List ℕ → Cost → Soft
soft_by_number numbers p = record { weight = p.weight; clause = negation (by_number numbers p.lit) ∷ [] }

-- soft clauses for the costs in order of variable
pub record AreSofts (numbers : List ℕ) (costs : List Cost) (softs : List Soft) : Type 0 where
  pub ordered : List Cost
  pub moved : IsPermutation costs ordered
  pub in_order : IsNonDecreasingBy (λ p. p.lit.variable) ordered
  pub each : softs ≡ map (soft_by_number numbers) ordered
