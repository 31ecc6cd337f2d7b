-- The trail: the literals that are made true, in order, and why.
use Rattle.std.specs.Prelude.{◌≡◌, ◌<◌, ◌≤◌, ◌+◌, ◌-◌, ◌⊎◌, ℕ, List, length, take, slice_index, slice_index_or}
use Rattle.mp_logic.specs.Literal.{Literal}
use Rattle.mp_logic.specs.Learning.{IsConsistent}
use Rattle.core_solver.specs.Places.{place_of, width}

pub record Assigned : Type 0 where
  pub lits : List Literal
  pub reasons : List ℕ
  pub marks : List ℕ  -- where each level begins
  pub vars : ℕ

-- the literal stands at this position
abbrev pub IsPositionOf : List Literal → Literal → ℕ → Type 0
IsPositionOf lits l i = (i < length lits) × (slice_index_or lits i l ≡ l)

-- no literal stands at two positions
abbrev pub IsDistinct : List Literal → Type 0
IsDistinct lits = (l : Literal) (i j : ℕ) → IsPositionOf lits l i → IsPositionOf lits l j → i ≡ j

-- what holds of every trail
pub record IsSound (t : Assigned) : Type 0 where
  pub consistent : IsConsistent t.lits
  pub distinct : IsDistinct t.lits
  pub within : (l : Literal) (i : ℕ) → IsPositionOf t.lits l i → l.variable ≤ t.vars
  pub reasons : length t.reasons ≡ length t.lits

-- the levels that begin at a position or later are taken away
pub record IsRetreat (back : ℕ) (old new : Assigned) : Type 0 where
  pub len : ℕ
  pub levels : ℕ
  pub size : length new.lits ≡ len
  pub lits : new.lits ≡ take len old.lits
  pub reasons : new.reasons ≡ take len old.reasons
  pub marks : new.marks ≡ take levels old.marks
  pub vars : new.vars ≡ old.vars
  pub kept : 0 < levels → slice_index old.marks (levels - 1) < back
  pub cut : ((levels ≡ length old.marks) × (len ≡ length old.lits)) ⊎ ((levels < length old.marks) × (len ≡ slice_index old.marks levels) × (back ≤ len))

-- the table has one more than the position of each literal of the trail, and 0 for all others
pub record IsTable (table : List ℕ) (lits : List Literal) (vars : ℕ) : Type 0 where
  pub listed : (l : Literal) (i : ℕ) → IsPositionOf lits l i → slice_index table (place_of l) ≡ i + 1
  pub known : (l : Literal) (i : ℕ) → slice_index table (place_of l) ≡ i + 1 → IsPositionOf lits l i
  pub consistent : IsConsistent lits
  pub places : length table ≡ width vars
