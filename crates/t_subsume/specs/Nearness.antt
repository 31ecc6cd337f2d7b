-- Which clauses share a variable with one of those that came since a mark.
use Rattle.std.specs.Prelude.{◌≡◌, ℕ, ◌<◌, ◌≤◌, Bool, true, false, List, Option, Some, Contains, length, slice_index_or}
use Rattle.mp_logic.specs.Literal.{Literal}
use Rattle.mp_clauses.specs.Slots.{clause_of}
use Rattle.mp_resting.specs.Resting.{is_touched}
use Rattle.t_subsume.specs.declared.near.Near.{Near}

-- none of the clauses with ids from one on, below another, has a variable of this one
abbrev pub IsApart : ℕ → ℕ → List (Option (List Literal)) → List Literal → Type 0
IsApart from upto slots c = (j : ℕ) (d : List Literal) (k l : Literal) → from ≤ j → j < upto → clause_of slots j ≡ Some d → Contains d k → Contains c l → l.variable ≡ k.variable → ⊥

-- each clause with the variable is touched
abbrev pub AreTouched : ℕ → List Bool → List (Option (List Literal)) → Type 0
AreTouched v touched slots = (id : ℕ) (c : List Literal) (l : Literal) → clause_of slots id ≡ Some c → Contains c l → l.variable ≡ v → is_touched touched id ≡ true

-- the same of the variables that were walked
abbrev pub AreWalked : List Bool → List Bool → List (Option (List Literal)) → Type 0
AreWalked walked touched slots = (v : ℕ) → slice_index_or walked v false ≡ true → AreTouched v touched slots

-- what is not touched has an id below the mark, and is apart from what came from it on
pub record IsNear (mark : ℕ) (near : Near) (slots : List (Option (List Literal))) : Type 0 where
  pub within : near.upto ≤ length slots
  pub short : length near.touched ≤ near.upto
  pub old : length near.touched ≤ mark
  pub apart : (id : ℕ) (c : List Literal) → clause_of slots id ≡ Some c → is_touched near.touched id ≡ false → IsApart mark near.upto slots c
