-- The ids of the live clauses with a literal.
use Rattle.std.specs.Prelude.{◌≡◌, ◌↔◌, ℕ, ◌+◌, ◌<◌, ◌≤◌, Bool, true, false, cond, List, [], ◌∷◌, Option, Some, None, IsTrue, Contains}
use Rattle.mp_logic.specs.Literal.{Literal}
use Rattle.mp_clauses.specs.Places.{has, no_repeats}
use Rattle.mp_clauses.specs.Slots.{clause_of, is_live}

-- the ids, counted from i, whose slots pass the test, rising
abbrev pub ids_where : (Option (List Literal) → Bool) → ℕ → List (Option (List Literal)) → List ℕ
ids_where test i [] = []
ids_where test i (slot ∷ slots) = cond (test slot) (i ∷ ids_where test (i + 1) slots) (ids_where test (i + 1) slots)

-- the slot has a clause with the literal of this place
abbrev pub slot_has : ℕ → Option (List Literal) → Bool
slot_has p None = false
slot_has p (Some c) = has p c

-- the ids of the live clauses with the literal of this place, rising
abbrev pub ids_with : ℕ → List (Option (List Literal)) → List ℕ
ids_with p slots = ids_where (slot_has p) 0 slots

-- exactly the ids of the live clauses with the literal, each once
pub record AreExactOccurrences (l : Literal) (slots : List (Option (List Literal))) (ids : List ℕ) : Type 0 where
  pub once : IsTrue (no_repeats ids)
  pub each : (id : ℕ) → Contains ids id ↔ ((c : List Literal) × (clause_of slots id ≡ Some c) × Contains c l)

-- the lowest live id from a number on
pub record IsNextLive (slots : List (Option (List Literal))) (least found : ℕ) : Type 0 where
  pub from : least ≤ found
  pub live : is_live slots found ≡ true
  pub lowest : (id : ℕ) → least ≤ id → id < found → is_live slots id ≡ false
