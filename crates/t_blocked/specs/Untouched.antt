-- Inside a run: which clauses need no look.
use Rattle.std.specs.Prelude.{◌≡◌, ℕ, Bool, true, false, List, Option, Some, Contains}
use Rattle.mp_logic.specs.Literal.{Literal}
use Rattle.mp_clauses.specs.Slots.{clause_of}
use Rattle.mp_store.specs.Held.{Held}
use Rattle.mp_resting.specs.Resting.{is_touched}
use Rattle.t_blocked.specs.BlockedClauses.{IsIdle}

-- each clause with the literal is touched
abbrev pub AreTouched : Literal → List Bool → List (Option (List Literal)) → Type 0
AreTouched l touched slots = (id : ℕ) (c : List Literal) → clause_of slots id ≡ Some c → Contains c l → is_touched touched id ≡ true

-- what is not touched is idle
abbrev pub AreIdle : List Bool → Held → Type 0
AreIdle touched h = (id : ℕ) → is_touched touched id ≡ false → IsIdle h id
