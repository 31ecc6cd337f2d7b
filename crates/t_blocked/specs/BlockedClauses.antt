-- What blocked clause elimination promises on its own.
use Rattle.std.specs.Prelude.{◌≡◌, ◌≤◌, ◌+◌, ℕ, List, Some, length, sum_by}
use Rattle.std.specs.List.{slice_get}
use Rattle.mp_logic.specs.Literal.{Literal}
use Rattle.mp_logic.specs.Keeping.{State}
use Rattle.mp_logic.specs.Blocking.{IsUnblocked}
use Rattle.mp_logic.specs.EndStates.{NoBlocked}
use Rattle.mp_store.specs.Held.{Held}
use Rattle.mp_clauses.specs.Slots.{clause_of, live_clauses}
use Rattle.mp_clauses.specs.Weighing.{costs_of}
use Rattle.mp_store.specs.Techniques.{Technique, KeepsIds}
use Rattle.mp_turns.specs.Turning.{Turning}
use Rattle.mp_turns.specs.Clauses.{live_ids, clause_places}
use Rattle.mp_turns.specs.Leaving.{DropsClauses}

-- the clause at a place is not blocked
abbrev pub IsUnblockedAt : State → ℕ → Type 0
IsUnblockedAt s k = (c : List Literal) × (slice_get s.hard k ≡ Some c) × IsUnblocked s.costs s.hard c

-- the candidates are the clauses, of which one is idle where it is not blocked, and each change lowers their literals
abbrev pub blocked_clauses : Technique
blocked_clauses = record {
  HasEndState = λ s. NoBlocked s.costs s.hard;
  candidates = clause_places;
  size = λ s. sum_by length s.hard;
  IsIdle = IsUnblockedAt;
  LeavesAlone = DropsClauses;
  WantsRoom = λ s. ⊥;
}

-- the clause of the id, where there is one, is not blocked
abbrev pub IsIdle : Held → ℕ → Type 0
IsIdle h id = (c : List Literal) → clause_of h.slots id ≡ Some c → IsUnblocked (costs_of h.weights) (live_clauses h.slots) c

-- clauses keep their ids, and no more than so many go
pub record DropsFew (n : ℕ) (old new : Held) : Type 0 where
  pub ids : KeepsIds old new
  pub few : length (live_clauses old.slots) ≤ length (live_clauses new.slots) + n

-- the technique by turns, over ids, of which each drops one clause at most
abbrev pub blocking : Turning
blocking = record {
  technique = blocked_clauses;
  candidates = λ h. live_ids h.slots;
  IsIdle = λ h id. IsIdle h id;
  stays = DropsFew;
}
