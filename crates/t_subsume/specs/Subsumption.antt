-- What subsumption promises on its own.
use Rattle.std.specs.Prelude.{◌≡◌, ◌≢◌, ℕ, List, Option, Some, length, sum_by}
use Rattle.std.specs.List.{slice_get}
use Rattle.mp_logic.specs.Literal.{Literal}
use Rattle.mp_logic.specs.Sets.{Among}
use Rattle.mp_clauses.specs.Slots.{clause_of}
use Rattle.mp_store.specs.Techniques.{Technique, KeepsIds}
use Rattle.mp_turns.specs.Turning.{Turning}
use Rattle.mp_turns.specs.Leaving.{DropsUnrepaired}
use Rattle.mp_turns.specs.Clauses.{live_ids, clause_places}

-- no clause has all literals of a clause at another place
abbrev pub NoSubsumed : List (List Literal) → Type 0
NoSubsumed cs = (i j : ℕ) (c d : List Literal) → slice_get cs i ≡ Some c → slice_get cs j ≡ Some d → i ≢ j → Among c d → ⊥

-- no clause at another place has all literals of the clause at this one
abbrev pub SubsumesNone : List (List Literal) → ℕ → Type 0
SubsumesNone cs i = (c : List Literal) × (slice_get cs i ≡ Some c) × ((j : ℕ) (d : List Literal) → slice_get cs j ≡ Some d → i ≢ j → Among c d → ⊥)

-- the candidates are the clauses, and each change lowers the number of their literals
abbrev pub subsumption : Technique
subsumption = record {
  HasEndState = λ s. NoSubsumed s.hard;
  candidates = clause_places;
  size = λ s. sum_by length s.hard;
  IsIdle = λ s k. SubsumesNone s.hard k;
  LeavesAlone = DropsUnrepaired;
  WantsRoom = λ s. ⊥;
}

-- the same of an id
abbrev pub IsNotSubsuming : List (Option (List Literal)) → ℕ → Type 0
IsNotSubsuming slots id = (c : List Literal) → clause_of slots id ≡ Some c → (j : ℕ) (d : List Literal) → clause_of slots j ≡ Some d → j ≢ id → Among c d → ⊥

abbrev pub subsuming : Turning
subsuming = record {
  technique = subsumption;
  candidates = λ h. live_ids h.slots;
  IsIdle = λ h id. IsNotSubsuming h.slots id;
  stays = λ n h k. KeepsIds h k;
}
