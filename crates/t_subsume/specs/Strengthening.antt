-- What self-subsuming resolution promises on its own.
use Rattle.std.specs.Prelude.{◌≡◌, ◌⊎◌, ℕ, List, Option, Some, Contains, length, sum_by}
use Rattle.std.specs.Prelude.{⊤}
use Rattle.std.specs.List.{slice_get}
use Rattle.mp_logic.specs.Literal.{Literal, negation}
use Rattle.mp_clauses.specs.Slots.{clause_of, live_clauses}
use Rattle.mp_store.specs.Techniques.{Technique}
use Rattle.mp_turns.specs.Turning.{Turning}
use Rattle.mp_turns.specs.Leaving.{ShortensClauses}
use Rattle.mp_turns.specs.Clauses.{live_ids, clause_places}

-- the second clause has the negation of the literal and all other literals of the first: so that negation may go
pub record Strengthens (l : Literal) (c d : List Literal) : Type 0 where
  pub negated : Contains d (negation l)
  pub others : (k : Literal) → Contains c k → (k ≡ l) ⊎ Contains d k

-- no clause strengthens another
abbrev pub NoStrengthened : List (List Literal) → Type 0
NoStrengthened cs = (c d : List Literal) (l : Literal) → Contains cs c → Contains cs d → Contains c l → Strengthens l c d → ⊥

-- the clause at a place strengthens none
abbrev pub StrengthensNone : List (List Literal) → ℕ → Type 0
StrengthensNone cs i = (c : List Literal) × (slice_get cs i ≡ Some c) × ((d : List Literal) (l : Literal) → Contains cs d → Contains c l → Strengthens l c d → ⊥)

-- the candidates are the clauses, and each change lowers the number of their literals
abbrev pub self_subsumption : Technique
self_subsumption = record {
  HasEndState = λ s. NoStrengthened s.hard;
  candidates = clause_places;
  size = λ s. sum_by length s.hard;
  IsIdle = λ s k. StrengthensNone s.hard k;
  LeavesAlone = ShortensClauses;
  WantsRoom = λ s. ⊥;
}

-- the same of an id
abbrev pub IsNotStrengthening : List (Option (List Literal)) → ℕ → Type 0
IsNotStrengthening slots id = (c : List Literal) → clause_of slots id ≡ Some c → (d : List Literal) (l : Literal) → Contains (live_clauses slots) d → Contains c l → Strengthens l c d → ⊥

abbrev pub strengthening : Turning
strengthening = record {
  technique = self_subsumption;
  candidates = λ h. live_ids h.slots;
  IsIdle = λ h id. IsNotStrengthening h.slots id;
  stays = λ n h k. ⊤;
}
