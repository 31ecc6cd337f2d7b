-- Inside failed-literal probing: where it stands between two turns.
use Rattle.std.specs.Prelude.{◌≡◌, ◌⊎◌, ℕ, ◌+◌, ◌/◌, ◌<◌, ◌≤◌, true, List, Contains, length}
use Rattle.mp_clauses.specs.Slots.{live_clauses}
use Rattle.mp_store.specs.Held.{Held, labelled_of}
use Rattle.mp_store.specs.Measures.{occurs, occurring, IsSmaller}
use Rattle.t_failed.specs.Failed.{literal_places}

-- a literal was fixed: no further variable occurs, and fewer do
pub record IsFixed (old new : Held) : Type 0 where
  pub occur : (v : ℕ) → occurs v (live_clauses new.slots) ≡ true → occurs v (live_clauses old.slots) ≡ true
  pub falls : occurring new.vars (live_clauses new.slots) < occurring old.vars (live_clauses old.slots)
  pub smaller : IsSmaller (labelled_of new) (labelled_of old)

-- each literal of a variable that occurs waits or was taken, and both together are no more than the candidates at first
pub record AreTaken (first now : Held) (queue taken : List ℕ) : Type 0 where
  pub each : (i : ℕ) → occurs (i / 2) (live_clauses now.slots) ≡ true → Contains queue i ⊎ Contains taken i
  pub few : length queue + length taken ≤ length (literal_places (labelled_of first))
