-- What a turn leaves.
use Rattle.std.specs.Prelude.{◌≡◌, ◌⊎◌, ℕ, ◌-◌, ◌*◌, ◌≤◌, true, List, [], Contains, length}
use Rattle.mp_store.specs.Held.{Held, labelled_of, IsUntouched}
use Rattle.mp_store.specs.Measures.{IsSmaller}
use Rattle.mp_turns.specs.declared.turn.Turned.{Turned}
use Rattle.mp_turns.specs.declared.turn.Turned.TheVariants.{Idle, Changed, NoRoom}
use Rattle.mp_turns.specs.Turning.{Turning}

-- a change leaves each idle candidate idle or puts it last again, its own candidate too; for each step that the size falls
-- it puts no more last than there are candidates, of which there come no more; and it makes the state smaller
pub record IsChangeOf (t : Turning) (item : ℕ) (old new : Held) (again : List ℕ) : Type 0 where
  pub kept : (i : ℕ) → t.IsIdle old i → Contains again i ⊎ t.IsIdle new i
  pub own : Contains again item ⊎ t.IsIdle new item
  pub falls : t.technique.size (labelled_of new) ≤ t.technique.size (labelled_of old)
  pub few : length again ≤ length (t.technique.candidates (labelled_of old)) * (t.technique.size (labelled_of old) - t.technique.size (labelled_of new))
  pub fewer : length (t.technique.candidates (labelled_of new)) ≤ length (t.technique.candidates (labelled_of old))
  pub smaller : IsSmaller (labelled_of new) (labelled_of old)

-- a turn changes nothing, and then its candidate is idle; or it refutes the store, or changes it; or it lacks room
abbrev pub IsTurn : Turning → ℕ → Held → Held → List ℕ → Turned → Type 0
IsTurn t item old new again Idle = IsUntouched old new × (again ≡ []) × t.IsIdle old item
IsTurn t item old new again Changed = (new.refuted ≡ true) ⊎ IsChangeOf t item old new again
IsTurn t item old new again NoRoom = IsUntouched old new × t.technique.WantsRoom (labelled_of new) × (new.vars ≡ new.inner)
