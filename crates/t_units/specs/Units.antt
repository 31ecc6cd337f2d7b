-- What unit propagation promises on its own.
use Rattle.std.specs.Prelude.{◌≡◌, ℕ, ◌+◌, ◌≤◌, List, [], ◌∷◌, length}
use Rattle.mp_logic.specs.EndStates.{NoUnits}
use Rattle.mp_logic.specs.Keeping.{State}
use Rattle.mp_logic.specs.Sets.{Among}
use Rattle.mp_logic.specs.declared.instances.Repair.{Repair}
use Rattle.mp_clauses.specs.Slots.{live_clauses}
use Rattle.mp_store.specs.Measures.{occurring}
use Rattle.mp_store.specs.Techniques.{Technique}
use Rattle.mp_turns.specs.Turning.{Turning}

-- variables stay, and each cost is one that there was
pub record LeavesVariables (s t : State) (added : List Repair) : Type 0 where
  pub vars : t.vars ≡ s.vars
  pub costs : Among t.costs s.costs

-- no unit is left; the one candidate is the state itself, which is idle where it has no unit; and each change lowers the
-- number of variables that occur
abbrev pub unit_propagation : Technique
unit_propagation = record {
  HasEndState = λ s. NoUnits s.hard;
  candidates = λ s. 0 ∷ [];
  size = λ s. occurring s.vars s.hard;
  IsIdle = λ s k. NoUnits s.hard;
  LeavesAlone = LeavesVariables;
  WantsRoom = λ s. ⊥;
}

-- the technique by turns, of which each adds no more than one repair
abbrev pub propagating : Turning
propagating = record {
  technique = unit_propagation;
  candidates = λ h. 0 ∷ [];
  IsIdle = λ h i. i ≡ 0 → NoUnits (live_clauses h.slots);
  stays = λ n h k. length k.repairs ≤ length h.repairs + n;
}
