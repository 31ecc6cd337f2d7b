use Rattle.std.proofs.Common.{◌≡◌, ◌≤◌, ◌||◌, ℕ, take}
use Rattle.std.specs.List.{list_any}
use Rattle.mp_logic.specs.Truth.{value_of}
use Rattle.mp_labels.specs.UnitForm.{has_variable}
use Rattle.mp_labels.proofs.renumbering.mark_clauses.Given as goal

abbrev pub invariant-loop-clause : goal.invariant-loop-clause
invariant-loop-clause l = (v : ℕ) → 1 ≤ v → value_of l.used v ≡ (value_of l.initial.used v || list_any (has_variable v) (take l.clause-index l.clause-items))
