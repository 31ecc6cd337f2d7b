use Rattle.std.proofs.Common.{◌≡◌, ◌≤◌, ◌||◌, ℕ, take}
use Rattle.mp_logic.specs.Truth.{value_of}
use Rattle.mp_labels.specs.UnitForm.{has_cost}
use Rattle.mp_labels.proofs.names.mark_costs.Given as goal

abbrev pub invariant-loop-cost : goal.invariant-loop-cost
invariant-loop-cost l = (v : ℕ) → 1 ≤ v → value_of l.used v ≡ (value_of l.initial.used v || has_cost v (take l.cost-index l.cost-items))
