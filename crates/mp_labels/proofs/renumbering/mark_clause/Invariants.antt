use Rattle.std.proofs.Common.{◌≡◌, ◌≤◌, ◌||◌, ℕ, take}
use Rattle.mp_logic.specs.Truth.{value_of}
use Rattle.mp_labels.specs.UnitForm.{has_variable}
use Rattle.mp_labels.proofs.renumbering.mark_clause.Given as goal

abbrev pub invariant-loop-lit : goal.invariant-loop-lit
invariant-loop-lit l = (v : ℕ) → 1 ≤ v → value_of l.used v ≡ (value_of l.initial.used v || has_variable v (take l.lit-index l.lit-items))
