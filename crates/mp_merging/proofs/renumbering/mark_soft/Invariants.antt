use Rattle.std.proofs.Common.{◌≡◌, ◌≤◌, ◌||◌, ℕ, take}
use Rattle.std.specs.List.{list_any}
use Rattle.mp_logic.specs.Truth.{value_of}
use Rattle.mp_labels.specs.UnitForm.{has_variable}
use Rattle.mp_merging.proofs.renumbering.mark_soft.Given as goal

abbrev pub invariant-loop-soft : goal.invariant-loop-soft
invariant-loop-soft l = (v : ℕ) → 1 ≤ v → value_of l.used v ≡ (value_of l.initial.used v || list_any (λ t. has_variable v t.clause) (take l.soft-index l.soft-items))
