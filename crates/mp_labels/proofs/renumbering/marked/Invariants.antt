use Rattle.std.proofs.Common.{◌≡◌, filter}
use Rattle.std.specs.List.{range_with_len}
use Rattle.mp_logic.specs.Truth.{value_of}
use Rattle.mp_labels.proofs.renumbering.marked.Given as goal

abbrev pub invariant-loop-place : goal.invariant-loop-place
invariant-loop-place l = l.names ≡ filter (value_of l.used) (range_with_len 1 l.place)
