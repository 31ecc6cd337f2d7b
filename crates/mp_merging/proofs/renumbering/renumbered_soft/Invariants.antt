use Rattle.std.proofs.Common.{◌≡◌, map, take}
use Rattle.mp_merging.specs.Tables.{soft_by_number}
use Rattle.mp_merging.proofs.renumbering.renumbered_soft.Given as goal

abbrev pub invariant-loop-soft : goal.invariant-loop-soft
invariant-loop-soft l = l.made ≡ map (soft_by_number l.numbers) (take l.soft-index l.soft-items)
