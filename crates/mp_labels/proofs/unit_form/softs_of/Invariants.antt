use Rattle.std.proofs.Common.{◌≡◌, map, take}
use Rattle.mp_labels.specs.Tables.{soft_by_number}
use Rattle.mp_labels.proofs.unit_form.softs_of.Given as goal

abbrev pub invariant-loop-cost : goal.invariant-loop-cost
invariant-loop-cost l = l.made ≡ map (soft_by_number l.numbers) (take l.cost-index l.costs)
