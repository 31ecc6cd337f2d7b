use Rattle.std.proofs.Common.{◌≡◌, drop}
use Rattle.t_labels.specs.Grouping.{each_may_be_met}
use Rattle.t_labels.proofs.groups.each_may_be_met.Given as goal

abbrev pub invariant-loop-id : goal.invariant-loop-id
invariant-loop-id l = each_may_be_met l.store l.lit (drop l.id-index l.ids) ≡ each_may_be_met l.store l.lit l.ids
