use Rattle.std.proofs.Common.{◌≡◌, drop}
use Rattle.std.specs.List.{list_any}
use Rattle.t_labels.specs.Grouping.{may_cover_at}
use Rattle.t_labels.proofs.groups.may_be_met.Given as goal

abbrev pub invariant-loop-other : goal.invariant-loop-other
invariant-loop-other l = list_any (may_cover_at l.store l.lit) (drop l.other-index l.clause) ≡ list_any (may_cover_at l.store l.lit) l.clause
