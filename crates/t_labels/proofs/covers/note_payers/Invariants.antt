use Rattle.std.proofs.Common.{◌≡◌, ◌++◌, drop}
use Rattle.std.specs.List.{filter}
use Rattle.t_labels.specs.Covers.{may_pay}
use Rattle.t_labels.proofs.covers.note_payers.Given as goal

abbrev pub invariant-loop-other : goal.invariant-loop-other
invariant-loop-other l = l.kept.items ++ filter (may_pay l.store l.lit) (drop l.other-index l.clause) ≡ filter (may_pay l.store l.lit) l.clause
