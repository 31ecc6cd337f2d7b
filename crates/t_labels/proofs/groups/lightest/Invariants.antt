use Rattle.std.proofs.Common.{◌≡◌, drop}
use Rattle.std.specs.Prelude.{None}
use Rattle.mp_clauses.specs.Weighing.{weight_in}
use Rattle.t_labels.specs.Grouping.{may_cover_at, lightest}
use Rattle.t_labels.proofs.groups.lightest.Given as goal

abbrev pub invariant-loop-other : goal.invariant-loop-other
invariant-loop-other l = lightest (weight_in l.store.weights) (may_cover_at l.store l.lit) l.best (drop l.other-index l.clause) ≡ lightest (weight_in l.store.weights) (may_cover_at l.store l.lit) None l.clause
