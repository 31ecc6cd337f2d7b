use Rattle.std.proofs.Common.{◌≤◌}
use Rattle.t_failed.specs.Propagating.{AreFalseFrom}
use Rattle.t_failed.proofs.propagation.next_open.Given as goal

abbrev pub invariant-loop-index : goal.invariant-loop-index
invariant-loop-index l = record {
  before : AreFalseFrom l.trail l.clause l.from l.index;
  least : l.from ≤ l.index;
}
