use Rattle.std.proofs.Common.{◌+◌, ◌*◌}
use Rattle.t_equiv.specs.Pooling.{AreMoved}
use Rattle.t_equiv.proofs.pooling.moved_weights.Given as goal

abbrev pub invariant-loop-below : goal.invariant-loop-below
invariant-loop-below l = AreMoved l.images l.fn.store.weights (2 * l.below + 2) l.moved.items
