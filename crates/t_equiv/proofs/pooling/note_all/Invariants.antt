use Rattle.std.proofs.Common.{◌+◌, ◌*◌}
use Rattle.t_equiv.specs.Pooling.{AreNoted}
use Rattle.t_equiv.proofs.pooling.note_all.Given as goal

abbrev pub invariant-loop-below : goal.invariant-loop-below
invariant-loop-below l = AreNoted l.fn.store.vars l.fn.store.weights l.weights (2 * l.below + 2) l.costs
