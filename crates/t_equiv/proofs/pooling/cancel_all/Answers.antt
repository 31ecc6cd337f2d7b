use Rattle.std.proofs.Common.{arith}
use Rattle.t_equiv.proofs.Pooled.{cancelled-more}
use Rattle.t_equiv.proofs.PooledStores.{cancel-fits}
use Rattle.t_equiv.proofs.pooling.cancel_all.Goals as goal

pub overflow_add-shift : goal.overflow_add-shift
overflow_add-shift c = omega (arith, cancel-fits c.args.weights.now.items c.loop-variable.weights.items c.cancel-shift.new.weights.items c.loop-variable.variable c.loop-variable.shift c.cancel-shift.result c.requires.below c.cancel-shift.ensures c.loop-variable.invariant)

pub loop-variable-preserved : goal.loop-variable-preserved
loop-variable-preserved c = cancelled-more c.args.weights.now.items c.loop-variable.weights.items c.cancel-shift.new.weights.items c.loop-variable.variable c.loop-variable.shift c.cancel-shift.result (omega (arith, c.loop-variable.invariant.many, c.requires.many)) c.cancel-shift.ensures c.loop-variable.invariant
