use Rattle.std.proofs.Common.{length}
use Rattle.t_equiv.proofs.PooledStores.{moved-total}
use Rattle.t_equiv.proofs.pooling.pool.Goals as goal

pub cancel_all-shift-requires-clause-below : goal.cancel_all-shift-requires-clause-below
cancel_all-shift-requires-clause-below c = moved-total c.args.store.now c.args.images.now c.in_ok-weights.weights.items (length c.args.store.now.weights) c.vars-vars.ensures.sound c.in_ok-weights.ensures
