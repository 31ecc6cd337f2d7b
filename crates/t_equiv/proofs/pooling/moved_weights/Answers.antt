use Rattle.std.proofs.Common.{arith}
use Rattle.t_equiv.proofs.PooledStores.{comes-first}
use Rattle.t_equiv.proofs.pooling.moved_weights.Goals as goal

pub loop-below-init : goal.loop-below-init
loop-below-init c = comes-first c.args.store.now c.args.images.now c.in_ok-moved.moved.items _ c.vars-vars.ensures.sound (omega arith) (c.in_ok-moved.ensures.items_if_clones_equal (λ y e. e))
