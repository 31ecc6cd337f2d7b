use Rattle.std.proofs.Common.{◌<◌, ◌+◌, arith}
use Rattle.mp_logic.specs.Weights.{weight_bound}
use Rattle.mp_store.specs.Held.{labelled_of}
use Rattle.mp_engine.proofs.Asked.{bound_below}
use Rattle.mp_engine.proofs.letters.with_offset.Goals as goal

pub overflow_add-result : goal.overflow_add-result
overflow_add-result c =
    let s = labelled_of c.args.store.now in
    let below : s.offset + c.args.cost < weight_bound = bound_below c.args.cost s c.requires c.vars.ensures.sound.labelled.below in
    omega (arith, below, c.offset.ensures)
