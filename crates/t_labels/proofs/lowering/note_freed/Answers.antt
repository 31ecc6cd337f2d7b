use Rattle.t_labels.proofs.Nearby.{freed-step}
use Rattle.t_labels.proofs.lowering.note_freed.Goals as goal

pub loop-lit-preserved : goal.loop-lit-preserved
loop-lit-preserved c = freed-step c.args.store.now c.args.gone.now c.loop-lit.lit-index c.lit-item.result c.negated.result c.loop-lit.near.items c.note_beside.new.near.items _ c.loop-lit-test.true c.lit-item.is c.negated.ensures c.in_ok-note_beside.ensures c.loop-lit.invariant
