use Rattle.mp_resting.proofs.Rested.{kept-both}
use Rattle.mp_resting.proofs.kept.Kept.of.Goals as goal

pub loop-earlier-preserved : goal.loop-earlier-preserved
loop-earlier-preserved c =
    let w = kept-both c.loop-earlier.marks.items c.args.seen.now c.args.store.now c.loop-earlier.earlier c.new-positive.result c.new-negative.result c.has_kept.result c.has_kept-in-loop-earlier.result c.loop-earlier.invariant.many c.loop-earlier.invariant.kept
    c.new-positive.ensures.variable c.new-positive.ensures.sign c.new-negative.ensures.variable c.new-negative.ensures.sign c.has_kept.ensures c.has_kept-in-loop-earlier.ensures in
    rw (c.in_ok-push-4.ensures.items, c.in_ok-push-3.ensures.items) (record { many = w.0; kept = w.1 })
