use Rattle.mp_resting.proofs.Rested.{before-itself, counts-both}
use Rattle.mp_resting.proofs.seen.Seen.clauses.Goals as goal

pub loop-earlier-preserved : goal.loop-earlier-preserved
loop-earlier-preserved c =
    let w = counts-both c.loop-earlier.counts.items c.args.store.now c.loop-earlier.earlier c.new-positive.result c.new-negative.result c.count.result c.count-in-loop-earlier.result c.loop-earlier.invariant.many c.loop-earlier.invariant.counts c.new-positive.ensures.variable c.new-positive.ensures.sign c.new-negative.ensures.variable c.new-negative.ensures.sign c.count.ensures c.count-in-loop-earlier.ensures in
    rw (c.in_ok-push-4.ensures.items, c.in_ok-push-3.ensures.items) (record { many = w.0; counts = w.1 })

pub returns : goal.returns
returns c = record { mark = c.next_id.ensures; counts = rw c.from_vec.ensures c.loop-earlier.invariant.counts; before_is = before-itself c.args.store.now }
