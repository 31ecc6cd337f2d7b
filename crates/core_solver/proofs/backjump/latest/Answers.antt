use Rattle.std.proofs.Common.{take}
use Rattle.std.proofs.lemmas.List.{take_more}
use Rattle.core_solver.proofs.Taken.{latest-more}
use Rattle.core_solver.proofs.backjump.latest.Goals as goal

pub loop-other-preserved : goal.loop-other-preserved
loop-other-preserved c =
    let test = rw c.items-other-items.ensures at c.loop-other-test.true in
    let is = rw c.items-other-items.ensures at c.other-item.is in
    let more = take_more c.args.clause.now c.loop-other.other-index c.other-item.result test in
    rw (more, ← is) (latest-more c.args.trail.now.lits (take c.loop-other.other-index c.args.clause.now) c.other-item.result c.args.lit c.loop-other.back c.later-back.result c.loop-other.invariant c.later-back.ensures)
