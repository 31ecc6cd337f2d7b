use Rattle.std.proofs.Common.{◌<◌, length, arith}
use Rattle.t_elim.proofs.Counted.{worth-without-rest, ahead-step, left-step}
use Rattle.t_elim.proofs.counting.are_few.Goals as goal

pub returns-then-ahead-left : goal.returns-then-ahead-left
returns-then-ahead-left c = worth-without-rest c.args.variable c.args.store.now.slots c.args.held.now c.args.others.now _ c.in-Some.pairs c.loop-id.ahead c.loop-id.left c.in-Some.ensures.0 c.in-Some.ensures.1 c.loop-id.invariant.0 (omega (arith, c.if-ahead-left.true)) c.loop-id.invariant.1

pub loop-id-preserved : goal.loop-id-preserved
loop-id-preserved c =
    let inside : c.loop-id.id-index < length c.args.held.now = omega (arith, c.loop-id-test.true) in (
      ahead-step c.args.held.now c.args.others.now c.loop-id.id-index c.loop-id.ahead inside c.loop-id.invariant.0,
      left-step c.args.variable c.args.store.now.slots c.args.held.now c.args.others.now c.hold.new.self c.clause.result.now c.loop-id.id-index c.loop-id.left c.fit.new.left _ _ inside c.clause.ensures c.in_ok-hold.ensures c.if-not-fit.ensures c.loop-id.invariant.1,
    )
