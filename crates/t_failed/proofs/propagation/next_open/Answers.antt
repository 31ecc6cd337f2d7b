use Rattle.std.proofs.Common.{arith}
use Rattle.t_failed.proofs.Settling.{false-none, false-more, false-end, next-found}
use Rattle.t_failed.proofs.propagation.next_open.Goals as goal

pub loop-index-init : goal.loop-index-init
loop-index-init c = record { before = false-none c.args.trail.now c.args.clause.now c.args.from c.args.from (omega arith); least = omega arith }

pub loop-index-preserved : goal.loop-index-preserved
loop-index-preserved c =
    let least = c.loop-index.invariant.least in
    record {
      before = false-more c.args.trail.now c.args.clause.now c.args.from c.loop-index.index c.index-clause-index.result c.loop-index-test.true c.index-clause-index.is (rw c.negated.ensures at c.if-not-has.ensures.found) c.loop-index.invariant.before;
      least = omega (arith, least);
    }

pub returns-then-not-has : goal.returns-then-not-has
returns-then-not-has c =
    next-found c.args.trail.now c.args.clause.now c.args.from c.loop-index.index c.index-clause-index.result c.loop-index.invariant.least c.loop-index-test.true c.index-clause-index.is (rw c.negated.ensures at c.if-not-has.ensures.found) c.loop-index.invariant.before

pub returns : goal.returns
returns c = false-end c.args.trail.now c.args.clause.now c.args.from c.loop-index.index c.loop-index-test.false c.loop-index.invariant.before
