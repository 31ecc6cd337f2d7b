use Rattle.std.proofs.Common.{◌∙◌, arith}
use Rattle.t_blocked.proofs.Untouched.{covered-more, covered-idle}
use Rattle.t_blocked.proofs.touched.touched_since.Goals as goal

pub loop-earlier-preserved : goal.loop-earlier-preserved
loop-earlier-preserved c =
    let lt = c.loop-earlier-test.true in
    let n = c.vars-earlier-end.ensures.vars in
    let second = c.touch_unless_kept-in-loop-earlier.ensures in
    record {
      within = omega (arith, lt, n);
      len = second.len ∙ c.touch_unless_kept.ensures.len ∙ c.loop-earlier.invariant.len;
      covered = covered-more c.loop-earlier.earlier c.new-positive.result c.new-negative.result c.args.kept.now c.loop-earlier.touched c.touch_unless_kept.new.touched c.touch_unless_kept-in-loop-earlier.new.touched c.args.store.now.slots c.new-positive.ensures.variable c.new-negative.ensures.variable c.new-positive.ensures.sign c.new-negative.ensures.sign c.touch_unless_kept.ensures.before second.before c.touch_unless_kept.ensures.own second.own c.loop-earlier.invariant.covered;
    }

pub returns : goal.returns
returns c =
    let ge = c.loop-earlier-test.false in
    let n = c.vars-earlier-end.ensures.vars in
    covered-idle c.args.seen.now c.args.kept.now c.loop-earlier.touched c.args.store.now c.vars.ensures.sound c.requires c.loop-earlier.invariant.len (λ l low high. c.loop-earlier.invariant.covered l low (omega (arith, high, ge, n)))
