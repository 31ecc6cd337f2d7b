use Rattle.t_probe.proofs.Rows.{partners-step, partners-end}
use Rattle.t_probe.proofs.pairs.partners.Goals as goal

pub loop-model-preserved : goal.loop-model-preserved
loop-model-preserved c =
    let w = partners-step c.args.lit c.args.behind.now c.loop-model.made.items c.leave_true.new.lits.items c.args.models.now c.loop-model.model-index c.model-item.result c.loop-model-test.true c.model-item.is c.loop-model.invariant.from c.loop-model.invariant.others c.leave_true.ensures.from c.leave_true.ensures.others in
    record { from = w.0; others = w.1 }

pub returns-clause-others : goal.returns-clause-others
returns-clause-others c = partners-end c.args.lit c.args.behind.now c.loop-model.made.items c.args.models.now c.loop-model.model-index c.loop-model-test.false c.loop-model.invariant.others
