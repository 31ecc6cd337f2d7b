use Rattle.t_amo.proofs.Joins.{top-same}
use Rattle.t_amo.proofs.joining.top_clause.Goals as goal

pub returns-clause-same : goal.returns-clause-same
returns-clause-same c = top-same c.args.fresh c.args.chosen.now c.loop-lit.top c.normalise.new.clause c.loop-lit.lit-index c.loop-lit-test.false c.loop-lit.invariant c.normalise.ensures.same
