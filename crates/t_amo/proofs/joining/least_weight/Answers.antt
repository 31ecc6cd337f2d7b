use Rattle.t_amo.proofs.Joins.{least-is}
use Rattle.t_amo.proofs.joining.least_weight.Goals as goal

pub returns-in-Some : goal.returns-in-Some
returns-in-Some c = least-is c.args.store.now c.in-Some.first.now c.in-Some.rest.now c.args.chosen.now c.weight.result c.least_of.result c.in-Some.ensures.cases.0 c.weight.ensures c.least_of.ensures
