use Rattle.t_matching.proofs.Labels.{plain-result}
use Rattle.t_matching.proofs.costs.is_plain.Goals as goal

pub returns : goal.returns
returns c = plain-result c.args.lit c.negated.result c.args.store.now.slots c.occurrences.result.now c.is_empty.result c.negated.ensures c.occurrences.ensures.rising c.is_empty.ensures
