use Rattle.t_matching.proofs.Partners.{unused-result}
use Rattle.t_matching.proofs.match_partners.is_unused.Goals as goal

pub returns : goal.returns
returns c = unused-result c.args.lit c.args.store.now.slots c.occurrences.result.now c.is_empty.result c.occurrences.ensures.rising c.is_empty.ensures
