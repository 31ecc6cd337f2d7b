use Rattle.t_matching.proofs.Partners.{clash-result}
use Rattle.t_matching.proofs.Labels.{live-ids}
use Rattle.t_matching.proofs.match_partners.all_clash.Goals as goal

pub each_clashes-requires-clause-ids : goal.each_clashes-requires-clause-ids
each_clashes-requires-clause-ids c = live-ids c.args.lit c.args.store.now.slots c.occurrences.result.now c.occurrences.ensures.rising

pub each_clashes-requires-clause-others : goal.each_clashes-requires-clause-others
each_clashes-requires-clause-others c = live-ids c.args.other c.args.store.now.slots c.occurrences-2.result.now c.occurrences-2.ensures.rising

pub returns : goal.returns
returns c = clash-result c.args.lit c.args.other c.args.store.now.slots c.occurrences.result.now c.occurrences-2.result.now c.each_clashes.result c.occurrences.ensures.rising c.occurrences-2.ensures.rising c.each_clashes.ensures
