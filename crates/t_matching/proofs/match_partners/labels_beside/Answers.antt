use Rattle.t_matching.proofs.Labels.{live-ids}
use Rattle.t_matching.proofs.Partners.{near-step}
use Rattle.t_matching.proofs.match_partners.labels_beside.Goals as goal

pub note_each-requires : goal.note_each-requires
note_each-requires c = live-ids c.negated.result c.args.store.now.slots c.occurrences.result.now c.occurrences.ensures.rising

pub loop-lit-preserved : goal.loop-lit-preserved
loop-lit-preserved c = near-step c.args.store.now.weights c.args.weight c.args.store.now.slots c.args.clause.now c.loop-lit.lit-index c.lit-item.result c.negated.result c.occurrences.result.now c.loop-lit.found _ c.loop-lit-test.true c.lit-item.is c.negated.ensures c.occurrences.ensures.rising c.in_ok-note_each.ensures c.loop-lit.invariant
