use Rattle.t_matching.proofs.Labels.{live-ids}
use Rattle.t_matching.proofs.near.gather.Goals as goal

pub note_all-requires : goal.note_all-requires
note_all-requires c = live-ids c.args.first c.args.store.now.slots c.occurrences.result.now c.occurrences.ensures.rising

pub note_all-requires-2 : goal.note_all-requires-2
note_all-requires-2 c = live-ids c.args.second c.args.store.now.slots c.occurrences-2.result.now c.occurrences-2.ensures.rising
