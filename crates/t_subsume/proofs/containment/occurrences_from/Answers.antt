use Rattle.mp_resting.proofs.Rested.{rising-ids}
use Rattle.t_subsume.proofs.containment.occurrences_from.Goals as goal

pub below-requires : goal.below-requires
below-requires c = rising-ids c.args.lit c.args.store.now.slots c.occurrences-ids.result.now c.occurrences-ids.ensures.rising
