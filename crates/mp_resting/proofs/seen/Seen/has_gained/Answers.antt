use Rattle.std.proofs.lemmas.Bool.{ltb-false}
use Rattle.mp_resting.proofs.Rested.{rising-ids, none-came}
use Rattle.mp_resting.proofs.seen.Seen.has_gained.Goals as goal

pub below-requires : goal.below-requires
below-requires c = rising-ids c.args.lit c.args.store.now.slots c.occurrences-ids.result.now c.occurrences-ids.ensures.rising

pub returns : goal.returns
returns c f = rw c.occurrences-ids.ensures.rising at (none-came c.occurrences-ids.result.now c.args.self.now.mark c.below.result c.below.ensures.below (ltb-false _ _ f))
