use Rattle.std.proofs.Common.{arith}
use Rattle.std.proofs.lemmas.Bool.{eqb-true}
use Rattle.mp_resting.proofs.Rested.{rising-ids, kept-at}
use Rattle.mp_resting.proofs.seen.Seen.has_kept.Goals as goal

pub below-requires : goal.below-requires
below-requires c = rising-ids c.args.lit c.args.store.now.slots c.occurrences.result.now c.occurrences.ensures.rising

pub returns : goal.returns
returns c t before s =
    let told = c.if-remembered-eq0.false in
    kept-at c.args.lit c.args.self.now before c.args.store.now c.occurrences.result.now c.remembered-remembered.result c.below.result s c.occurrences.ensures.rising c.below.ensures.within c.below.ensures.below c.remembered-remembered.ensures
    (omega (arith, told)) (eqb-true _ _ t)
