use Rattle.std.proofs.Common.{◌∙◌, sym}
use Rattle.t_matching.proofs.Labels.{live-ids}
use Rattle.t_matching.proofs.PairIds.{lone-pair, pair-none, core-pair}
use Rattle.t_matching.proofs.cores.pair_id.Goals as goal

pub lone-requires : goal.lone-requires
lone-requires c = live-ids c.args.kept c.args.store.now.slots c.occurrences.result.now c.occurrences.ensures.rising

pub returns-in-Some : goal.returns-in-Some
returns-in-Some c =
    let found = rw c.occurrences.ensures.rising at (sym c.lone.ensures ∙ c.in-Some.is) in
    lone-pair c.args.kept c.args.dropped c.args.store.now.slots c.in-Some.id found

pub returns-in-None : goal.returns-in-None
returns-in-None c = absurd (pair-none c.args.kept c.args.dropped c.args.store.now.slots c.occurrences.result.now c.occurrences.ensures.rising (sym c.lone.ensures ∙ c.in-None.is) (core-pair c.args.store.now c.args.kept c.args.dropped c.requires.core))
