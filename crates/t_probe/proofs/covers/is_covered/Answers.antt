use Rattle.t_probe.proofs.Covering.{ids-live, covered-then, covered-else}
use Rattle.t_probe.proofs.covers.is_covered.Goals as goal

pub covers_among-requires : goal.covers_among-requires
covers_among-requires c = ids-live c.args.first c.args.store.now.slots c.occurrences-of_first.result.now c.occurrences-of_first.ensures.rising

pub covers_among-requires-else-covers_among : goal.covers_among-requires-else-covers_among
covers_among-requires-else-covers_among c = ids-live c.args.second c.args.store.now.slots c.occurrences-of_second.result.now c.occurrences-of_second.ensures.rising

pub returns-then-covers_among : goal.returns-then-covers_among
returns-then-covers_among c = covered-then c.args.store.now c.args.first c.args.second c.occurrences-of_first.result.now c.covers_among.result c.covers_among.ensures c.if-covers_among.true

pub returns-else-covers_among : goal.returns-else-covers_among
returns-else-covers_among c = covered-else c.args.store.now c.args.first c.args.second c.occurrences-of_first.result.now c.occurrences-of_second.result.now c.covers_among.result c.covers_among-else-covers_among.result c.vars.ensures.sound c.requires.unrefuted c.occurrences-of_first.ensures.rising c.occurrences-of_second.ensures.rising c.covers_among.ensures c.if-covers_among.false c.covers_among-else-covers_among.ensures
