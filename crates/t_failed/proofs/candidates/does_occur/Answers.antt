use Rattle.t_failed.proofs.Occurring.{does-first, does-second}
use Rattle.t_failed.proofs.candidates.does_occur.Goals as goal

pub returns-then-occurrences-ne0 : goal.returns-then-occurrences-ne0
returns-then-occurrences-ne0 c = does-first c.args.variable c.args.store.now.slots c.new-positive.result c.occurrences.result.now c.new-positive.ensures.variable c.occurrences.ensures.rising c.if-occurrences-ne0.true

pub returns-else-occurrences-ne0 : goal.returns-else-occurrences-ne0
returns-else-occurrences-ne0 c =
    does-second c.args.variable c.args.store.now.slots c.new-positive.result c.negated.result c.occurrences.result.now c.occurrences-else-occurrences-ne0.result.now
    c.new-positive.ensures.variable c.negated.ensures c.occurrences.ensures.rising c.occurrences-else-occurrences-ne0.ensures.rising c.if-occurrences-ne0.false
