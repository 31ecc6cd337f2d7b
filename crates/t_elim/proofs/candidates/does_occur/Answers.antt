use Rattle.t_elim.proofs.Gone.{new-is, occurs-first, occurs-second}
use Rattle.t_elim.proofs.candidates.does_occur.Goals as goal

pub returns-then-occurrences-ne0 : goal.returns-then-occurrences-ne0
returns-then-occurrences-ne0 c =
    occurs-first c.args.variable c.args.store.now.slots c.new-positive.result c.occurrences.result.now
    (new-is c.new-positive.result _ _ c.new-positive.ensures.variable c.new-positive.ensures.sign) c.occurrences.ensures.rising c.if-occurrences-ne0.true

pub returns-else-occurrences-ne0 : goal.returns-else-occurrences-ne0
returns-else-occurrences-ne0 c =
    occurs-second c.args.variable c.args.store.now.slots c.new-positive.result c.new-negative.result c.occurrences.result.now c.occurrences-else-occurrences-ne0.result.now
    (new-is c.new-positive.result _ _ c.new-positive.ensures.variable c.new-positive.ensures.sign) (new-is c.new-negative.result _ _ c.new-negative.ensures.variable c.new-negative.ensures.sign)
    c.occurrences.ensures.rising c.occurrences-else-occurrences-ne0.ensures.rising c.if-occurrences-ne0.false
