use Rattle.mp_store.proofs.Clashes.{ids-live}
use Rattle.t_elim.proofs.Gone.{new-is}
use Rattle.t_elim.proofs.Steps.{worth-is}
use Rattle.t_elim.proofs.counting.pays_off.Goals as goal

pub are_worth_it-requires-clause-positive : goal.are_worth_it-requires-clause-positive
are_worth_it-requires-clause-positive c = rw c.occurrences.ensures.rising (ids-live c.new-positive.result c.args.store.now.slots)

pub are_worth_it-requires-clause-negative : goal.are_worth_it-requires-clause-negative
are_worth_it-requires-clause-negative c = rw c.occurrences-2.ensures.rising (ids-live c.new-negative.result c.args.store.now.slots)

pub returns : goal.returns
returns c =
    worth-is c.args.variable c.args.store.now.slots c.new-positive.result c.new-negative.result _ _ c.in_ok-worth.worth
    (new-is c.new-positive.result _ _ c.new-positive.ensures.variable c.new-positive.ensures.sign) (new-is c.new-negative.result _ _ c.new-negative.ensures.variable c.new-negative.ensures.sign)
    c.occurrences.ensures.rising c.occurrences-2.ensures.rising c.in_ok-worth.ensures
