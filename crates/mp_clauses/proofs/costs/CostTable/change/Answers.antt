use Rattle.std.proofs.Common.{refl}
use Rattle.mp_clauses.proofs.Pricing.{costs_from-longer}
use Rattle.mp_clauses.proofs.Numbered.{numbered-longer, number-longer}
use Rattle.mp_clauses.proofs.costs.CostTable.change.Goals as goal

pub weigh-requires-clause-numbered : goal.weigh-requires-clause-numbered
weigh-requires-clause-numbered c = rw c.lengthen.ensures (number-longer _ _ c.args.more c.self.invariant.0)

pub weigh-requires-clause-count : goal.weigh-requires-clause-count
weigh-requires-clause-count c = rw (c.lengthen.ensures, numbered-longer c.self.inside.weights.items c.self.inside.numbers.items c.args.more c.self.invariant.0.none, costs_from-longer) c.self.invariant.1

pub returns : goal.returns
returns c =
    let longer = numbered-longer c.self.inside.weights.items c.self.inside.numbers.items c.args.more c.self.invariant.0.none in
    let start = rw (c.lengthen.ensures, longer) at c.weigh.ensures.weights in
    rw (← c.self.view_is) start
