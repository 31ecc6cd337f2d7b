use Rattle.std.proofs.Common.{arith, refl, [], ◌∷◌}
use Rattle.mp_clauses.proofs.Pricing.{costs_from-zeros}
use Rattle.mp_clauses.proofs.Numbered.{numbered-zeros, number-longer, number-none}
use Rattle.mp_clauses.proofs.costs.CostTable.new.Goals as goal

pub invariant_of-result : goal.invariant_of-result
invariant_of-result c = (
  rw (c.lengthen.ensures, c.in_ok-numbers.ensures.items, c.in_ok-push.ensures.items, c.new-weights.ensures.items) (number-longer [] (0 ∷ []) c.args.places (number-none (0 ∷ []) (omega arith) (omega arith) refl)),
  rw (c.lengthen.ensures, c.in_ok-numbers.ensures.items, c.in_ok-push.ensures.items, c.new-weights.ensures.items, numbered-zeros (0 ∷ []) c.args.places refl, costs_from-zeros) refl,
)

pub returns : goal.returns
returns c = rw (c.lengthen.ensures, c.in_ok-numbers.ensures.items, c.in_ok-push.ensures.items, c.new-weights.ensures.items) (numbered-zeros (0 ∷ []) c.args.places refl)
