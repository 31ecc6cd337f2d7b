use Rattle.std.proofs.Common.{arith, refl, ap, replicate, ◌∙◌}
use Rattle.mp_clauses.proofs.Pricing.{costs_from-zeros}
use Rattle.mp_clauses.proofs.Numbered.{numbered-zeros, numbered-length, number-longer, number-none}
use Rattle.mp_clauses.proofs.costs.CostTable.clear.Goals as goal

pub invariant_of-self : goal.invariant_of-self
invariant_of-self c =
    let a = c.self.invariant.0 in (
      rw (c.lengthen.ensures, c.clear.ensures.items) (number-longer _ c.self.inside.weights.items _ (number-none c.self.inside.weights.items a.some a.few a.none)),
      rw (c.lengthen.ensures, c.clear.ensures.items, numbered-zeros c.self.inside.weights.items _ a.none, costs_from-zeros) refl,
    )

pub returns : goal.returns
returns c =
    let a = c.self.invariant.0 in
    let len = numbered-length c.self.inside.weights.items c.self.inside.numbers.items in
    let own = c.self.inside.numbers.ok in
    let here = c.len.ensures in
    rw (← c.self.view_is, c.lengthen.ensures, c.clear.ensures.items) (numbered-zeros c.self.inside.weights.items _ a.none ∙ ap (λ n. replicate n 0) (omega (arith, len, own, here)))
