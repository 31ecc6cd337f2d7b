use Rattle.std.proofs.Common.{◌≡◌, ◌-◌, arith, ap, sym, ◌∙◌, subst, inr}
use Rattle.mp_logic.specs.Literal.{negation}
use Rattle.mp_logic.proofs.Literals.{negation-negation}
use Rattle.core_solver.specs.Trails.{IsPositionOf}
use Rattle.core_solver.proofs.backjump.second_watch.Goals as goal

pub returns : goal.returns
returns c =
    let j = c.args.back - 1 in
    let back : negation c.negated.result ≡ c.lit.result = ap negation c.negated.ensures ∙ negation-negation c.lit.result in
    let at : IsPositionOf c.args.trail.now.lits c.lit.result j = (omega (arith, c.requires, c.if-back-eq0.false), sym c.lit.ensures.value) in
    inr (j, omega (arith, c.if-back-eq0.false), subst (λ x. IsPositionOf c.args.trail.now.lits x j) (sym back) at)
