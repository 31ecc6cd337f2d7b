use Rattle.std.proofs.Common.{Contains, take, arith, ap, subst, sym, ◌∙◌, inl, inr}
use Rattle.std.proofs.lemmas.List.{take_more, take_all}
use Rattle.std.proofs.lemmas.List.Elements.{Contains-push_cases}
use Rattle.mp_logic.specs.Literal.{Literal}
use Rattle.solver_cases.proofs.Valid.{within-for}
use Rattle.solver_cases.proofs.reading.is_within.Goals as goal

pub loop-lit-preserved : goal.loop-lit-preserved
loop-lit-preserved c =
    let test = rw c.items-lit-items.ensures at c.loop-lit-test.true in
    let is = rw c.items-lit-items.ensures at c.lit-item.is in
    let more = take_more c.args.clause.now c.loop-lit.lit-index c.lit-item.result test in
    let v = ap (λ (x : Literal). x.variable) c.lit.view_is in
    rw (more, ← is) (λ k i. elim (Contains-push_cases (take c.loop-lit.lit-index c.args.clause.now) c.lit-item.result k i) [
      | inl old ↦ c.loop-lit.invariant k old
      | inr e ↦ let z = ap (λ (x : Literal). x.variable) e in omega (arith, z, v, c.if-lit-vars.false)
    ])

pub returns : goal.returns
returns c = λ t.
    let test = rw c.items-lit-items.ensures at c.loop-lit-test.false in
    let all = take_all c.loop-lit.lit-index c.args.clause.now (omega (arith, test)) in
    within-for c.args.clause.now c.args.vars (sym c.is_normal.ensures ∙ t) (λ k i. c.loop-lit.invariant k (subst (λ x. Contains x k) (sym all) i))
