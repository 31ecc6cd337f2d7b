use Rattle.std.proofs.Common.{Contains, take, arith, refl, subst, sym, inl, inr}
use Rattle.std.proofs.lemmas.List.{take_more, take_all}
use Rattle.std.proofs.lemmas.List.Elements.{Contains-push_cases}
use Rattle.solver_cases.specs.Within.{IsWithin}
use Rattle.solver_cases.proofs.Valid.{valid-for}
use Rattle.solver_cases.proofs.reading.is_valid.Goals as goal

pub loop-clause-preserved : goal.loop-clause-preserved
loop-clause-preserved c =
    let hard = c.args.query.now.hard in
    let test = rw c.items-clause-items.ensures at c.loop-clause-test.true in
    let is = rw c.items-clause-items.ensures at c.clause-item.is in
    let more = take_more hard c.loop-clause.clause-index c.clause-item.result test in
    rw (more, ← is) (λ d i. elim (Contains-push_cases (take c.loop-clause.clause-index hard) c.clause-item.result d i) [
      | inl old ↦ c.loop-clause.invariant d old
      | inr e ↦ subst (IsWithin c.args.query.now.vars) e (c.if-not-is_within.ensures refl)
    ])

pub returns : goal.returns
returns c = λ t.
    let hard = c.args.query.now.hard in
    let test = rw c.items-clause-items.ensures at c.loop-clause-test.false in
    let all = take_all c.loop-clause.clause-index hard (omega (arith, test)) in
    valid-for c.args.query.now (λ d i. c.loop-clause.invariant d (subst (λ x. Contains x d) (sym all) i)) (c.is_within-2.ensures t)
