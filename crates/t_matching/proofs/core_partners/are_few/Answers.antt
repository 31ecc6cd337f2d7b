use Rattle.std.proofs.Common.{arith, ◌≡◌, ◌-◌, refl, inl, inr}
use Rattle.std.proofs.lemmas.Bool.{false≢true, eqb-true, eq-eqb, cases_eq}
use Rattle.t_matching.proofs.PairIds.{few-low, few-low-right, few-high}
use Rattle.t_matching.proofs.core_partners.are_few.Goals as goal

pub returns-then-count-le2 : goal.returns-then-count-le2
returns-then-count-le2 c = (let h = c.if-count-le2.true in (λ t. few-low (c.args.count - 1) (c.args.others - 1) (omega arith), λ t. refl))

pub returns-then-others-le2 : goal.returns-then-others-le2
returns-then-others-le2 c = (let h = c.if-others-le2.true in (λ t. few-low-right (c.args.count - 1) (c.args.others - 1) (omega arith), λ t. refl))

pub returns-then-count-ne3 : goal.returns-then-count-ne3
returns-then-count-ne3 c =
    let a = c.if-count-le2.false in
    let b = c.if-others-le2.false in
    let n = c.if-count-ne3.true in
    (λ f. absurd (false≢true f), λ h. absurd (few-high (c.args.count - 1) (c.args.others - 1) (omega arith) (omega arith) (omega arith) h))

pub returns : goal.returns
returns c =
    let a : c.args.count - 1 ≡ 2 = (let e = c.if-count-ne3.false in omega arith) in
    let b = c.if-others-le2.false in (
      λ t. (let e = eqb-true c.args.others 3 t in let d : c.args.others - 1 ≡ 2 = omega arith in rw (a, d) (omega arith)),
      λ h. elim (cases_eq c.args.others 3) [ inl e ↦ eq-eqb c.args.others 3 e | inr n ↦ absurd (few-high (c.args.count - 1) (c.args.others - 1) (omega arith) (omega arith) (omega arith) h) ],
    )
