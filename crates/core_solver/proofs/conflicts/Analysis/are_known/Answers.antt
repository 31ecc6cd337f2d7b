use Rattle.std.proofs.Common.{◌≡◌, ◌⊎◌, Contains, take, refl, sym, subst, arith, inl, inr}
use Rattle.std.proofs.lemmas.List.{take_more, take_all}
use Rattle.core_solver.specs.Conflicts.{IsKnown}
use Rattle.core_solver.proofs.Minimised.{known-more}
use Rattle.core_solver.proofs.conflicts.Analysis.are_known.Goals as goal
use Rattle.core_solver.proofs.conflicts.Analysis.are_known.Goals.{else-not-same-via-then-not-same+else-not-is_known, else-not-same-via-else-not-same}

pub loop-lit-preserved : goal.loop-lit-preserved
loop-lit-preserved c =
    let lits = c.args.trail.now.lits in
    let learnt = c.args.self.now.learnt in
    let more = take_more c.args.clause.now c.loop-lit.lit-index c.lit-item.result c.loop-lit-test.true in
    let known : (c.lit-item.result ≡ c.args.besides) ⊎ IsKnown lits learnt c.args.base c.lit-item.result =
    elim c.else-not-same.branch [
      | else-not-same-via-then-not-same+else-not-is_known w ↦ inr (w.if-not-is_known.ensures refl)
      | else-not-same-via-else-not-same w ↦ inl w.if-not-same.ensures
    ] in
    rw (more, ← c.lit-item.is) (known-more lits learnt (take c.loop-lit.lit-index c.args.clause.now) c.args.base c.args.besides c.lit-item.result known c.loop-lit.invariant)

pub returns : goal.returns
returns c = λ t k i.
    let all = take_all c.loop-lit.lit-index c.args.clause.now (omega (arith, c.loop-lit-test.false)) in
    c.loop-lit.invariant k (subst (λ x. Contains x k) (sym all) i)
