use Rattle.std.proofs.Common.{arith}
use Rattle.core_solver.proofs.Chosen.{values-more}
use Rattle.core_solver.proofs.decisions.lowest_open.Goals as goal

pub loop-place-preserved : goal.loop-place-preserved
loop-place-preserved c =
    values-more c.args.trail.now.lits c.loop-place.place c.loop-place.invariant (λ l e. c.in_default.ensures l (omega (arith, e), omega (arith, e, c.loop-place-test.true)) e)
