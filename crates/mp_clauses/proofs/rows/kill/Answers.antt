use Rattle.std.proofs.Common.{arith, ◌∙◌}
use Rattle.std.proofs.lemmas.Grind.{common_steps}
use Rattle.mp_clauses.proofs.Steps.{kill-step}
use Rattle.mp_clauses.proofs.rows.kill.Goals as goal

pub loop-id-preserved : goal.loop-id-preserved
loop-id-preserved c =
    record {
      len = grind (arith, common_steps, c.kill.ensures.rows, c.loop-id.invariant.len);
      free = c.kill.ensures.free ∙ c.loop-id.invariant.free;
      room = c.kill.ensures.room ∙ c.loop-id.invariant.room;
      rows = rw c.kill.ensures.rows (kill-step c.args.gone.now c.loop-id.id-index c.loop-id.rows.rows _ c.loop-id-test.true c.loop-id.invariant.rows);
      sized = rw c.kill.ensures.rows c.uncount.ensures.sized;
      less = omega (arith, c.uncount.ensures.less, c.loop-id.invariant.less);
    }
