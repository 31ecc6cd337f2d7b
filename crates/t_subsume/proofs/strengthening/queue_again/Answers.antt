use Rattle.t_subsume.proofs.Parts.{again-more}
use Rattle.t_subsume.proofs.strengthening.queue_again.Goals as goal

pub loop-id-preserved : goal.loop-id-preserved
loop-id-preserved c = again-more c.args.first c.loop-id.id c.args.again.now c.loop-id.again c.push.new.self c.loop-id.auto.id c.loop-id.invariant c.in_ok-push.ensures.ok
