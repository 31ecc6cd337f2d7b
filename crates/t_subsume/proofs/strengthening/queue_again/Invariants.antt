use Rattle.t_subsume.specs.Shortening.{AreAgain}
use Rattle.t_subsume.proofs.strengthening.queue_again.Given as goal

abbrev pub invariant-loop-id : goal.invariant-loop-id
invariant-loop-id l = AreAgain l.first l.id l.fn.again l.again
