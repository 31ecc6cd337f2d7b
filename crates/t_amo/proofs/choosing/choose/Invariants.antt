use Rattle.std.proofs.Common.{length}
use Rattle.t_amo.specs.Choosing.{AreChosenSoFar}
use Rattle.t_amo.proofs.choosing.choose.Given as goal

abbrev pub invariant-choose : goal.invariant-choose
invariant-choose l = AreChosenSoFar l.store l.fn.lit l.chosen.items l.left.items

abbrev pub decreases-choose : goal.decreases-choose
decreases-choose l = length l.left.items
