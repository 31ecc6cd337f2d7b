use Rattle.std.proofs.Common.{◌+◌, ◌*◌, length}
use Rattle.mp_store.specs.Held.{labelled_of}
use Rattle.mp_store.specs.Soundness.{IsStore}
use Rattle.t_matching.specs.Cores.{AreCore, LeavesVariables}
use Rattle.t_matching.proofs.PairTurns.{ArePairsUnderway}
use Rattle.t_matching.proofs.cores.binary_cores.Given as goal

abbrev pub invariant-turns : goal.invariant-turns
invariant-turns l = record {
  underway : ArePairsUnderway AreCore LeavesVariables l.fn.budget l.left l.fn.store l.store l.queue l.changed;
  sound : IsStore l.store;
}

abbrev pub decreases-turns : goal.decreases-turns
decreases-turns l = length (labelled_of l.fn.store).costs * length (labelled_of l.store).costs + length l.queue
