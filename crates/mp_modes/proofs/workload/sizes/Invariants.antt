use Rattle.std.proofs.Common.{◌≡◌, take, length, sum_by}
use Rattle.mp_modes.proofs.workload.sizes.Given as goal

abbrev pub invariant-loop-clause : goal.invariant-loop-clause
invariant-loop-clause l = l.literals ≡ sum_by length (take l.clause-index l.clause-items)
