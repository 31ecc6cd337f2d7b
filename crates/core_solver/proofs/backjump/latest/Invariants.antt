use Rattle.std.proofs.Common.{take}
use Rattle.core_solver.specs.Watching.{IsLatest}
use Rattle.core_solver.proofs.backjump.latest.Given as goal

abbrev pub invariant-loop-other : goal.invariant-loop-other
invariant-loop-other l = IsLatest l.trail.lits (take l.other-index l.clause) l.lit l.back
