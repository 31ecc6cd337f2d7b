use Rattle.std.proofs.Common.{take}
use Rattle.core_solver.specs.Conflicts.{IsMinimised}
use Rattle.core_solver.proofs.conflicts.Analysis.minimised.Given as goal

abbrev pub invariant-loop-lit : goal.invariant-loop-lit
invariant-loop-lit l = IsMinimised l.clauses l.trail l.self.learnt l.base l.asserting (take l.lit-index l.self.learnt) l.left
