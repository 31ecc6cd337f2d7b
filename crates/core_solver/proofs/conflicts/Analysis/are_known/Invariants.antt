use Rattle.std.proofs.Common.{◌≡◌, ◌⊎◌, take, Contains}
use Rattle.mp_logic.specs.Literal.{Literal}
use Rattle.core_solver.specs.Conflicts.{IsKnown}
use Rattle.core_solver.proofs.conflicts.Analysis.are_known.Given as goal

abbrev pub invariant-loop-lit : goal.invariant-loop-lit
invariant-loop-lit l = (k : Literal) → Contains (take l.lit-index l.clause) k → (k ≡ l.besides) ⊎ IsKnown l.trail.lits l.self.learnt l.base k
