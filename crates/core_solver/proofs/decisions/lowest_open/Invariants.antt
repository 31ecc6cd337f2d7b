use Rattle.mp_logic.specs.Literal.{Literal, IsUpTo}
use Rattle.core_solver.specs.Searching.{HasValue}
use Rattle.core_solver.proofs.decisions.lowest_open.Given as goal

abbrev pub invariant-loop-place : goal.invariant-loop-place
invariant-loop-place l = (k : Literal) → IsUpTo l.place k → HasValue l.trail.lits k
