use Rattle.std.proofs.Common.{◌-◌, length}
use Rattle.core_solver.specs.Searching.{IsCursor}
use Rattle.core_solver.proofs.decisions.choose.Given as goal

abbrev pub invariant-assumptions : goal.invariant-assumptions
invariant-assumptions l = IsCursor l.query l.trail.lits l.cursor

abbrev pub decreases-assumptions : goal.decreases-assumptions
decreases-assumptions l = length l.query.assumptions - l.cursor.assumed
