use Rattle.std.proofs.Common.{◌≤◌, Contains, take}
use Rattle.mp_logic.specs.Literal.{Literal}
use Rattle.solver_cases.proofs.reading.is_within.Given as goal

abbrev pub invariant-loop-lit : goal.invariant-loop-lit
invariant-loop-lit l = (k : Literal) → Contains (take l.lit-index l.clause) k → k.variable ≤ l.vars
