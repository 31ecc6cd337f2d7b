use Rattle.std.proofs.Common.{List, Contains, take}
use Rattle.mp_logic.specs.Literal.{Literal}
use Rattle.solver_cases.specs.Within.{IsWithin}
use Rattle.solver_cases.proofs.reading.is_valid.Given as goal

abbrev pub invariant-loop-clause : goal.invariant-loop-clause
invariant-loop-clause l = (d : List Literal) → Contains (take l.clause-index l.query.hard) d → IsWithin l.query.vars d
