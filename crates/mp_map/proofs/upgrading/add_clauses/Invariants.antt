use Rattle.std.proofs.Common.{◌≡◌, ◌++◌, take}
use Rattle.mp_map.proofs.upgrading.add_clauses.Given as goal

abbrev pub invariant-loop-clause : goal.invariant-loop-clause
invariant-loop-clause l = l.clauses ≡ l.fn.clauses ++ take l.clause-index l.more
