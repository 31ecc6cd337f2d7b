use Rattle.std.proofs.Common.{◌≡◌, filter, take}
use Rattle.mp_merging.specs.Tables.{is_kept}
use Rattle.mp_merging.proofs.homes.kept_clauses.Given as goal

abbrev pub invariant-loop-clause : goal.invariant-loop-clause
invariant-loop-clause l = l.kept ≡ filter (is_kept l.marks) (take l.clause-index l.clause-items)
