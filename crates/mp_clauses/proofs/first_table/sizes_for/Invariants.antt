use Rattle.std.proofs.Common.{◌≡◌, length}
use Rattle.mp_clauses.proofs.first_table.sizes_for.Given as goal

abbrev pub invariant-loop-id : goal.invariant-loop-id
invariant-loop-id l = length l.sizes.items ≡ l.buckets
