use Rattle.std.proofs.Common.{◌≡◌, length}
use Rattle.mp_clauses.proofs.first_table.count.Given as goal

abbrev pub invariant-loop-lit : goal.invariant-loop-lit
invariant-loop-lit l = length l.sizes.items ≡ length l.initial.sizes.items
