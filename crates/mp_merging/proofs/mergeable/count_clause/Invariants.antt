use Rattle.std.proofs.Common.{◌≡◌, ℕ, cond, take, get_or}
use Rattle.mp_clauses.specs.Places.{has}
use Rattle.mp_merging.specs.Tables.{one_more}
use Rattle.mp_merging.proofs.mergeable.count_clause.Given as goal

abbrev pub invariant-loop-lit : goal.invariant-loop-lit
invariant-loop-lit l = (p : ℕ) → get_or l.uses p 0 ≡ cond (has p (take l.lit-index l.lit-items)) (one_more (get_or l.initial.uses p 0)) (get_or l.initial.uses p 0)
