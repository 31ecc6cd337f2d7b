use Rattle.std.proofs.Common.{◌≡◌}
use Rattle.std.specs.List.{filter, range_with_len}
use Rattle.mp_clauses.specs.Slots.{live_clauses}
use Rattle.mp_store.specs.Measures.{occurs}
use Rattle.t_elim.proofs.candidates.occurring_variables.Given as goal

abbrev pub invariant-loop-below : goal.invariant-loop-below
invariant-loop-below l = l.made ≡ filter (λ v. occurs v (live_clauses l.store.slots)) (range_with_len 1 l.below)
