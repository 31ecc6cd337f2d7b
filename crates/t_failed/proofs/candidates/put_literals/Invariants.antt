use Rattle.std.proofs.Common.{◌≡◌, ◌/◌}
use Rattle.std.specs.List.{filter, range_with_len}
use Rattle.mp_clauses.specs.Slots.{live_clauses}
use Rattle.mp_store.specs.Measures.{occurs}
use Rattle.t_failed.proofs.candidates.put_literals.Given as goal

abbrev pub invariant-loop-below : goal.invariant-loop-below
invariant-loop-below l = l.made ≡ filter (λ p. occurs (p / 2) (live_clauses l.store.slots)) (range_with_len 2 l.below)
