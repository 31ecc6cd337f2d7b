use Rattle.std.proofs.Common.{◌≡◌, ◌++◌, drop}
use Rattle.std.specs.Prelude.{is_some}
use Rattle.mp_clauses.specs.Occurrences.{ids_where}
use Rattle.mp_turns.specs.Clauses.{live_ids}
use Rattle.mp_turns.proofs.clauses.live_clause_ids.Given as goal

abbrev pub invariant-loop-id : goal.invariant-loop-id
invariant-loop-id l = l.made ++ ids_where is_some l.id (drop l.id l.store.slots) ≡ live_ids l.store.slots
