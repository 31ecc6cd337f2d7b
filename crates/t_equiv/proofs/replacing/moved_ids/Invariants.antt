use Rattle.std.proofs.Common.{◌≡◌, ◌++◌, drop}
use Rattle.mp_clauses.specs.Occurrences.{ids_where}
use Rattle.t_equiv.specs.Substitutions.{slot_moves, moved_ids}
use Rattle.t_equiv.proofs.replacing.moved_ids.Given as goal

abbrev pub invariant-loop-id : goal.invariant-loop-id
invariant-loop-id l = l.ids ++ ids_where (slot_moves l.images) l.id (drop l.id l.fn.store.slots) ≡ moved_ids l.images l.fn.store.slots
