use Rattle.std.proofs.Common.{◌≡◌, ◌++◌, drop}
use Rattle.t_labels.specs.Near.{places_at}
use Rattle.t_labels.proofs.lowering.note_clauses.Given as goal

abbrev pub invariant-loop-id : goal.invariant-loop-id
invariant-loop-id l = l.near.items ++ places_at l.store.weights l.store.slots (drop l.id-index l.ids) ≡ l.initial.near.items ++ places_at l.store.weights l.store.slots l.ids
