use Rattle.std.proofs.Common.{◌≡◌, ◌++◌, drop}
use Rattle.t_matching.specs.Labels.{places_at}
use Rattle.t_matching.proofs.near.note_all.Given as goal

abbrev pub invariant-loop-id : goal.invariant-loop-id
invariant-loop-id l = l.near.items ++ places_at l.store.weights l.store.slots (drop l.id-index l.ids) ≡ l.initial.near.items ++ places_at l.store.weights l.store.slots l.ids
