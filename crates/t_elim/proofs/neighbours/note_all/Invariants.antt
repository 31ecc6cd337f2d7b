use Rattle.std.proofs.Common.{◌≡◌, ◌++◌, drop}
use Rattle.t_elim.specs.Resolving.{variables_at}
use Rattle.t_elim.proofs.neighbours.note_all.Given as goal

abbrev pub invariant-loop-id : goal.invariant-loop-id
invariant-loop-id l = l.near.items ++ variables_at l.store.slots (drop l.id-index l.ids) ≡ l.initial.near.items ++ variables_at l.store.slots l.ids
