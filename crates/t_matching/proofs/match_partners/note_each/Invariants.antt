use Rattle.std.proofs.Common.{◌≡◌, ◌++◌, drop}
use Rattle.t_matching.specs.Pairing.{labels_at}
use Rattle.t_matching.proofs.match_partners.note_each.Given as goal

abbrev pub invariant-loop-id : goal.invariant-loop-id
invariant-loop-id l = l.found ++ labels_at l.store.weights l.weight l.store.slots (drop l.id-index l.ids) ≡ l.initial.found ++ labels_at l.store.weights l.weight l.store.slots l.ids
