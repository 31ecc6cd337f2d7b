use Rattle.std.proofs.Common.{◌≡◌, ◌++◌, drop}
use Rattle.t_matching.specs.Pairs.{pair_labels}
use Rattle.t_matching.proofs.core_partners.note_pairs.Given as goal

abbrev pub invariant-loop-id : goal.invariant-loop-id
invariant-loop-id l = l.found ++ pair_labels l.store.weights l.weight l.store.slots (drop l.id-index l.ids) ≡ l.initial.found ++ pair_labels l.store.weights l.weight l.store.slots l.ids
