use Rattle.std.proofs.Common.{◌≡◌, ◌++◌, drop}
use Rattle.t_labels.specs.Grouping.{clauses_at}
use Rattle.t_labels.proofs.groups.copies.Given as goal

abbrev pub invariant-loop-id : goal.invariant-loop-id
invariant-loop-id l = l.made.items ++ clauses_at l.store.slots (drop l.id-index l.ids) ≡ clauses_at l.store.slots l.ids
