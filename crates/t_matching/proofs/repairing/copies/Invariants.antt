use Rattle.std.proofs.Common.{◌≡◌, ◌++◌, drop}
use Rattle.t_matching.specs.Joins.{clauses_at}
use Rattle.t_matching.proofs.repairing.copies.Given as goal

abbrev pub invariant-loop-id : goal.invariant-loop-id
invariant-loop-id l = l.made.items ++ clauses_at l.store.slots (drop l.id-index l.ids) ≡ clauses_at l.store.slots l.ids
