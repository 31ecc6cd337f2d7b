use Rattle.std.proofs.Common.{List, ◌++◌, drop}
use Rattle.mp_logic.specs.Literal.{Literal}
use Rattle.t_matching.specs.Joins.{clauses_at, AreAllJoins}
use Rattle.t_matching.proofs.cores.join_all.Given as goal

abbrev pub invariant-loop-id : goal.invariant-loop-id
invariant-loop-id l = (tail : List (List Literal)) → AreAllJoins (clauses_at l.store.slots (drop l.id-index l.ids)) l.dropped (clauses_at l.store.slots l.others) tail → AreAllJoins (clauses_at l.store.slots l.ids) l.dropped (clauses_at l.store.slots l.others) (l.made ++ tail)
