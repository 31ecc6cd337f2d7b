use Rattle.t_matching.proofs.Joining.{JoinsSoFar}
use Rattle.t_matching.proofs.joins.join_each.Given as goal

abbrev pub invariant-loop-id : goal.invariant-loop-id
invariant-loop-id l = JoinsSoFar l.clause l.dropped l.store.slots l.ids l.id-index l.initial.made l.made
