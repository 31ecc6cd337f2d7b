use Rattle.std.proofs.Common.{◌≡◌, ◌++◌, drop}
use Rattle.t_blocked.proofs.elimination.queue_again.Given as goal

abbrev pub invariant-loop-id : goal.invariant-loop-id
invariant-loop-id l = l.again ++ drop l.id-index l.ids ≡ l.fn.again ++ l.ids
