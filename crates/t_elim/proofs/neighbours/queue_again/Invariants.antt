use Rattle.std.proofs.Common.{◌≡◌, ◌++◌, drop}
use Rattle.std.specs.List.{filter}
use Rattle.t_elim.specs.Resolved.{is_candidate}
use Rattle.t_elim.proofs.neighbours.queue_again.Given as goal

abbrev pub invariant-loop-variable : goal.invariant-loop-variable
invariant-loop-variable l = l.again ++ filter (is_candidate l.store) (drop l.variable-index l.near) ≡ l.initial.again ++ filter (is_candidate l.store) l.near
