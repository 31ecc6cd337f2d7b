use Rattle.std.proofs.Common.{◌≡◌, ◌+◌, drop, sum_by}
use Rattle.mp_logic.specs.Keeping.{charged}
use Rattle.t_probe.proofs.hardening.cost_of.Given as goal

abbrev pub invariant-loop-cost : goal.invariant-loop-cost
invariant-loop-cost l = l.total + sum_by (charged l.model) (drop l.cost-index l.cost-items) ≡ sum_by (charged l.model) l.cost-items
