use Rattle.std.proofs.Common.{◌≡◌, ◌++◌, drop}
use Rattle.t_probe.specs.Hardening.{hardened_by}
use Rattle.t_probe.proofs.hardening.too_dear.Given as goal

abbrev pub invariant-loop-cost : goal.invariant-loop-cost
invariant-loop-cost l = l.made ++ hardened_by l.model l.bound (drop l.cost-index l.cost-items) ≡ hardened_by l.model l.bound l.cost-items
