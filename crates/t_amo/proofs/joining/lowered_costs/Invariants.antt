use Rattle.std.proofs.Common.{◌≡◌, ◌++◌, drop}
use Rattle.t_amo.specs.Joining.{lowered}
use Rattle.t_amo.proofs.joining.lowered_costs.Given as goal

abbrev pub invariant-loop-lit : goal.invariant-loop-lit
invariant-loop-lit l = l.made ++ lowered l.least l.store.weights (drop l.lit-index l.chosen) ≡ lowered l.least l.store.weights l.chosen
