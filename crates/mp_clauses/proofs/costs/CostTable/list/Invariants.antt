use Rattle.std.proofs.Common.{◌≡◌, ◌++◌, drop}
use Rattle.mp_clauses.specs.Weighing.{costs_from, costs_of}
use Rattle.mp_clauses.proofs.costs.CostTable.list.Given as goal

abbrev pub invariant-loop-place : goal.invariant-loop-place
invariant-loop-place l = l.made ++ costs_from l.place (drop l.place l.self.weights) ≡ costs_of l.self.weights
