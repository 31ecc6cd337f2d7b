use Rattle.std.proofs.Common.{◌≡◌, map, take}
use Rattle.mp_merging.specs.Tables.{soft_by}
use Rattle.mp_merging.proofs.softs.softs_of.Given as goal

abbrev pub invariant-loop-cost : goal.invariant-loop-cost
invariant-loop-cost l = l.made ≡ map (soft_by l.homes l.clauses) (take l.cost-index l.costs)
