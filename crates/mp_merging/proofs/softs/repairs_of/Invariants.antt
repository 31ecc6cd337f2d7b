use Rattle.std.proofs.Common.{◌≡◌, take}
use Rattle.std.specs.List.{flat_map}
use Rattle.mp_merging.specs.Tables.{repairs_by}
use Rattle.mp_merging.proofs.softs.repairs_of.Given as goal

abbrev pub invariant-loop-cost : goal.invariant-loop-cost
invariant-loop-cost l = l.made ≡ flat_map (repairs_by l.homes l.clauses) (take l.cost-index l.costs)
