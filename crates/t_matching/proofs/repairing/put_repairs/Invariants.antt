use Rattle.std.proofs.Common.{◌≡◌, ◌++◌, map}
use Rattle.mp_logic.specs.Rewrites.{set_repair}
use Rattle.t_matching.proofs.repairing.put_repairs.Given as goal

abbrev pub invariant-loop-clause : goal.invariant-loop-clause
invariant-loop-clause l = l.repairs ≡ l.initial.repairs ++ map (set_repair l.lit) l.yielded
