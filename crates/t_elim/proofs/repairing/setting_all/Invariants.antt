use Rattle.std.proofs.Common.{◌≡◌, map}
use Rattle.mp_logic.specs.Rewrites.{set_repair}
use Rattle.t_elim.proofs.repairing.setting_all.Given as goal

abbrev pub invariant-loop-clause : goal.invariant-loop-clause
invariant-loop-clause l = l.made ≡ map (set_repair l.lit) l.yielded
