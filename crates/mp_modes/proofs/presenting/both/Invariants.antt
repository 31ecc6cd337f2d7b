use Rattle.std.proofs.Common.{◌≡◌, ◌++◌, take}
use Rattle.mp_modes.proofs.presenting.both.Given as goal

abbrev pub invariant-loop-repair : goal.invariant-loop-repair
invariant-loop-repair l = l.made ≡ l.first ++ take l.repair-index l.repair-items
