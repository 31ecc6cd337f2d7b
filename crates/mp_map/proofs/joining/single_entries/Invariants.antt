use Rattle.std.proofs.Common.{◌≡◌, map, take}
use Rattle.mp_map.specs.Entries.{entry_of}
use Rattle.mp_map.proofs.joining.single_entries.Given as goal

abbrev pub invariant-loop-repair : goal.invariant-loop-repair
invariant-loop-repair l = l.made ≡ map entry_of (take l.repair-index l.repairs)
