use Rattle.std.proofs.Common.{◌≡◌, ◌∷◌, ◌++◌, drop, map}
use Rattle.mp_map.specs.Entries.{entry_of, joined}
use Rattle.mp_map.proofs.joining.joined_entries.Given as goal

abbrev pub invariant-loop-repair : goal.invariant-loop-repair
invariant-loop-repair l = l.made ++ joined (l.last ∷ map entry_of (drop l.repair-index l.others)) ≡ joined (map entry_of l.repairs)
