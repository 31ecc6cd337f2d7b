use Rattle.std.proofs.Common.{◌≡◌, ◌∷◌, ◌++◌, drop}
use Rattle.mp_map.specs.Entries.{joined}
use Rattle.mp_map.proofs.upgrading.joined_neighbours.Given as goal

abbrev pub invariant-loop-entry : goal.invariant-loop-entry
invariant-loop-entry l = l.made ++ joined (l.last ∷ drop l.entry-index l.others) ≡ joined l.entries
