use Rattle.std.proofs.Common.{◌≡◌, map, take}
use Rattle.mp_labels.specs.Tables.{by_number}
use Rattle.mp_labels.proofs.renumbering.renumbered.Given as goal

abbrev pub invariant-loop-clause : goal.invariant-loop-clause
invariant-loop-clause l = l.keyed.items ≡ map (map (by_number l.numbers)) (take l.clause-index l.clause-items)
