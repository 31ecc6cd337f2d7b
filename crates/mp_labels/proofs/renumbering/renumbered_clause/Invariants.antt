use Rattle.std.proofs.Common.{◌≡◌, map, take}
use Rattle.mp_labels.specs.Tables.{by_number}
use Rattle.mp_labels.proofs.renumbering.renumbered_clause.Given as goal

abbrev pub invariant-loop-lit : goal.invariant-loop-lit
invariant-loop-lit l = l.made ≡ map (by_number l.numbers) (take l.lit-index l.lit-items)
