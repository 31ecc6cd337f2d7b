use Rattle.std.proofs.Common.{◌≡◌, ◌++◌, take}
use Rattle.t_failed.specs.Partners.{places_beside}
use Rattle.t_failed.proofs.labels.put_others.Given as goal

abbrev pub invariant-loop-lit : goal.invariant-loop-lit
invariant-loop-lit l = l.again ≡ l.initial.again ++ places_beside l.item (take l.lit-index l.lits)
