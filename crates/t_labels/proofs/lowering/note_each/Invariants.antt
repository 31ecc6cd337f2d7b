use Rattle.std.proofs.Common.{◌≡◌, ◌++◌, drop}
use Rattle.t_labels.specs.Near.{places_in}
use Rattle.t_labels.proofs.lowering.note_each.Given as goal

abbrev pub invariant-loop-lit : goal.invariant-loop-lit
invariant-loop-lit l = l.near.items ++ places_in l.store.weights (drop l.lit-index l.lits) ≡ l.initial.near.items ++ places_in l.store.weights l.lits
