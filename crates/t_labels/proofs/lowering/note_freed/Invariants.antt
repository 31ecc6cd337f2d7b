use Rattle.std.proofs.Common.{◌≡◌, ◌++◌, drop}
use Rattle.t_labels.specs.Near.{places_freed}
use Rattle.t_labels.proofs.lowering.note_freed.Given as goal

abbrev pub invariant-loop-lit : goal.invariant-loop-lit
invariant-loop-lit l = l.near.items ++ places_freed l.store (drop l.lit-index l.gone) ≡ l.initial.near.items ++ places_freed l.store l.gone
