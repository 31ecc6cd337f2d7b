use Rattle.std.proofs.Common.{◌≡◌, ◌++◌, drop}
use Rattle.t_matching.specs.Labels.{places_on}
use Rattle.t_matching.proofs.near.note_clause.Given as goal

abbrev pub invariant-loop-lit : goal.invariant-loop-lit
invariant-loop-lit l = l.near.items ++ places_on l.store.weights (drop l.lit-index l.clause) ≡ l.initial.near.items ++ places_on l.store.weights l.clause
