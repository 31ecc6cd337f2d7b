use Rattle.std.proofs.Common.{◌≡◌, ◌++◌, drop}
use Rattle.t_matching.specs.Pairing.{labels_near}
use Rattle.t_matching.proofs.match_partners.labels_beside.Given as goal

abbrev pub invariant-loop-lit : goal.invariant-loop-lit
invariant-loop-lit l = l.found ++ labels_near l.store.weights l.weight l.store.slots (drop l.lit-index l.clause) ≡ labels_near l.store.weights l.weight l.store.slots l.clause
