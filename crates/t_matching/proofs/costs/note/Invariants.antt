use Rattle.std.proofs.Common.{◌≡◌, ◌++◌, take}
use Rattle.t_matching.specs.Labels.{labels_of}
use Rattle.t_matching.proofs.costs.note.Given as goal

abbrev pub invariant-loop-lit : goal.invariant-loop-lit
invariant-loop-lit l = l.found ≡ l.initial.found ++ labels_of l.store.weights l.weight (take l.lit-index l.clause)
