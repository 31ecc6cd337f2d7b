use Rattle.t_failed.proofs.LabelLists.{AreListed}
use Rattle.t_failed.proofs.labels.labels.Given as goal

abbrev pub invariant-loop-item : goal.invariant-loop-item
invariant-loop-item l = AreListed l.store.weights l.item l.made.items
