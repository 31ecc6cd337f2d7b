use Rattle.t_subsume.specs.Filtering.{Tell}
use Rattle.t_subsume.proofs.filter.Filter.of.Given as goal

abbrev pub invariant-loop-id : goal.invariant-loop-id
invariant-loop-id l = Tell l.from l.id l.wide.items l.pairs.items l.store.slots
