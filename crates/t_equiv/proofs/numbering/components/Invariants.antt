use Rattle.t_equiv.specs.StepsById.{AreStepsOf}
use Rattle.t_equiv.proofs.numbering.components.Given as goal

abbrev pub invariant-loop-id : goal.invariant-loop-id
invariant-loop-id l = AreStepsOf l.fn.store.vars l.fn.store.slots l.id l.from.items l.to.items
