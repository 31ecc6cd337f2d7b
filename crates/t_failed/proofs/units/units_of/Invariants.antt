use Rattle.t_failed.proofs.UnitSets.{AreUnitsBelow}
use Rattle.t_failed.proofs.units.units_of.Given as goal

abbrev pub invariant-loop-id : goal.invariant-loop-id
invariant-loop-id l = AreUnitsBelow l.store.slots l.id l.lits.items
