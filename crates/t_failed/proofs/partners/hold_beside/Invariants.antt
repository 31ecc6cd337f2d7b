use Rattle.std.proofs.Common.{take}
use Rattle.t_failed.proofs.Searching.{AreBesides}
use Rattle.t_failed.proofs.partners.hold_beside.Given as goal

abbrev pub invariant-loop-id : goal.invariant-loop-id
invariant-loop-id l = AreBesides l.store.slots l.fn.lit (take l.id-index l.id-items) l.lits.items
