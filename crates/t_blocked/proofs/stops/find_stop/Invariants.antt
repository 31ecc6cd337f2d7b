use Rattle.std.proofs.Common.{◌≡◌, drop}
use Rattle.t_blocked.specs.Stopping.{first_stop}
use Rattle.t_blocked.proofs.stops.find_stop.Given as goal

abbrev pub invariant-loop-id : goal.invariant-loop-id
invariant-loop-id l = first_stop l.variable l.hand l.store.slots (drop l.id-index l.ids) ≡ first_stop l.variable l.hand l.store.slots l.ids
