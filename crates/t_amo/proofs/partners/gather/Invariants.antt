use Rattle.std.proofs.Common.{◌≡◌, ◌++◌, drop}
use Rattle.t_amo.specs.Choosing.{others_at}
use Rattle.t_amo.proofs.partners.gather.Given as goal

abbrev pub invariant-loop-id : goal.invariant-loop-id
invariant-loop-id l = l.found ++ others_at l.store.weights l.lit l.store.slots (drop l.id-index l.ids) ≡ l.initial.found ++ others_at l.store.weights l.lit l.store.slots l.ids
