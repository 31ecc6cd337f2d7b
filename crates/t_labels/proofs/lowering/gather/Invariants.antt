use Rattle.std.proofs.Common.{◌≡◌, ◌++◌, drop}
use Rattle.t_labels.specs.Near.{literals_at}
use Rattle.t_labels.proofs.lowering.gather.Given as goal

abbrev pub invariant-loop-id : goal.invariant-loop-id
invariant-loop-id l = l.found ++ literals_at l.store.slots (drop l.id-index l.ids) ≡ l.initial.found ++ literals_at l.store.slots l.ids
