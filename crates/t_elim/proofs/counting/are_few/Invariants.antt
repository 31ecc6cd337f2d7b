use Rattle.std.proofs.Common.{◌≡◌, ◌+◌, ◌*◌, length, drop}
use Rattle.t_elim.specs.Resolving.{resolvents_of}
use Rattle.t_elim.proofs.counting.are_few.Given as goal

abbrev pub invariant-loop-id : goal.invariant-loop-id
invariant-loop-id l =
    (l.ahead ≡ length (drop l.id-index l.held) * length l.others)
    × (l.left + length (resolvents_of l.variable l.store.slots l.held l.others) ≡ length l.held + length l.others + length (resolvents_of l.variable l.store.slots (drop l.id-index l.held) l.others))
