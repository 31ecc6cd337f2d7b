use Rattle.std.proofs.Common.{◌≡◌, take}
use Rattle.t_matching.specs.Cores.{other_ids}
use Rattle.t_matching.proofs.cores.other_than.Given as goal

abbrev pub invariant-loop-id : goal.invariant-loop-id
invariant-loop-id l = l.made.items ≡ other_ids l.one (take l.id-index l.ids)
