use Rattle.std.proofs.Common.{◌≡◌, ◌++◌, drop}
use Rattle.t_matching.specs.Pairs.{shared_ids}
use Rattle.t_matching.proofs.PairIds.{found_list}
use Rattle.t_matching.proofs.core_partners.lone.Given as goal

abbrev pub invariant-loop-id : goal.invariant-loop-id
invariant-loop-id l = found_list l.found ++ shared_ids l.lit l.store.slots (drop l.id-index l.ids) ≡ shared_ids l.lit l.store.slots l.ids
