use Rattle.std.proofs.Common.{◌≡◌, drop}
use Rattle.t_matching.specs.Pairing.{clashes_each}
use Rattle.t_matching.proofs.match_partners.clashes_with_each.Given as goal

abbrev pub invariant-loop-id : goal.invariant-loop-id
invariant-loop-id l = clashes_each l.store.slots (drop l.id-index l.ids) l.clause ≡ clashes_each l.store.slots l.ids l.clause
