use Rattle.std.proofs.Common.{◌≡◌, drop}
use Rattle.std.specs.List.{list_all}
use Rattle.mp_clauses.specs.Slots.{clause_of}
use Rattle.t_matching.specs.Pairing.{slot_conflicts}
use Rattle.t_matching.proofs.match_partners.each_clashes.Given as goal

abbrev pub invariant-loop-id : goal.invariant-loop-id
invariant-loop-id l = list_all (λ id. slot_conflicts l.store.slots l.others (clause_of l.store.slots id)) (drop l.id-index l.ids) ≡ list_all (λ id. slot_conflicts l.store.slots l.others (clause_of l.store.slots id)) l.ids
