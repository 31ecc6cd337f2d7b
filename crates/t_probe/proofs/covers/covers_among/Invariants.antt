use Rattle.std.proofs.Common.{◌≡◌, drop}
use Rattle.std.specs.List.{list_any}
use Rattle.mp_clauses.specs.Slots.{clause_of}
use Rattle.t_probe.specs.Underway.{slot_within}
use Rattle.t_probe.proofs.covers.covers_among.Given as goal

abbrev pub invariant-loop-id : goal.invariant-loop-id
invariant-loop-id l = list_any (λ id. slot_within l.first l.second (clause_of l.store.slots id)) (drop l.id-index l.ids) ≡ list_any (λ id. slot_within l.first l.second (clause_of l.store.slots id)) l.ids
