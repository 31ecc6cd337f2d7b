use Rattle.std.proofs.Common.{length}
use Rattle.mp_clauses.specs.Slots.{live_clauses}
use Rattle.t_failed.specs.Propagating.{IsExtended, AreSettledBelow}
use Rattle.t_failed.proofs.root.settle_each.Given as goal

abbrev pub invariant-loop-id : goal.invariant-loop-id
invariant-loop-id l = record {
  extended : IsExtended l.store.vars (live_clauses l.store.slots) l.initial.trail l.trail;
  settled : AreSettledBelow l.store.slots l.id l.trail (length l.initial.trail);
}
