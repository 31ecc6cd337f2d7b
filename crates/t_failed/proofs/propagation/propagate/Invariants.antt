use Rattle.std.proofs.Common.{◌-◌, ◌≤◌, length}
use Rattle.mp_clauses.specs.Places.{width}
use Rattle.mp_clauses.specs.Slots.{live_clauses}
use Rattle.t_failed.specs.Propagating.{IsExtended, AreSettled, AreUpTo}
use Rattle.t_failed.proofs.propagation.propagate.Given as goal

abbrev pub invariant-propagate : goal.invariant-propagate
invariant-propagate l = record {
  extended : IsExtended l.store.vars (live_clauses l.store.slots) l.initial.trail l.trail;
  head : l.head ≤ length l.trail;
  within : AreUpTo l.store.vars l.trail;
  settled : AreSettled (live_clauses l.store.slots) l.trail l.head;
}

abbrev pub decreases-propagate : goal.decreases-propagate
decreases-propagate l = width l.store.vars - l.head
