use Rattle.std.proofs.Common.{◌+◌, ◌*◌, length}
use Rattle.mp_clauses.specs.Slots.{live_clauses}
use Rattle.mp_store.specs.Held.{labelled_of}
use Rattle.mp_store.specs.Measures.{occurring}
use Rattle.mp_store.specs.Soundness.{IsStore}
use Rattle.mp_turns.specs.Underway.{IsUnderway}
use Rattle.t_failed.specs.Failed.{literal_places, probing}
use Rattle.t_failed.specs.Propagating.{IsRoot, AreKnown}
use Rattle.t_failed.specs.Taking.{AreTaken}
use Rattle.t_failed.proofs.failing.take_each.Given as goal

abbrev pub invariant-turns : goal.invariant-turns
invariant-turns l = record {
  underway : IsUnderway probing l.fn.budget l.left l.fn.store l.store l.queue l.changed;
  sound : IsStore l.store;
  start : IsStore l.fn.store;
  root : IsRoot l.store l.tables.root.trail l.tables.root.refuted;
  known : AreKnown (live_clauses l.store.slots) l.tables.known;
  taken : AreTaken l.fn.store l.store l.queue l.taken.items;
}

abbrev pub decreases-turns : goal.decreases-turns
decreases-turns l = length (literal_places (labelled_of l.fn.store)) * occurring l.store.vars (live_clauses l.store.slots) + length l.queue
