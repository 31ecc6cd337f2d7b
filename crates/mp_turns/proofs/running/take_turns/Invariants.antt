use Rattle.std.proofs.Common.{◌+◌, ◌*◌, length}
use Rattle.mp_store.specs.Held.{labelled_of}
use Rattle.mp_store.specs.Soundness.{IsStore}
use Rattle.mp_turns.specs.Underway.{IsUnderway}
use Rattle.mp_turns.proofs.running.take_turns.Given as goal

abbrev pub invariant-turns : goal.invariant-turns
invariant-turns g l = record {
  underway : IsUnderway g.T.Turn.turning l.fn.budget l.left l.fn.store l.store l.queue l.changed;
  sound : IsStore l.store;
  start : IsStore l.fn.store;
  fits : g.T.Turn.fits l.turn l.store;
}

abbrev pub decreases-turns : goal.decreases-turns
decreases-turns g l = length (g.T.Turn.turning.technique.candidates (labelled_of l.fn.store)) * g.T.Turn.turning.technique.size (labelled_of l.store) + length l.queue
