use Rattle.mp_store.specs.Rewriting.{started}
use Rattle.mp_engine.specs.Rests.{AreRested}
use Rattle.mp_engine.specs.Stores.{IsRunning}
use Rattle.mp_engine.proofs.running.run_from_labelled.Given as goal

abbrev pub invariant-loop-group : goal.invariant-loop-group
invariant-loop-group g l = record {
  way : IsRunning l.script l.group-index (started l.fn.labelled l.limits.inner) l.store l.lines l.close;
  rested : AreRested l.rests l.store;
}
