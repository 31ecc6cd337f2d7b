use Rattle.std.proofs.Common.{length}
use Rattle.mp_store.specs.Soundness.{IsStore}
use Rattle.t_probe.specs.Underway.{IsTrimming}
use Rattle.t_probe.proofs.trimming.trim.Given as goal

abbrev pub invariant-labels : goal.invariant-labels
invariant-labels g l = record {
  trimming : IsTrimming l.fn.store l.store l.changed l.query l.fn.budget l.waiting.items;
  sound : IsStore l.store;
}

abbrev pub decreases-labels : goal.decreases-labels
decreases-labels g l = length l.waiting.items
