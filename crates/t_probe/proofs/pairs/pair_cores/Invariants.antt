use Rattle.mp_store.specs.Soundness.{IsStore}
use Rattle.t_probe.specs.Underway.{IsPairing}
use Rattle.t_probe.proofs.pairs.pair_cores.Given as goal

abbrev pub invariant-labels : goal.invariant-labels
invariant-labels g l = record {
  pairing : IsPairing l.labels l.place l.fn.store l.store l.changed l.query l.fn.budget l.models.items;
  sound : IsStore l.store;
}
