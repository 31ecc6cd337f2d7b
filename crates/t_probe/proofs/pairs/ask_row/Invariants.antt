use Rattle.std.proofs.Common.{length}
use Rattle.mp_store.specs.Soundness.{IsStore}
use Rattle.t_probe.specs.Underway.{IsRowUnderway}
use Rattle.t_probe.proofs.pairs.ask_row.Given as goal

abbrev pub invariant-partners : goal.invariant-partners
invariant-partners g l = record {
  row : IsRowUnderway l.lit l.behind l.waiting.items l.fn.store l.store l.changed l.query l.fn.query.budget l.models.items;
  sound : IsStore l.store;
}

abbrev pub decreases-partners : goal.decreases-partners
decreases-partners g l = length l.waiting.items
