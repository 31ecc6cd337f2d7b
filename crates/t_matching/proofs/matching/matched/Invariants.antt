use Rattle.std.proofs.Common.{◌≡◌, List, ℕ, ◌++◌, drop, Contains}
use Rattle.mp_logic.specs.declared.instances.Cost.{Cost}
use Rattle.mp_store.specs.Held.{labelled_of}
use Rattle.mp_store.specs.Soundness.{IsStore}
use Rattle.t_matching.specs.FreePartners.{AreKnown}
use Rattle.t_matching.specs.LabelPairs.{label_places}
use Rattle.t_matching.specs.Matching.{AreMatching, LeavesOffset}
use Rattle.t_matching.proofs.PairTurns.{ArePairsUnderway}
use Rattle.t_matching.proofs.matching.matched.Given as goal

abbrev pub invariant-loop-item : goal.invariant-loop-item
invariant-loop-item l = record {
  underway : ArePairsUnderway AreMatching LeavesOffset l.fn.budget l.left l.fn.store l.store (drop l.item-index l.item-items) l.changed;
  sound : IsStore l.store;
  costs : (c : Cost) → Contains (labelled_of l.store).costs c → Contains (labelled_of l.fn.store).costs c;
  order : (taken : List ℕ) × (label_places (labelled_of l.fn.store) ≡ taken ++ drop l.item-index l.item-items);
  fits : AreKnown l.free l.store;
}
