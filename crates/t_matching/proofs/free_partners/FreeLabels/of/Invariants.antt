use Rattle.std.proofs.Common.{◌≡◌, ℕ}
use Rattle.t_matching.specs.FreePartners.{HasClasses, class_of}
use Rattle.t_matching.proofs.FreeLabels.{AllNoted}
use Rattle.t_matching.proofs.free_partners.FreeLabels.of.Given as goal

abbrev pub invariant-loop-item : goal.invariant-loop-item
invariant-loop-item l = record {
  numbers : HasClasses l.made;
  noted : AllNoted l.store l.items l.item-index l.made;
  passed : (w : ℕ) → (class_of l.made w).passed ≡ 0;
}
