use Rattle.std.proofs.Common.{◌≡◌, not, filter, take}
use Rattle.std.specs.Ordering.{is_eq}
use Rattle.mp_logic.specs.Normal.{lit_cmp}
use Rattle.mp_merging.proofs.softs.without.Given as goal

abbrev pub invariant-loop-other : goal.invariant-loop-other
invariant-loop-other l = l.made ≡ filter (λ k. not (is_eq (lit_cmp k l.lit))) (take l.other-index l.other-items)
