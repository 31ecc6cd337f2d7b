use Rattle.std.proofs.Common.{map}
use Rattle.t_equiv.specs.Images.{AreReplaced}
use Rattle.t_equiv.proofs.images.replaced_variables.Given as goal

abbrev pub invariant-loop-below : goal.invariant-loop-below
invariant-loop-below l = AreReplaced l.below l.images (map (λ pair. pair.1) l.made.items)
