use Rattle.std.proofs.Common.{◌≡◌, ◌++◌, map, drop}
use Rattle.t_equiv.specs.Substituting.{image_repairs}
use Rattle.t_equiv.specs.Images.{image_in}
use Rattle.t_equiv.proofs.replacing.image_repairs.Given as goal

abbrev pub invariant-loop-pair : goal.invariant-loop-pair
invariant-loop-pair l = l.made ++ image_repairs (image_in l.images) (map (λ pair. pair.1) (drop l.pair-index l.pairs)) ≡ image_repairs (image_in l.images) (map (λ pair. pair.1) l.pairs)
