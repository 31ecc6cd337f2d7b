use Rattle.std.proofs.Common.{◌≡◌, map, take}
use Rattle.t_equiv.specs.Images.{image_in}
use Rattle.t_equiv.proofs.replacing.image_clause.Given as goal

abbrev pub invariant-loop-lit : goal.invariant-loop-lit
invariant-loop-lit l = l.made ≡ map (image_in l.images) (take l.lit-index l.clause)
