use Rattle.std.proofs.Common.{◌≡◌, ℕ, map, subst, arith}
use Rattle.t_equiv.specs.Images.{AreReplaced}
use Rattle.t_equiv.proofs.Heads.{replaced-moved}
use Rattle.t_equiv.proofs.images.replaced_variables.Goals as goal

pub returns : goal.returns
returns c =
    let all : c.loop-below.below ≡ c.args.vars = omega arith in
    replaced-moved c.args.vars c.args.images.now c.loop-below.made.items c.sort_unstable.new.self.items c.sort_unstable.ensures.permutation (subst (λ n. AreReplaced n c.args.images.now (map (λ (p : ℕ × ℕ). p.1) c.loop-below.made.items)) all c.loop-below.invariant)
