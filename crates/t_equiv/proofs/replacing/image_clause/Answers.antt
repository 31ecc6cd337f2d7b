use Rattle.std.proofs.Common.{◌∙◌, sym, arith}
use Rattle.std.proofs.lemmas.Bool.{true≢false}
use Rattle.t_equiv.specs.Images.{image_in}
use Rattle.t_equiv.proofs.ImageClauses.{tautology-opposites, image-clause, whole-made}
use Rattle.t_equiv.proofs.replacing.image_clause.Goals as goal

pub returns-then-is_tautology : goal.returns-then-is_tautology
returns-then-is_tautology c =
    let all = whole-made (image_in c.args.images.now) c.args.clause.now c.loop-lit.made c.loop-lit.lit-index (omega arith) c.loop-lit.invariant in
    tautology-opposites (image_in c.args.images.now) c.args.clause.now c.loop-lit.made c.normalise.new.clause all c.normalise.ensures.same (c.is_tautology.ensures.0 c.if-is_tautology.true)

pub returns : goal.returns
returns c =
    let all = whole-made (image_in c.args.images.now) c.args.clause.now c.loop-lit.made c.loop-lit.lit-index (omega arith) c.loop-lit.invariant in
    image-clause (image_in c.args.images.now) c.args.clause.now c.loop-lit.made c.normalise.new.clause all c.normalise.ensures.same c.normalise.ensures.rising c.requires (λ t. true≢false (sym (c.is_tautology.ensures.1 t) ∙ c.if-is_tautology.false))
