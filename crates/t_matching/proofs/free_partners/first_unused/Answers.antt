use Rattle.std.proofs.Common.{◌∙◌, ◌<◌, sym, subst, length, arith}
use Rattle.std.proofs.lemmas.Bool.{true≢false}
use Rattle.std.proofs.lemmas.Grind.{common_steps}
use Rattle.mp_logic.specs.Literal.{Literal}
use Rattle.mp_clauses.proofs.Steps.{get_or-any}
use Rattle.t_matching.specs.FreePartners.{IsUnusedLabel}
use Rattle.t_matching.proofs.FreeLabels.{rest-more}
use Rattle.t_matching.proofs.free_partners.first_unused.Goals as goal

pub loop-place-preserved : goal.loop-place-preserved
loop-place-preserved c =
    let within : c.loop-place.place < length c.args.labels.now = grind (arith, common_steps) in
    rest-more c.args.store.now c.args.labels.now c.args.start c.loop-place.place c.index-labels-place.result within c.index-labels-place.is (λ u. true≢false (sym (c.is_unused_label.ensures.1 u) ∙ c.if-is_unused_label.false)) c.loop-place.invariant

pub returns-then-is_unused_label-clause-unused : goal.returns-then-is_unused_label-clause-unused
returns-then-is_unused_label-clause-unused c = λ l within. subst (λ (k : Literal). IsUnusedLabel k c.args.store.now) (c.index-labels-place.is ∙ get_or-any c.args.labels.now c.loop-place.place c.index-labels-place.result l within) (c.is_unused_label.ensures.0 c.if-is_unused_label.true)
