use Rattle.std.proofs.Common.{◌∙◌, sym, inl, inr}
use Rattle.std.proofs.lemmas.Bool.{true≢false, false≢true}
use Rattle.t_matching.proofs.Partners.{match-weights}
use Rattle.t_matching.proofs.match_partners.do_match_freely.Goals as goal

pub returns-then-weight : goal.returns-then-weight
returns-then-weight c = (λ f. absurd (false≢true f), λ m. absurd (c.if-weight.true (c.weight.ensures ∙ (match-weights c.args.store.now c.args.lit c.args.other m.0 ∙ sym c.requires.weight))))

pub returns-then-is_unused : goal.returns-then-is_unused
returns-then-is_unused c = (λ t. (c.do_match.ensures.0 t, inl (c.is_unused.ensures.0 c.if-is_unused.true)), λ m. c.do_match.ensures.1 m.0)

pub returns-then-not-is_unused : goal.returns-then-not-is_unused
returns-then-not-is_unused c = (
  λ f. absurd (false≢true f),
  λ m. elim m.1 [
    | inl u ↦ absurd (true≢false (sym (c.is_unused.ensures.1 u) ∙ c.if-is_unused.false))
    | inr u ↦ absurd (true≢false (sym (c.is_unused-2.ensures.1 u) ∙ c.if-not-is_unused.true))
  ],
)

pub returns : goal.returns
returns c = (λ t. (c.do_match-2.ensures.0 t, inr (c.is_unused-2.ensures.0 c.if-not-is_unused.false)), λ m. c.do_match-2.ensures.1 m.0)
