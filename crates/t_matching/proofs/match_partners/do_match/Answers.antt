use Rattle.std.proofs.Common.{◌≡◌, ◌∙◌, sym, ap}
use Rattle.std.proofs.lemmas.Bool.{true≢false, false≢true}
use Rattle.mp_logic.specs.Literal.{Literal}
use Rattle.t_matching.proofs.Partners.{match-by, match-clash, match-weights}
use Rattle.t_matching.proofs.match_partners.do_match.Goals as goal

pub returns-then-other-lit : goal.returns-then-other-lit
returns-then-other-lit c =
    let same : c.args.lit.variable ≡ c.args.other.variable = sym (ap (λ (k : Literal). k.variable) c.lit.view_is) ∙ (sym c.if-other-lit.true ∙ ap (λ (k : Literal). k.variable) c.other.view_is) in
    (λ f. absurd (false≢true f), λ m. absurd (m.names same))

pub returns-then-weight : goal.returns-then-weight
returns-then-weight c = (λ f. absurd (false≢true f), λ m. absurd (c.if-weight.true (c.weight.ensures ∙ (match-weights c.args.store.now c.args.lit c.args.other m ∙ sym c.requires.weight))))

pub returns-then-not-is_plain : goal.returns-then-not-is_plain
returns-then-not-is_plain c = (λ f. absurd (false≢true f), λ m. absurd (true≢false (sym (c.is_plain.ensures.1 m.plain_m) ∙ c.if-not-is_plain.true)))

pub returns : goal.returns
returns c = (
  λ t. match-by c.args.store.now c.args.lit c.args.other c.vars.ensures.sound c.requires.label
      (λ e. c.if-other-lit.false (ap (λ (k : Literal). k.variable) c.other.view_is ∙ (e ∙ sym (ap (λ (k : Literal). k.variable) c.lit.view_is))))
      (sym c.weight.ensures ∙ (c.if-weight.false ∙ c.requires.weight)) c.requires.plain (c.is_plain.ensures.0 c.if-not-is_plain.false) (c.all_clash.ensures.0 t),
  λ m. c.all_clash.ensures.1 (match-clash c.args.store.now c.args.lit c.args.other m),
)
