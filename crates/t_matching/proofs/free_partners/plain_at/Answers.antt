use Rattle.std.proofs.Common.{◌∙◌, sym, subst}
use Rattle.std.proofs.lemmas.Bool.{true≢false}
use Rattle.mp_logic.specs.Literal.{Literal}
use Rattle.mp_logic.specs.SubsumedLabels.{IsPlain}
use Rattle.mp_clauses.specs.Slots.{live_clauses}
use Rattle.t_matching.proofs.free_partners.plain_at.Goals as goal

pub returns-then-not-is_plain : goal.returns-then-not-is_plain
returns-then-not-is_plain c = λ n p. true≢false (sym (c.is_plain.ensures.1 (subst (λ (l : Literal). IsPlain l (live_clauses c.args.store.now.slots)) (sym c.in-Some.ensures.0) p)) ∙ c.if-not-is_plain.true)
