use Rattle.std.proofs.Common.{◌≡◌, ◌∙◌, ap, false}
use Rattle.std.proofs.lemmas.Result.{IfOk-weaker}
use Rattle.mp_store.specs.Held.{Held}
use Rattle.mp_clauses.specs.Slots.{has_empty}
use Rattle.yardstick.specs.Drawn.{variables_for}
use Rattle.yardstick.proofs.Drawing.{none_empty}
use Rattle.yardstick.proofs.rewriting.drawn_store.Goals as goal

pub returns-clause-unrefuted : goal.returns-clause-unrefuted
returns-clause-unrefuted c =
    let filled : has_empty c.in_ok-drawn_clauses.field-0 ≡ false = none_empty (variables_for c.args.many) c.in_ok-drawn_clauses.field-0 c.in_ok-drawn_clauses.ensures in
    IfOk-weaker c.from_labelled.result _ _ (λ store e. ap (λ (h : Held). h.refuted) e ∙ filled) c.from_labelled.ensures.started
