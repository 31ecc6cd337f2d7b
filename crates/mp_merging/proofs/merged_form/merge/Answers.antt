use Rattle.std.proofs.Common.{◌∙◌, sym, subst}
use Rattle.std.proofs.lemmas.Result.{IfOk-weaker}
use Rattle.mp_logic.specs.Keeping.{State}
use Rattle.mp_labels.specs.UnitForm.{IsPlainForm}
use Rattle.mp_merging.specs.MergedForm.{IsMergedForm, IsMergingForm}
use Rattle.mp_merging.proofs.Forming.{IsPresented, IsPresented-merged, refuted_from_plain}
use Rattle.mp_merging.proofs.merged_form.merge.Goals as goal

pub returns-then-has_empty-clause-form : goal.returns-then-has_empty-clause-form
returns-then-has_empty-clause-form c =
    let s : State = record { vars = c.labelled.inside.vars; hard = c.labelled.inside.hard; costs = c.labelled.inside.costs; offset = c.labelled.inside.offset } in
    IfOk-weaker c.unlabel.result (IsPlainForm c.args.labelled.now) (IsMergingForm c.args.labelled.now)
    (λ w p. subst (λ (t : State). IsMergingForm t w) c.labelled.view_is (refuted_from_plain s w (sym c.has_empty.ensures ∙ c.if-has_empty.true) (subst (λ (t : State). IsPlainForm t w) (sym c.labelled.view_is) p))) c.unlabel.ensures.form

pub returns-else-has_empty : goal.returns-else-has_empty
returns-else-has_empty c =
    let s : State = record { vars = c.labelled.inside.vars; hard = c.labelled.inside.hard; costs = c.labelled.inside.costs; offset = c.labelled.inside.offset } in
    let all = IfOk-weaker c.merged.result (IsMergedForm c.args.labelled.now) (IsPresented c.args.labelled.now)
    (λ w u. subst (λ (t : State). IsPresented t w) c.labelled.view_is
    (IsPresented-merged s w c.labelled.invariant (sym c.has_empty.ensures ∙ c.if-has_empty.false) (subst (λ (t : State). IsMergedForm t w) (sym c.labelled.view_is) u)))
    c.merged.ensures in
    record {
      form = IfOk-weaker c.merged.result (IsPresented c.args.labelled.now) _ (λ w p. p.form) all;
      presents = IfOk-weaker c.merged.result (IsPresented c.args.labelled.now) _ (λ w p. p.presents) all;
      total = IfOk-weaker c.merged.result (IsPresented c.args.labelled.now) _ (λ w p. p.total) all;
      inner_from = IfOk-weaker c.merged.result (IsPresented c.args.labelled.now) _ (λ w p. p.inner_from) all;
      inner_to = IfOk-weaker c.merged.result (IsPresented c.args.labelled.now) _ (λ w p. p.inner_to) all;
      no_units = IfOk-weaker c.merged.result (IsPresented c.args.labelled.now) _ (λ w p. p.no_units) all;
      all_occur = IfOk-weaker c.merged.result (IsPresented c.args.labelled.now) _ (λ w p. p.all_occur) all;
      weighed = IfOk-weaker c.merged.result (IsPresented c.args.labelled.now) _ (λ w p. p.weighed) all;
    }
