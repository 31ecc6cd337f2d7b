use Rattle.std.proofs.Common.{◌≡◌, ◌∙◌, sym, subst}
use Rattle.std.proofs.lemmas.Result.{IfOk-weaker}
use Rattle.mp_logic.specs.Keeping.{State}
use Rattle.mp_labels.specs.UnitForm.{IsUnitForm, refuted_form}
use Rattle.mp_labels.proofs.Presented.{IsPresented, IsPresented-units, IsPresented-refuted}
use Rattle.mp_labels.proofs.unit_form.unlabel.Goals as goal

pub returns-then-has_empty : goal.returns-then-has_empty
returns-then-has_empty c =
    let s : State = record { vars = c.labelled.inside.vars; hard = c.labelled.inside.hard; costs = c.labelled.inside.costs; offset = c.labelled.inside.offset } in
    let form : IsPresented c.args.labelled.now (refuted_form s.vars) =
    subst (λ (t : State). IsPresented t (refuted_form s.vars)) c.labelled.view_is (IsPresented-refuted s (sym c.has_empty.ensures ∙ c.if-has_empty.true)) in
    let all = IfOk-weaker c.refuted.result (λ w. w ≡ refuted_form s.vars) (IsPresented c.args.labelled.now) (λ w e. subst (IsPresented c.args.labelled.now) (sym e) form) c.refuted.ensures in
    record {
      form = IfOk-weaker c.refuted.result (IsPresented c.args.labelled.now) _ (λ w p. p.form) all;
      presents = IfOk-weaker c.refuted.result (IsPresented c.args.labelled.now) _ (λ w p. p.presents) all;
      total = IfOk-weaker c.refuted.result (IsPresented c.args.labelled.now) _ (λ w p. p.total) all;
      inner_from = IfOk-weaker c.refuted.result (IsPresented c.args.labelled.now) _ (λ w p. p.inner_from) all;
      inner_to = IfOk-weaker c.refuted.result (IsPresented c.args.labelled.now) _ (λ w p. p.inner_to) all;
      no_units = IfOk-weaker c.refuted.result (IsPresented c.args.labelled.now) _ (λ w p. p.no_units) all;
      all_occur = IfOk-weaker c.refuted.result (IsPresented c.args.labelled.now) _ (λ w p. p.all_occur) all;
      weighed = IfOk-weaker c.refuted.result (IsPresented c.args.labelled.now) _ (λ w p. p.weighed) all;
    }

pub returns-else-has_empty : goal.returns-else-has_empty
returns-else-has_empty c =
    let s : State = record { vars = c.labelled.inside.vars; hard = c.labelled.inside.hard; costs = c.labelled.inside.costs; offset = c.labelled.inside.offset } in
    let all = IfOk-weaker c.renamed.result (IsUnitForm c.args.labelled.now) (IsPresented c.args.labelled.now)
    (λ w u. subst (λ (t : State). IsPresented t w) c.labelled.view_is
    (IsPresented-units s w c.labelled.invariant (sym c.has_empty.ensures ∙ c.if-has_empty.false) (subst (λ (t : State). IsUnitForm t w) (sym c.labelled.view_is) u)))
    c.renamed.ensures in
    record {
      form = IfOk-weaker c.renamed.result (IsPresented c.args.labelled.now) _ (λ w p. p.form) all;
      presents = IfOk-weaker c.renamed.result (IsPresented c.args.labelled.now) _ (λ w p. p.presents) all;
      total = IfOk-weaker c.renamed.result (IsPresented c.args.labelled.now) _ (λ w p. p.total) all;
      inner_from = IfOk-weaker c.renamed.result (IsPresented c.args.labelled.now) _ (λ w p. p.inner_from) all;
      inner_to = IfOk-weaker c.renamed.result (IsPresented c.args.labelled.now) _ (λ w p. p.inner_to) all;
      no_units = IfOk-weaker c.renamed.result (IsPresented c.args.labelled.now) _ (λ w p. p.no_units) all;
      all_occur = IfOk-weaker c.renamed.result (IsPresented c.args.labelled.now) _ (λ w p. p.all_occur) all;
      weighed = IfOk-weaker c.renamed.result (IsPresented c.args.labelled.now) _ (λ w p. p.weighed) all;
    }
