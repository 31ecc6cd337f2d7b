use Rattle.std.proofs.Common.{All, subst, sym, arith}
use Rattle.mp_logic.specs.Formula.{Formula, IsFormula}
use Rattle.mp_logic.specs.Keeping.{State}
use Rattle.mp_logic.specs.Carrying.{IsLabelView}
use Rattle.mp_logic.specs.Labelled.{IsLabelled}
use Rattle.mp_labels.specs.Charges.{HasVariable}
use Rattle.mp_labels.proofs.View.{label_view_shows}
use Rattle.mp_labels.proofs.Settling.{Entries, have_variables}
use Rattle.mp_labels.proofs.ViewConditions.{is_labelled_view}
use Rattle.mp_labels.proofs.Drafting.{premises_of, view_from_calls, cancelled_below}
use Rattle.mp_labels.proofs.label_view.label.Goals as goal

pub net_costs-requires : goal.net_costs-requires
net_costs-requires c =
    let f : Formula = c.args.instance.now in
    let d = c.in_ok-draft.draft in
    let es = c.in_ok-entries.entries.items in
    let h = subst (λ (f : Formula). IsFormula f.vars f.hard f.soft) c.instance.view_is c.instance.invariant in
    let all = have_variables f.vars f.soft d.charges.entries es (premises_of f d es h c.in_ok-draft.ensures.complete c.in_ok-entries.ensures) in
    subst (λ (xs : Entries). All HasVariable xs) (sym c.deref.ensures.value) all

pub cancelled-requires : goal.cancelled-requires
cancelled-requires c =
    let f : Formula = c.args.instance.now in
    let h = subst (λ (f : Formula). IsFormula f.vars f.hard f.soft) c.instance.view_is c.instance.invariant in
    let b = cancelled_below f c.in_ok-draft.draft c.in_ok-entries.entries.items c.deref-2.result.now h c.requires c.in_ok-draft.ensures.complete c.in_ok-entries.ensures c.deref-2.ensures.value in
    omega (arith, b)

pub overflow_add-result : goal.overflow_add-result
overflow_add-result c =
    let f : Formula = c.args.instance.now in
    let h = subst (λ (f : Formula). IsFormula f.vars f.hard f.soft) c.instance.view_is c.instance.invariant in
    let b = cancelled_below f c.in_ok-draft.draft c.in_ok-entries.entries.items c.deref-2.result.now h c.requires c.in_ok-draft.ensures.complete c.in_ok-entries.ensures c.deref-2.ensures.value in
    let low = c.cancelled.ensures in
    omega (arith, b, low)

pub invariant_of-result : goal.invariant_of-result
invariant_of-result c =
    let f : Formula = c.args.instance.now in
    let h = subst (λ (f : Formula). IsFormula f.vars f.hard f.soft) c.instance.view_is c.instance.invariant in
    let view = view_from_calls f c.in_ok-draft.draft c.in_ok-entries.entries.items c.deref.result.now c.deref-2.result.now c.in_ok-costs.costs c.append_costs.new.made c.cancelled.result h
    c.in_ok-draft.ensures.complete c.in_ok-entries.ensures c.deref.ensures.value c.deref-2.ensures.value c.in_ok-costs.ensures c.in_ok-append_costs.ensures c.cancelled.ensures in
    subst (λ (s : State). IsLabelled s.vars s.hard s.costs s.offset) (sym view) (is_labelled_view f h c.requires)

pub returns-clause-view_is : goal.returns-clause-view_is
returns-clause-view_is c =
    let f : Formula = c.args.instance.now in
    let h = subst (λ (f : Formula). IsFormula f.vars f.hard f.soft) c.instance.view_is c.instance.invariant in
    view_from_calls f c.in_ok-draft.draft c.in_ok-entries.entries.items c.deref.result.now c.deref-2.result.now c.in_ok-costs.costs c.append_costs.new.made c.cancelled.result h
    c.in_ok-draft.ensures.complete c.in_ok-entries.ensures c.deref.ensures.value c.deref-2.ensures.value c.in_ok-costs.ensures c.in_ok-append_costs.ensures c.cancelled.ensures

pub returns-clause-keeps : goal.returns-clause-keeps
returns-clause-keeps c =
    let f : Formula = c.args.instance.now in
    let h = subst (λ (f : Formula). IsFormula f.vars f.hard f.soft) c.instance.view_is c.instance.invariant in
    let view = view_from_calls f c.in_ok-draft.draft c.in_ok-entries.entries.items c.deref.result.now c.deref-2.result.now c.in_ok-costs.costs c.append_costs.new.made c.cancelled.result h
    c.in_ok-draft.ensures.complete c.in_ok-entries.ensures c.deref.ensures.value c.deref-2.ensures.value c.in_ok-costs.ensures c.in_ok-append_costs.ensures c.cancelled.ensures in
    subst (λ (s : State). IsLabelView f s) (sym view) (label_view_shows f h)
