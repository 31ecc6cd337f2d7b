use Rattle.std.proofs.Common.{refl, sym, subst}
use Rattle.mp_logic.specs.Keeping.{State}
use Rattle.mp_logic.specs.Carrying.{WrittenForm}
use Rattle.mp_merging.specs.MergedForm.{IsMergedForm}
use Rattle.mp_merging.specs.Tables.{IsMerging}
use Rattle.mp_merging.proofs.Forming.{IsWrittenForm-merged, IsMergedForm-from}
use Rattle.mp_merging.proofs.merged_form.merged.Goals as goal

pub invariant_of-result : goal.invariant_of-result
invariant_of-result c =
    let s : State = record { vars = c.labelled.inside.vars; hard = c.labelled.inside.hard; costs = c.labelled.inside.costs; offset = c.labelled.inside.offset } in
    let w : WrittenForm = record { «instance» = c.in_ok-form.form.instance; names = c.in_ok-form.form.names; inner = s.vars; offset = s.offset; repairs = c.in_ok-merging.merging.repairs } in
    let merging = subst (λ (t : State). IsMerging t c.in_ok-merging.merging.instance c.in_ok-merging.merging.repairs) (sym c.labelled.view_is) c.in_ok-merging.ensures in
    IsWrittenForm-merged s w c.labelled.invariant (IsMergedForm-from s w c.in_ok-merging.merging.instance merging c.in_ok-form.ensures refl refl)

pub returns : goal.returns
returns c =
    let s : State = record { vars = c.labelled.inside.vars; hard = c.labelled.inside.hard; costs = c.labelled.inside.costs; offset = c.labelled.inside.offset } in
    let w : WrittenForm = record { «instance» = c.in_ok-form.form.instance; names = c.in_ok-form.form.names; inner = s.vars; offset = s.offset; repairs = c.in_ok-merging.merging.repairs } in
    let merging = subst (λ (t : State). IsMerging t c.in_ok-merging.merging.instance c.in_ok-merging.merging.repairs) (sym c.labelled.view_is) c.in_ok-merging.ensures in
    subst (λ (t : State). IsMergedForm t w) c.labelled.view_is (IsMergedForm-from s w c.in_ok-merging.merging.instance merging c.in_ok-form.ensures refl refl)
