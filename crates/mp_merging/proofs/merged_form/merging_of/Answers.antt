use Rattle.std.proofs.Common.{◌≡◌, ◌∙◌, ℕ, Bool, List, map, filter, replicate, refl, ap, sym, subst}
use Rattle.std.specs.List.{flat_map}
use Rattle.mp_logic.specs.Formula.{Formula}
use Rattle.mp_logic.specs.Keeping.{State}
use Rattle.mp_merging.specs.Tables.{IsMerging, AreMarks, all_housed, is_kept, soft_by, repairs_by}
use Rattle.mp_merging.proofs.Merged.{costs_fit, IsMerging-from, IsFormula-merging}
use Rattle.mp_merging.proofs.merged_form.merging_of.Goals as goal

pub softs_of-requires : goal.softs_of-requires
softs_of-requires c =
    let s : State = record { vars = c.labelled.inside.vars; hard = c.labelled.inside.hard; costs = c.labelled.inside.costs; offset = c.labelled.inside.offset } in
    costs_fit s c.deref.result.now c.in_ok-homes.homes.items c.in_ok-costs.costs.items c.deref-4.result.now c.deref-3.result.now c.labelled.invariant c.in_ok-costs.ensures.moved c.in_ok-homes.ensures c.deref-4.ensures.value c.deref-3.ensures.value

pub repairs_of-requires : goal.repairs_of-requires
repairs_of-requires c =
    let s : State = record { vars = c.labelled.inside.vars; hard = c.labelled.inside.hard; costs = c.labelled.inside.costs; offset = c.labelled.inside.offset } in
    costs_fit s c.deref.result.now c.in_ok-homes.homes.items c.in_ok-costs.costs.items c.deref-6.result.now c.deref-5.result.now c.labelled.invariant c.in_ok-costs.ensures.moved c.in_ok-homes.ensures c.deref-6.ensures.value c.deref-5.ensures.value

pub invariant_of-result : goal.invariant_of-result
invariant_of-result c =
    let s : State = record { vars = c.labelled.inside.vars; hard = c.labelled.inside.hard; costs = c.labelled.inside.costs; offset = c.labelled.inside.offset } in
    let f : Formula = record { vars = s.vars; hard = c.in_ok-hard.hard; soft = c.in_ok-soft.soft } in
    let marks = c.in_ok-marks.marks.items in
    let homes = c.in_ok-homes.homes.items in
    let costs = c.in_ok-costs.costs.items in
    let are = subst (λ (t : State). AreMarks t marks) (sym c.labelled.view_is) c.in_ok-marks.ensures in
    let made : homes ≡ all_housed marks 0 s.hard (replicate s.vars 0) = c.in_ok-homes.ensures ∙ ap (λ (ms : List Bool). all_housed ms 0 s.hard (replicate s.vars 0)) c.deref.ensures.value in
    let hard : f.hard ≡ filter (is_kept marks) s.hard = c.in_ok-hard.ensures ∙ ap (λ (ms : List Bool). filter (is_kept ms) s.hard) c.deref-2.ensures.value in
    let soft : f.soft ≡ map (soft_by homes s.hard) costs = c.in_ok-soft.ensures ∙ (ap (λ (hs : List ℕ). map (soft_by hs s.hard) c.deref-4.result.now) c.deref-3.ensures.value ∙ ap (map (soft_by homes s.hard)) c.deref-4.ensures.value) in
    IsFormula-merging s f (flat_map (repairs_by homes s.hard) costs) c.labelled.invariant (IsMerging-from s marks homes costs f (flat_map (repairs_by homes s.hard) costs) c.labelled.invariant are made c.in_ok-costs.ensures.moved c.in_ok-costs.ensures.in_order hard soft refl refl)

pub returns : goal.returns
returns c =
    let s : State = record { vars = c.labelled.inside.vars; hard = c.labelled.inside.hard; costs = c.labelled.inside.costs; offset = c.labelled.inside.offset } in
    let f : Formula = record { vars = s.vars; hard = c.in_ok-hard.hard; soft = c.in_ok-soft.soft } in
    let marks = c.in_ok-marks.marks.items in
    let homes = c.in_ok-homes.homes.items in
    let costs = c.in_ok-costs.costs.items in
    let are = subst (λ (t : State). AreMarks t marks) (sym c.labelled.view_is) c.in_ok-marks.ensures in
    let made : homes ≡ all_housed marks 0 s.hard (replicate s.vars 0) = c.in_ok-homes.ensures ∙ ap (λ (ms : List Bool). all_housed ms 0 s.hard (replicate s.vars 0)) c.deref.ensures.value in
    let hard : f.hard ≡ filter (is_kept marks) s.hard = c.in_ok-hard.ensures ∙ ap (λ (ms : List Bool). filter (is_kept ms) s.hard) c.deref-2.ensures.value in
    let soft : f.soft ≡ map (soft_by homes s.hard) costs = c.in_ok-soft.ensures ∙ (ap (λ (hs : List ℕ). map (soft_by hs s.hard) c.deref-4.result.now) c.deref-3.ensures.value ∙ ap (map (soft_by homes s.hard)) c.deref-4.ensures.value) in
    let repairs : c.in_ok-repairs.repairs ≡ flat_map (repairs_by homes s.hard) costs =
    c.in_ok-repairs.ensures ∙ (ap (λ (hs : List ℕ). flat_map (repairs_by hs s.hard) c.deref-6.result.now) c.deref-5.ensures.value ∙ ap (flat_map (repairs_by homes s.hard)) c.deref-6.ensures.value) in
    subst (λ (t : State). IsMerging t f c.in_ok-repairs.repairs) c.labelled.view_is
    (IsMerging-from s marks homes costs f c.in_ok-repairs.repairs c.labelled.invariant are made c.in_ok-costs.ensures.moved c.in_ok-costs.ensures.in_order hard soft refl repairs)
