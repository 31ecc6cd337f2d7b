use Rattle.std.proofs.Common.{◌≡◌, ◌&&◌, ◌∙◌, ◌+◌, List, false, ap, sym, subst, drop, arith}
use Rattle.std.specs.Prelude.{nat_lt}
use Rattle.std.proofs.lemmas.Bool.{and_left, and_right, le-ltb}
use Rattle.mp_logic.specs.Normal.{rises}
use Rattle.mp_logic.specs.declared.instances.Soft.{Soft}
use Rattle.mp_labels.specs.declared.draft.Draft.{Draft}
use Rattle.mp_labels.specs.LabelView.{normal_form, payable}
use Rattle.mp_labels.specs.Drafts.{Completes}
use Rattle.mp_labels.proofs.Drafting.{payable_taken, payable_skipped, has_room}
use Rattle.mp_labels.proofs.label_view.drafted.Goals as goal
use Rattle.mp_labels.proofs.label_view.drafted.Goals.{then-soft-gt0+then-is_normal+in_ok-add, else-soft-gt0, else-soft-gt0-via-then-soft-gt0+else-is_normal, else-soft-gt0-via-else-soft-gt0}

pub add-requires : goal.add-requires
add-requires c =
    let soft = c.soft-item.result in
    let ss = c.items-soft-items.result.now in
    let i = c.loop-soft.soft-index in
    let clause = c.put_normal_form.new.made in
    let next = payable_taken ss i soft clause c.loop-soft-test.true c.soft-item.is c.in_ok-put_normal_form.ensures c.if-soft-gt0.true (sym c.is_normal.ensures ∙ c.if-is_normal.true) in
    has_room c.args.instance.now c.loop-soft.draft clause soft.weight (payable (drop (i + 1) ss))
    (subst (λ (ps : List Soft). Completes c.args.instance.now ps c.loop-soft.draft) next c.loop-soft.invariant.complete) c.requires.weights

pub loop-soft-preserved : goal.loop-soft-preserved
loop-soft-preserved c =
    let f = c.args.instance.now in
    let soft = c.soft-item.result in
    let ss = c.items-soft-items.result.now in
    let i = c.loop-soft.soft-index in
    let clause = c.put_normal_form.new.made in
    let normal = c.in_ok-put_normal_form.ensures in
    elim c.if-soft-gt0.branch [
      | then-soft-gt0+then-is_normal+in_ok-add w ↦
          (let next = payable_taken ss i soft clause c.loop-soft-test.true c.soft-item.is normal w.if-soft-gt0.true (sym w.is_normal.ensures ∙ w.if-is_normal.true) in
          let vars = ap (λ (d : Draft). d.vars) w.draft-is in
          let within = w.in_ok-add.ensures.within c.loop-soft.invariant.within in
          record {
            complete = subst (λ (d : Draft). Completes f (payable (drop (i + 1) ss)) d) (sym w.draft-is)
                (w.in_ok-add.ensures.taken f (payable (drop (i + 1) ss)) (subst (λ (ps : List Soft). Completes f ps c.loop-soft.draft) next c.loop-soft.invariant.complete));
            within = omega arith;
          })
      | else-soft-gt0 w ↦
          (let skipped : (nat_lt 0 soft.weight && rises 0 (normal_form soft.clause)) ≡ false =
          elim w.else-soft-gt0.branch [
            | else-soft-gt0-via-then-soft-gt0+else-is_normal v ↦ and_right (nat_lt 0 soft.weight) (rises 0 (normal_form soft.clause)) (ap (rises 0) (sym normal) ∙ (sym v.is_normal.ensures ∙ v.if-is_normal.false))
            | else-soft-gt0-via-else-soft-gt0 v ↦ and_left (nat_lt 0 soft.weight) (rises 0 (normal_form soft.clause)) (le-ltb 0 soft.weight v.if-soft-gt0.false)
          ] in
          let next = payable_skipped ss i soft c.loop-soft-test.true c.soft-item.is skipped in
          let vars = ap (λ (d : Draft). d.vars) w.draft-is in
          let within = c.loop-soft.invariant.within in
          record {
            complete = subst (λ (d : Draft). Completes f (payable (drop (i + 1) ss)) d) (sym w.draft-is)
                (subst (λ (ps : List Soft). Completes f ps c.loop-soft.draft) next c.loop-soft.invariant.complete);
            within = omega arith;
          })
    ]
