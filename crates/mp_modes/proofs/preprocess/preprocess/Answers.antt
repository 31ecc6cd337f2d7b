use Rattle.std.proofs.Common.{◌≡◌, ◌∙◌, ◌≤◌, ℕ, Bool, List, [], Contains, length, refl, ap, sym, subst, arith}
use Rattle.std.specs.Prelude.{◌==◌}
use Rattle.mp_clauses.proofs.Found.{any-by}
use Rattle.mp_logic.specs.Literal.{Literal}
use Rattle.mp_logic.specs.Formula.{Formula, IsFormula}
use Rattle.mp_logic.specs.Carrying.{IsLabelView}
use Rattle.mp_logic.specs.Keeping.{State}
use Rattle.mp_logic.specs.Labelled.{IsLabelled}
use Rattle.mp_logic.specs.declared.limits.Limits.{Limits}
use Rattle.mp_labels.specs.LabelView.{label_view}
use Rattle.mp_engine.specs.Runs.{IsDone}
use Rattle.mp_engine.specs.LogText.{log_of}
use Rattle.mp_map.specs.declared.maps.MapFile.{MapFile}
use Rattle.mp_wcnf.specs.Meaning.{Denotes}
use Rattle.mp_wcnf.specs.Writing.{IsTight, instance_text}
use Rattle.mp_modes.specs.EndStates.{Tells}
use Rattle.mp_modes.specs.Instances.{IsReadingFault}
use Rattle.mp_modes.specs.Limits.{program_limits}
use Rattle.mp_modes.specs.Preprocessing.{IsInstanceFault, IsLabelFault, map_file_of}
use Rattle.mp_modes.proofs.Presented.{bounds_reached}
use Rattle.mp_modes.proofs.Refused.{label_fault, reading_fault, want_more}
use Rattle.mp_modes.proofs.preprocess.preprocess.Goals as goal

pub returns-clause-made : goal.returns-clause-made
returns-clause-made c =
    let f = c.in-Ok.instance in
    let p = c.in_ok-presented.presented in
    let w = c.in_ok-presented.ensures.0 in
    let same = c.in_ok-presented.ensures.1 in
    let made = c.in_ok-presented.ensures.2 in
    let ran = c.in_ok-done.done in
    let view : c.in-Ok-label_instance.labelled ≡ label_view f = c.in-Ok-label_instance.ensures.view_is in
    let Ran : State → Type 0 = λ s. IsDone program_limits.inner c.args.script.now s ran in
    let Within : Limits → Type 0 = λ m. IsDone m.inner c.args.script.now c.in-Ok-label_instance.labelled ran in
    let Labels : State → Type 0 = λ s. IsLabelled s.vars s.hard s.costs s.offset in
    let Views : State → Type 0 = λ s. IsLabelView f s in
    let Ok : Formula → Type 0 = λ g. IsFormula g.vars g.hard g.soft in
    let read : c.instance.inside.vars ≡ f.vars = ap (λ (g : Formula). g.vars) c.instance.view_is in
    let run = subst Ran view (subst Within c.limits.ensures c.in_ok-done.ensures.run) in
    let Out : Formula → Type 0 = λ g. c.in_ok-out.out ≡ instance_text c.args.asked.now.form p.map.offset g in
    let Read : Formula → Type 0 = λ g. IsTight g → Denotes c.in_ok-out.out g in
    record {
      original = f;
      written = w;
      way = p.map;
      accepted = record {
        denotes = c.in-Ok.ensures.found.denotes;
        within = c.in-Ok.ensures.found.within;
        inner = c.in-Ok-label_instance.ensures.inner;
      };
      run = run;
      form_is = made.form;
      way_is = made.way_is ∙ ap (λ (n : ℕ). map_file_of c.args.asked.now.version n w ran.labelled ran.repairs) read;
      out_is = subst Out (sym same) c.in_ok-out.ensures.text;
      out_denotes = subst Read (sym same) (λ tight. c.in_ok-out.ensures.denotes (λ h. tight)) made.tight;
      map_is = refl;
      map_valid = made.valid;
      carries = made.carries f c.in-Ok-label_instance.labelled (subst Ok c.instance.view_is c.instance.invariant) (sym read) c.in-Ok-label_instance.ensures.view c.in_ok-done.ensures.keeps;
      log_is = c.in_ok-log.ensures;
      bounds = bounds_reached c.bounds_are_reached.ensures program_limits.inner c.args.script.now f ran (subst Labels view c.in-Ok-label_instance.ensures.labelled) (subst Views view c.in-Ok-label_instance.ensures.view) run;
      told = λ plain unrefuted.
          let none : Contains ran.labelled.hard [] → ⊥ = λ i. unrefuted (any-by (λ (d : List Literal). length d == 0) ran.labelled.hard [] i refl) in
          let a = made.alike plain none in
          let offset : p.map.offset ≡ ran.labelled.offset = ap (λ (m : MapFile). m.offset) made.way_is ∙ a.3 in
          let Log : List ℕ → Type 0 = λ log. Tells c.args.script.now ran.stages ran.close log w.«instance» p.map.offset in
          let Offset : ℕ → Type 0 = λ k. Tells c.args.script.now ran.stages ran.close (log_of ran.stages ran.close) w.«instance» k in
          subst Log (sym c.in_ok-log.ensures) (subst Offset (sym offset) (c.runs_tell.ensures program_limits.inner c.args.script.now (label_view f) ran w.«instance» a.0 run unrefuted a.1 a.2));
    }

pub returns-clause-valid : goal.returns-clause-valid
returns-clause-valid c = c.in_ok-presented.ensures.2.valid

pub returns-in-Err-clause-refused : goal.returns-in-Err-clause-refused
returns-in-Err-clause-refused c = want_more (IsReadingFault c.args.text) (IsInstanceFault c.args.text) c.in-Err.refusal (reading_fault c.args.text) c.in-Err.ensures.refused

pub returns-in-Err-label_instance-clause-refused : goal.returns-in-Err-label_instance-clause-refused
returns-in-Err-label_instance-clause-refused c =
    want_more (IsLabelFault c.in-Ok.instance) (IsInstanceFault c.args.text) c.in-Err-label_instance.refusal (label_fault c.args.text c.in-Ok.instance c.in-Ok.ensures.found) c.in-Err-label_instance.ensures.refused
