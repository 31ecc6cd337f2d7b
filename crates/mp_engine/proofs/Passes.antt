-- Groups one after the other.
use Rattle.std.proofs.Common.{◌≡◌, ℕ, suc, ◌+◌, ◌<◌, ◌≤◌, List, [], ◌∷◌, ◌++◌, length, get_or, drop, Bool, cond, refl, sym, ◌∙◌, ap, subst, add-one}
use Rattle.std.specs.Prelude.{Result, Ok, Err, IfOk}
use Rattle.mp_logic.specs.declared.lists.NoMemory.{NoMemory}
use Rattle.std.proofs.lemmas.List.{append_assoc, append-nil, drop_all}
use Rattle.std.proofs.Math.Seq.{drop-cons}
use Rattle.mp_logic.specs.Keeping.{State}
use Rattle.mp_logic.specs.declared.instances.Repair.{Repair}
use Rattle.mp_store.specs.Held.{Held, labelled_of, IsUntouched}
use Rattle.mp_clauses.specs.Slots.{has_empty}
use Rattle.mp_store.specs.Rewriting.{started}
use Rattle.mp_script.specs.declared.scripts.Stage.{Stage}
use Rattle.mp_script.specs.declared.scripts.Rounds.TheVariants.{Once}
use Rattle.mp_script.specs.declared.scripts.Group.{Group}
use Rattle.mp_engine.specs.declared.done.StageLine.{StageLine}
use Rattle.mp_engine.specs.declared.done.Close.{Close}
use Rattle.mp_engine.specs.declared.done.Close.TheVariants.{Single, Refuted}
use Rattle.mp_engine.specs.declared.done.Done.{Done}
use Rattle.mp_engine.specs.Runs.{IsGroup, IsRun, IsDone}
use Rattle.mp_engine.specs.Stores.{RunsStages, RunsGroup, IsRunning}

pub group_once : (stages : List Stage) (old new : Held) (lines further : List StageLine) (done : Bool) → RunsStages stages old new lines further done → RunsGroup stages Once old new lines further Single
group_once stages old new lines further done r = record {
  later = r.later;
  added = r.added;
  lines_are = r.lines_are;
  repairs_are = r.repairs_are;
  inner_is = r.inner_is;
  led = (r.led.0, refl);
}

pub running_start : (script : List Group) (old now : Held) → IsUntouched old now → IsRunning script 0 old now [] Single
running_start script old now e = record {
  added = [];
  repairs_are = ap (λ (h : Held). h.repairs) e ∙ sym (append-nil old.repairs);
  inner_is = ap (λ (h : Held). h.inner) e;
  goes_on = λ last more t rs h. subst (λ (s : State). IsRun old.inner script Single last s more t rs) (ap labelled_of e) h;
}

pub running_step : (script : List Group) (i : ℕ) (old now new : Held) (sofar further : List StageLine) (close closed : Close) (group : Group) → i < length script → get_or script i group ≡ group
    → RunsGroup group.stages group.rounds now new sofar further closed → IsRunning script i old now sofar close → IsRunning script (i + 1) old new further closed
running_step script i old now new sofar further close closed group h at r u =
    let group_is : IsGroup old.inner group.stages group.rounds (labelled_of now) r.later (labelled_of new) r.added closed =
    subst (λ (n : ℕ). IsGroup n group.stages group.rounds (labelled_of now) r.later (labelled_of new) r.added closed) u.inner_is r.led in
    let here : drop i script ≡ group ∷ drop (i + 1) script = rw add-one (drop-cons script i group h ∙ ap (λ (x : Group). x ∷ drop (suc i) script) at) in
    record {
      added = u.added ++ r.added;
      repairs_are = r.repairs_are ∙ ap (λ (x : List Repair). x ++ r.added) u.repairs_are ∙ append_assoc old.repairs u.added r.added;
      inner_is = r.inner_is ∙ u.inner_is;
      goes_on = λ last more t rs k.
          let first : IsRun old.inner (group ∷ drop (i + 1) script) close last (labelled_of now) (r.later ++ more) t (r.added ++ rs) =
          record { between = labelled_of new; closed = closed; first = r.later; second = more; before = r.added; behind = rs; group_is = group_is; lines_are = refl; repairs_are = refl; then_is = k } in
          let whole : IsRun old.inner script Single last (labelled_of old) (sofar ++ (r.later ++ more)) t (u.added ++ (r.added ++ rs)) =
          u.goes_on last (r.later ++ more) t (r.added ++ rs) (subst (λ (x : List Group). IsRun old.inner x close last (labelled_of now) (r.later ++ more) t (r.added ++ rs)) (sym here) first) in
          subst (λ (x : List StageLine). IsRun old.inner script Single last (labelled_of old) x t ((u.added ++ r.added) ++ rs)) (sym (append_assoc sofar r.later more) ∙ ap (λ (x : List StageLine). x ++ more) (sym r.lines_are))
          (subst (λ (x : List Repair). IsRun old.inner script Single last (labelled_of old) (sofar ++ (r.later ++ more)) t x) (sym (append_assoc u.added r.added rs)) whole);
    }

pub running_end : (script : List Group) (i : ℕ) (s : State) (inner : ℕ) (now : Held) (further : List StageLine) (close : Close) (done : Done) → length script ≤ i
    → done.labelled ≡ labelled_of now → done.repairs ≡ now.repairs → done.stages ≡ further → done.close ≡ (cond (has_empty (labelled_of now).hard) Refuted close)
    → IsRunning script i (started s inner) now further close → IsDone inner script s done
running_end script i s inner now further close done h labelled repairs stages is u =
    let last : IsRun inner (drop i script) close close (labelled_of now) [] (labelled_of now) [] =
    subst (λ (x : List Group). IsRun inner x close close (labelled_of now) [] (labelled_of now) []) (sym (drop_all i script h)) (record { lines_are = refl; same = refl; repairs_are = refl }, refl) in
    let whole : IsRun inner script Single close (labelled_of (started s inner)) (further ++ []) (labelled_of now) (u.added ++ []) = u.goes_on close [] (labelled_of now) [] last in
    record {
      last = close;
      run = subst (λ (x : List StageLine). IsRun inner script Single close (labelled_of (started s inner)) x done.labelled done.repairs) (append-nil further ∙ sym stages)
          (subst (λ (x : State). IsRun inner script Single close (labelled_of (started s inner)) (further ++ []) x done.repairs) (sym labelled)
          (subst (λ (x : List Repair). IsRun inner script Single close (labelled_of (started s inner)) (further ++ []) (labelled_of now) x) (append-nil u.added ∙ sym u.repairs_are ∙ sym repairs) whole));
      close = is ∙ ap (λ (x : State). cond (has_empty x.hard) Refuted close) (sym labelled);
    }

pub run_done : (r : Result Done NoMemory) (script : List Group) (i : ℕ) (s : State) (inner : ℕ) (now : Held) (further : List StageLine) (close : Close) → length script ≤ i
    → IfOk r (λ done. done.labelled ≡ labelled_of now) → IfOk r (λ done. done.repairs ≡ now.repairs) → IfOk r (λ done. done.stages ≡ further)
    → IfOk r (λ done. done.close ≡ (cond (has_empty (labelled_of now).hard) Refuted close))
    → IsRunning script i (started s inner) now further close → IfOk r (λ done. IsDone inner script s done)
run_done (Ok done) script i s inner now further close h labelled repairs stages is u = running_end script i s inner now further close done h labelled repairs stages is u
run_done (Err e) script i s inner now further close h labelled repairs stages is u = tt
