-- Stages one after the other.
use Rattle.std.proofs.Common.{◌≡◌, ℕ, suc, ◌+◌, ◌<◌, ◌≤◌, List, [], ◌∷◌, ◌++◌, length, get_or, drop, Bool, true, false, cond, ◌||◌, ◌&&◌, refl, sym, ◌∙◌, ap, subst, add-one}
use Rattle.std.proofs.lemmas.List.{append_assoc, append-nil, drop_all}
use Rattle.std.proofs.lemmas.List.Folds.{list_all-append}
use Rattle.std.proofs.Math.Seq.{drop-cons}
use Rattle.mp_logic.specs.Keeping.{State}
use Rattle.mp_logic.specs.declared.instances.Repair.{Repair}
use Rattle.mp_store.specs.Held.{Held, labelled_of}
use Rattle.mp_clauses.specs.Slots.{has_empty}
use Rattle.mp_script.specs.declared.scripts.Stage.{Stage}
use Rattle.mp_engine.specs.declared.done.StageEnding.{StageEnding}
use Rattle.mp_engine.specs.declared.done.StageLine.{StageLine}
use Rattle.mp_engine.specs.Stages.{IsRefuted, IsStage, IsNothing, IsStageThen, IsSequence, counts_of}
use Rattle.mp_engine.specs.Runs.{is_done, all_done}
use Rattle.mp_engine.specs.Stores.{RunsStage, RunsStages, IsUnderWay}
use Rattle.mp_engine.proofs.Orders.{moves_on}

pub under_way_start : (stages : List Stage) (old : Held) (lines : List StageLine) → IsUnderWay stages 0 old old lines lines false true
under_way_start stages old lines = record {
  later = [];
  added = [];
  lines_are = sym (append-nil lines);
  repairs_are = sym (append-nil old.repairs);
  inner_is = refl;
  goes_on = λ more t rs h. h;
  done_is = refl;
  moves = refl;
}

stage_first : (inner : ℕ) (stage : Stage) (stages : List Stage) (s u : State) (ending : StageEnding) (first : List Repair) (more : List StageLine) (t : State) (rs : List Repair)
    → has_empty s.hard ≡ false → IsStage inner stage s u first ending → IsSequence inner stages u more t rs
    → IsSequence inner (stage ∷ stages) s (record { letter = stage.letter; ending = ending; counts = counts_of u } ∷ more) t (first ++ rs)
stage_first inner stage stages s u ending first more t rs e h k =
    let then_is : IsStageThen inner stage (IsSequence inner stages) s (record { letter = stage.letter; ending = ending; counts = counts_of u } ∷ more) t (first ++ rs) =
    record { between = u; ending = ending; later = more; first = first; second = rs; stage_is = h; lines_are = refl; repairs_are = refl; then_is = k } in
    subst (λ (b : Bool). cond b (IsNothing s (record { letter = stage.letter; ending = ending; counts = counts_of u } ∷ more) t (first ++ rs)) (IsStageThen inner stage (IsSequence inner stages) s (record { letter = stage.letter; ending = ending; counts = counts_of u } ∷ more) t (first ++ rs)))
    (sym e) then_is

pub under_way_step : (stages : List Stage) (i : ℕ) (old now new : Held) (lines sofar further : List StageLine) (changed done : Bool) (stage : Stage) (ending : StageEnding) (moved : Bool)
    → i < length stages → get_or stages i stage ≡ stage → has_empty (labelled_of now).hard ≡ false
    → RunsStage stage now new ending moved
    → further ≡ sofar ++ record { letter = stage.letter; ending = ending; counts = counts_of (labelled_of new) } ∷ []
    → IsUnderWay stages i old now lines sofar changed done
    → IsUnderWay stages (i + 1) old new lines further (changed || moved) (done && is_done ending)
under_way_step stages i old now new lines sofar further changed done stage ending moved h at e step lines_are u =
    let line : StageLine = record { letter = stage.letter; ending = ending; counts = counts_of (labelled_of new) } in
    let stage_is : IsStage old.inner stage (labelled_of now) (labelled_of new) step.added ending = subst (λ (n : ℕ). IsStage n stage (labelled_of now) (labelled_of new) step.added ending) u.inner_is step.stage_is in
    let here : drop i stages ≡ stage ∷ drop (i + 1) stages = rw add-one (drop-cons stages i stage h ∙ ap (λ (x : Stage). x ∷ drop (suc i) stages) at) in
    record {
      later = u.later ++ line ∷ [];
      added = u.added ++ step.added;
      lines_are = lines_are ∙ ap (λ (x : List StageLine). x ++ line ∷ []) u.lines_are ∙ append_assoc lines u.later (line ∷ []);
      repairs_are = step.repairs_are ∙ ap (λ (x : List Repair). x ++ step.added) u.repairs_are ∙ append_assoc old.repairs u.added step.added;
      inner_is = step.inner_is ∙ u.inner_is;
      goes_on = λ more t rs k.
          let first : IsSequence old.inner (stage ∷ drop (i + 1) stages) (labelled_of now) (line ∷ more) t (step.added ++ rs) = stage_first old.inner stage (drop (i + 1) stages) (labelled_of now) (labelled_of new) ending step.added more t rs e stage_is k in
          let whole : IsSequence old.inner stages (labelled_of old) (u.later ++ line ∷ more) t (u.added ++ (step.added ++ rs)) =
          u.goes_on (line ∷ more) t (step.added ++ rs) (subst (λ (x : List Stage). IsSequence old.inner x (labelled_of now) (line ∷ more) t (step.added ++ rs)) (sym here) first) in
          subst (λ (x : List StageLine). IsSequence old.inner stages (labelled_of old) x t ((u.added ++ step.added) ++ rs)) (sym (append_assoc u.later (line ∷ []) more))
          (subst (λ (x : List Repair). IsSequence old.inner stages (labelled_of old) (u.later ++ line ∷ more) t x) (sym (append_assoc u.added step.added rs)) whole);
      done_is = all_with u.later line done u.done_is;
      moves = moves_on changed moved (labelled_of old) (labelled_of now) (labelled_of new) e u.moves step.moves;
    }
  where
    and_true : (b : Bool) → b ≡ (b && true)
    and_true true = refl
    and_true false = refl

    all_with : (later : List StageLine) (line : StageLine) (done : Bool) → done ≡ all_done later → (done && is_done line.ending) ≡ all_done (later ++ line ∷ [])
    all_with later line done e =
        ap (λ (b : Bool). b && is_done line.ending) e
        ∙ ap (λ (b : Bool). all_done later && b) (and_true (is_done line.ending))
        ∙ sym (list_all-append (λ (l : StageLine). is_done l.ending) later (line ∷ []))

pub nothing_refuted : (inner : ℕ) (stages : List Stage) (s : State) → IsRefuted s → IsSequence inner stages s [] s []
nothing_refuted inner [] s e = record { lines_are = refl; same = refl; repairs_are = refl }
nothing_refuted inner (stage ∷ stages) s e = rw e (record { lines_are = refl; same = refl; repairs_are = refl })

under_way_end : (stages : List Stage) (i : ℕ) (old now : Held) (lines further : List StageLine) (changed done : Bool) → IsSequence old.inner (drop i stages) (labelled_of now) [] (labelled_of now) []
    → IsUnderWay stages i old now lines further changed done → RunsStages stages old now lines further done
under_way_end stages i old now lines further changed done h u =
    let whole : IsSequence old.inner stages (labelled_of old) (u.later ++ []) (labelled_of now) (u.added ++ []) = u.goes_on [] (labelled_of now) [] h in
    record {
      later = u.later;
      added = u.added;
      lines_are = u.lines_are;
      repairs_are = u.repairs_are;
      inner_is = u.inner_is;
      led = (
        subst (λ (x : List StageLine). IsSequence old.inner stages (labelled_of old) x (labelled_of now) u.added) (append-nil u.later)
            (subst (λ (x : List Repair). IsSequence old.inner stages (labelled_of old) (u.later ++ []) (labelled_of now) x) (append-nil u.added) whole),
        u.done_is,
      );
    }

pub under_way_refuted : (stages : List Stage) (i : ℕ) (old now : Held) (lines further : List StageLine) (changed done : Bool) → IsRefuted (labelled_of now)
    → IsUnderWay stages i old now lines further changed done → RunsStages stages old now lines further done
under_way_refuted stages i old now lines further changed done e u = under_way_end stages i old now lines further changed done (nothing_refuted old.inner (drop i stages) (labelled_of now) e) u

pub under_way_all : (stages : List Stage) (i : ℕ) (old now : Held) (lines further : List StageLine) (changed done : Bool) → length stages ≤ i
    → IsUnderWay stages i old now lines further changed done → RunsStages stages old now lines further done
under_way_all stages i old now lines further changed done h u =
    under_way_end stages i old now lines further changed done
    (subst (λ (x : List Stage). IsSequence old.inner x (labelled_of now) [] (labelled_of now) []) (sym (drop_all i stages h)) (record { lines_are = refl; same = refl; repairs_are = refl })) u
