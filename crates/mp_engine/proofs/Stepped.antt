-- What a technique answered, as a stage.
use Rattle.std.proofs.Common.{◌≡◌, ℕ, Bool, true, false, refl, sym, ◌∙◌, ap, subst, inl, inr}
use Rattle.std.specs.Prelude.{Option}
use Rattle.mp_logic.specs.Keeping.{State}
use Rattle.mp_store.specs.Held.{Held, labelled_of}
use Rattle.mp_clauses.specs.Slots.{has_empty}
use Rattle.mp_store.specs.Soundness.{IsStore}
use Rattle.mp_store.specs.Techniques.{Technique, IsRun, IsChange, IsEnd}
use Rattle.mp_store.specs.declared.ran.Ending.{Ending}
use Rattle.mp_store.specs.declared.ran.Ending.TheVariants as ends
use Rattle.mp_script.specs.declared.scripts.Stage.{Stage}
use Rattle.mp_engine.specs.declared.done.StageEnding.{StageEnding}
use Rattle.mp_engine.specs.Bounds.{IsCounted}
use Rattle.mp_engine.specs.Letters.{Kind, turns, asks, hardens, kind_of, leaves_alone}
use Rattle.mp_engine.specs.Stages.{IsRefuted, IsNoLarger, IsTurnEnding, IsEnding}
use Rattle.mp_engine.specs.Stores.{ending_of, HasStepped, Moves, RunsStage}

pub refuted_of : (h : Held) → IsStore h → h.refuted ≡ true → IsRefuted (labelled_of h)
refuted_of h sound e = sym sound.refuted ∙ e

pub unrefuted_of : (h : Held) → IsStore h → h.refuted ≡ false → has_empty (labelled_of h).hard ≡ false
unrefuted_of h sound e = sym sound.refuted ∙ e

turn_ends : (technique : Technique) (budget : Option ℕ) (inner : ℕ) (s t : State) (e : Ending) → IsEnd technique budget inner s t e → IsTurnEnding technique budget inner s t (ending_of e)
turn_ends technique budget inner s t ends.Finished h = h
turn_ends technique budget inner s t ends.Spent h = h
turn_ends technique budget inner s t ends.NoRoom h = h

-- a change moves the state
changes : (changed : Bool) (old new : Held) → IsStore new → IsCounted (labelled_of new) → IsChange changed old new → Moves changed (labelled_of old) (labelled_of new)
changes false old new behind k c = ap labelled_of (c.same refl)
changes true old new behind k c = elim (c.smaller refl) [ inl h ↦ inl (refuted_of new behind h) | inr h ↦ inr (h, k) ]

-- a move says no less than whether something changed
no_larger : (changed : Bool) (s t : State) → Moves changed s t → IsNoLarger t s
no_larger false s t h = inl h
no_larger true s t h = inr (elim h [ inl r ↦ inl r | inr p ↦ inr p.0 ])

-- what holds of a run of a technique of any kind
record IsStepped (kind : Kind) (budget : Option ℕ) (old new : Held) (ending : StageEnding) (changed : Bool) : Type 0 where
  run : IsRun (leaves_alone kind) old new
  change : IsChange changed old new
  ends : IsEnding kind budget new.inner (labelled_of old) (labelled_of new) ending

stepped : (kind : Kind) (budget : Option ℕ) (old new : Held) (ending : StageEnding) (changed : Bool) → HasStepped kind budget old new ending changed → IsStepped kind budget old new ending changed
stepped (turns technique) budget old new ending changed (run, (ran, answer, e, c)) = record {
  run = run;
  change = subst (λ (b : Bool). IsChange b old new) (sym c) answer.change;
  ends = subst (λ (x : StageEnding). IsTurnEnding technique budget new.inner (labelled_of old) (labelled_of new) x) (sym e)
      (turn_ends technique budget new.inner (labelled_of old) (labelled_of new) ran.ending answer.ending);
}
stepped (asks asking) budget old new ending changed (run, change, e) = record { run = run; change = change; ends = e }
stepped (hardens Leaves) budget old new ending changed (run, change, e) = record { run = run; change = change; ends = e }

pub runs_stage : (stage : Stage) (old new : Held) (ending : StageEnding) (changed : Bool) → IsStore new → IsCounted (labelled_of new)
    → HasStepped (kind_of stage.letter) stage.budget old new ending changed → RunsStage stage old new ending changed
runs_stage stage old new ending changed behind k h =
    let p = stepped (kind_of stage.letter) stage.budget old new ending changed h in
    let moves : Moves changed (labelled_of old) (labelled_of new) = changes changed old new behind k p.change in
    record {
      added = p.run.added;
      repairs_are = p.run.repairs;
      inner_is = p.run.inner;
      stage_is = record {
        step = p.run.step;
        moves = no_larger changed (labelled_of old) (labelled_of new) moves;
        ends = subst (λ (n : ℕ). IsEnding (kind_of stage.letter) stage.budget n (labelled_of old) (labelled_of new) ending) p.run.inner p.ends;
      };
      moves = moves;
    }
