-- Rounds of a loop.
use Rattle.std.proofs.Common.{◌≡◌, ◌≢◌, ℕ, ◌<◌, List, [], ◌++◌, Bool, true, false, Some, refl, sym, ◌∙◌, ap, subst, inl, inr}
use Rattle.std.specs.Prelude.{Option}
use Rattle.std.proofs.lemmas.List.{append_assoc, append-nil}
use Rattle.mp_logic.specs.Keeping.{State}
use Rattle.mp_logic.specs.declared.instances.Repair.{Repair}
use Rattle.mp_store.specs.Held.{Held, labelled_of}
use Rattle.mp_clauses.specs.Slots.{has_empty}
use Rattle.mp_store.specs.Measures.{IsSmaller}
use Rattle.mp_script.specs.declared.scripts.Stage.{Stage}
use Rattle.mp_engine.specs.declared.done.StageLine.{StageLine}
use Rattle.mp_engine.specs.declared.done.Close.{Close}
use Rattle.mp_engine.specs.declared.done.Close.TheVariants.{Settled, Unsettled}
use Rattle.mp_engine.specs.Bounds.{weight_of}
use Rattle.mp_engine.specs.Stages.{IsRefuted, IsSequence}
use Rattle.mp_engine.specs.Runs.{one_less, IsRound, IsLast, IsLoop}
use Rattle.mp_engine.specs.Runs.{refuted as loop_refuted_at, settles as loop_settles_by, stops as loop_stops_by, goes_on as loop_goes_on}
use Rattle.mp_engine.specs.Stores.{Moves, RunsStages, RunsLoop, IsLooping}
use Rattle.mp_engine.proofs.Orders.{smaller_irreflexive, not_both}
use Rattle.mp_engine.proofs.Weights.{weight_falls}

pub looping_start : (stages : List Stage) (limit : Option ℕ) (old : Held) (lines : List StageLine) → has_empty (labelled_of old).hard ≡ false → limit ≢ Some 0 → IsLooping stages limit limit old old lines lines
looping_start stages limit old lines e some = record {
  later = [];
  added = [];
  lines_are = sym (append-nil lines);
  repairs_are = sym (append-nil old.repairs);
  inner_is = refl;
  goes_on = λ more t rs close h. h;
  unrefuted = e;
  some = some;
}

pub loop_refuted : (stages : List Stage) (limit : Option ℕ) (old : Held) (lines : List StageLine) → IsRefuted (labelled_of old) → RunsLoop stages limit old old lines lines Unsettled
loop_refuted stages limit old lines e = record {
  later = [];
  added = [];
  lines_are = sym (append-nil lines);
  repairs_are = sym (append-nil old.repairs);
  inner_is = refl;
  led = loop_refuted_at e;
}

module _ (stages : List Stage) (limit left : Option ℕ) (old now new : Held) (lines sofar further : List StageLine) (done : Bool) where
  -- the round that has run
  round : (u : IsLooping stages limit left old now lines sofar) (r : RunsStages stages now new sofar further done) → IsRound old.inner stages (labelled_of now) r.later (labelled_of new) r.added
  round u r = record {
    unrefuted = u.unrefuted;
    sequence = subst (λ (n : ℕ). IsSequence n stages (labelled_of now) r.later (labelled_of new) r.added) u.inner_is r.led.0;
  }

  -- a round is the last
  ends : (u : IsLooping stages limit left old now lines sofar) (r : RunsStages stages now new sofar further done) (close : Close)
      → IsLoop old.inner stages left (labelled_of now) r.later (labelled_of new) r.added close → RunsLoop stages limit old new lines further close
  ends u r close h = record {
    later = u.later ++ r.later;
    added = u.added ++ r.added;
    lines_are = r.lines_are ∙ ap (λ (x : List StageLine). x ++ r.later) u.lines_are ∙ append_assoc lines u.later r.later;
    repairs_are = r.repairs_are ∙ ap (λ (x : List Repair). x ++ r.added) u.repairs_are ∙ append_assoc old.repairs u.added r.added;
    inner_is = r.inner_is ∙ u.inner_is;
    led = u.goes_on r.later (labelled_of new) r.added close h;
  }

  pub loop_settles : IsLooping stages limit left old now lines sofar → RunsStages stages now new sofar further done → Moves false (labelled_of now) (labelled_of new) → done ≡ true
      → RunsLoop stages limit old new lines further Settled
  loop_settles u r same d = ends u r Settled (loop_settles_by (round u r) same (sym r.led.1 ∙ d))

  pub loop_stays : IsLooping stages limit left old now lines sofar → RunsStages stages now new sofar further done → Moves false (labelled_of now) (labelled_of new) → done ≡ false
      → RunsLoop stages limit old new lines further Unsettled
  loop_stays u r same d = ends u r Unsettled (loop_stops_by (round u r) (inl same) (λ _. sym r.led.1 ∙ d))

  pub loop_refutes : IsLooping stages limit left old now lines sofar → RunsStages stages now new sofar further done → IsRefuted (labelled_of new)
      → RunsLoop stages limit old new lines further Unsettled
  loop_refutes u r e = ends u r Unsettled (loop_stops_by (round u r) (inr (inl e)) (λ same. absurd (not_both (labelled_of now) u.unrefuted (subst (λ (x : State). IsRefuted x) same e))))

  -- a state that is not refuted and to which something changed is smaller
  smaller_of : has_empty (labelled_of new).hard ≡ false → Moves true (labelled_of now) (labelled_of new) → IsSmaller (labelled_of new) (labelled_of now)
  smaller_of e h = elim h [ inl r ↦ absurd (not_both (labelled_of new) e r) | inr p ↦ p.0 ]

  pub loop_enough : IsLooping stages limit left old now lines sofar → RunsStages stages now new sofar further done → has_empty (labelled_of new).hard ≡ false → Moves true (labelled_of now) (labelled_of new)
      → left ≡ Some 1 → RunsLoop stages limit old new lines further Unsettled
  loop_enough u r e h one = ends u r Unsettled (loop_stops_by (round u r) (inr (inr one)) (λ same. absurd (smaller_irreflexive (labelled_of now) (labelled_of new) same (smaller_of e h))))

  pub loop_more : (less : Option ℕ) → IsLooping stages limit left old now lines sofar → RunsStages stages now new sofar further done → has_empty (labelled_of new).hard ≡ false → Moves true (labelled_of now) (labelled_of new)
      → left ≢ Some 1 → less ≡ one_less left → less ≢ Some 0 → IsLooping stages limit less old new lines further
  loop_more less u r e h one is some =
      let further_on : IsLast left (labelled_of now) (labelled_of new) → ⊥ =
      λ l. elim l [
        | inl same ↦ smaller_irreflexive (labelled_of now) (labelled_of new) same (smaller_of e h)
        | inr q ↦ elim q [ inl z ↦ not_both (labelled_of new) e z | inr enough ↦ one enough ]
      ] in
      record {
        later = u.later ++ r.later;
        added = u.added ++ r.added;
        lines_are = r.lines_are ∙ ap (λ (x : List StageLine). x ++ r.later) u.lines_are ∙ append_assoc lines u.later r.later;
        repairs_are = r.repairs_are ∙ ap (λ (x : List Repair). x ++ r.added) u.repairs_are ∙ append_assoc old.repairs u.added r.added;
        inner_is = r.inner_is ∙ u.inner_is;
        goes_on = λ more t rs close k.
            let behind : IsLoop old.inner stages (one_less left) (labelled_of new) more t rs close = subst (λ (x : Option ℕ). IsLoop old.inner stages x (labelled_of new) more t rs close) is k in
            let whole : IsLoop old.inner stages limit (labelled_of old) (u.later ++ (r.later ++ more)) t (u.added ++ (r.added ++ rs)) close =
            u.goes_on (r.later ++ more) t (r.added ++ rs) close (loop_goes_on (round u r) further_on behind) in
            subst (λ (x : List StageLine). IsLoop old.inner stages limit (labelled_of old) x t ((u.added ++ r.added) ++ rs) close) (sym (append_assoc u.later r.later more))
            (subst (λ (x : List Repair). IsLoop old.inner stages limit (labelled_of old) (u.later ++ (r.later ++ more)) t x close) (sym (append_assoc u.added r.added rs)) whole);
        unrefuted = e;
        some = some;
      }

  pub loop_falls : has_empty (labelled_of new).hard ≡ false → Moves true (labelled_of now) (labelled_of new) → weight_of (labelled_of new) < weight_of (labelled_of now)
  loop_falls e h = elim h [ inl r ↦ absurd (not_both (labelled_of new) e r) | inr p ↦ weight_falls (labelled_of now) (labelled_of new) p.1 p.0 ]
