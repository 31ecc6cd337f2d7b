-- What is remembered after a run.
use Rattle.std.proofs.Common.{◌≡◌, ◌⊎◌, ℕ, [], sym, subst, inl, inr, Contains}
use Rattle.std.specs.Prelude.{Option}
use Rattle.mp_clauses.specs.Slots.{live_clauses}
use Rattle.mp_store.specs.Held.{Held, labelled_of}
use Rattle.mp_store.specs.Techniques.{IsEnd, IsRun, IsAnswer}
use Rattle.mp_store.specs.declared.ran.Ran.{Ran}
use Rattle.mp_store.specs.declared.ran.Ending.TheVariants.{Finished}
use Rattle.mp_turns.specs.Turning.{Turning}
use Rattle.mp_resting.specs.declared.seen.Seen.{Seen}
use Rattle.mp_resting.specs.Resting.{IsSeen, IsRested}
use Rattle.mp_resting.proofs.Rested.{rested-run, rested-now}

-- where the end state makes each number idle
pub rested-after : (t : Turning) (was seen : Seen) (old new : Held) (budget : Option ℕ) (ran : Ran) → (t.technique.HasEndState (labelled_of new) → (i : ℕ) → t.IsIdle new i) → IsRested t.IsIdle was old → IsRun t.technique.LeavesAlone old new → IsAnswer t.technique budget old new ran → (seen ≡ was) ⊎ ((ran.ending ≡ Finished) × (Contains (live_clauses new.slots) [] → ⊥) × IsSeen seen new new) → IsRested t.IsIdle seen new
rested-after t was seen old new budget ran idle r run answer w =
    elim w [
      | inl e ↦ subst (λ (s : Seen). IsRested t.IsIdle s new) (sym e) (rested-run t.IsIdle t.technique.LeavesAlone was old new r run)
      | inr f ↦
          let ended : Contains (live_clauses new.slots) [] ⊎ t.technique.HasEndState (labelled_of new) = subst (IsEnd t.technique budget new.inner (labelled_of old) (labelled_of new)) f.0 answer.ending in
          elim ended [ inl m ↦ absurd (f.1 m) | inr end ↦ rested-now t.IsIdle seen new f.2 (idle end) ]
    ]
