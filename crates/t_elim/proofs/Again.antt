-- What is remembered between runs of variable elimination.
use Rattle.std.proofs.Common.{◌≡◌, ◌≢◌, ◌⊎◌, ℕ, false, inl, inr, subst, Contains, []}
use Rattle.std.specs.Prelude.{Option}
use Rattle.mp_store.specs.Held.{Held, labelled_of}
use Rattle.mp_store.specs.Soundness.{IsStore}
use Rattle.mp_store.specs.Techniques.{IsAnswer, IsEnd}
use Rattle.mp_store.specs.declared.ran.Ran.{Ran}
use Rattle.mp_store.specs.declared.ran.Ending.{Ending}
use Rattle.mp_store.specs.declared.ran.Ending.TheVariants.{Finished}
use Rattle.mp_store.proofs.Runs.{none-empty}
use Rattle.mp_resting.specs.declared.seen.Seen.{Seen}
use Rattle.mp_resting.specs.Resting.{IsSeen, IsRested}
use Rattle.mp_resting.proofs.Rested.{rested-now}
use Rattle.t_elim.specs.Eliminating.{positive, negative_of, IsIdleVariable, NoEliminable, variable_elimination, eliminating}
use Rattle.t_elim.specs.Stayed.{HasStayed}
use Rattle.t_elim.proofs.Stayed.{stayed-idle}

-- in the end state each candidate is idle
pub ended-idle : (h : Held) → NoEliminable (labelled_of h) → (v : ℕ) → eliminating.IsIdle h v
ended-idle h e v a b = e v

-- a run that is finished may be remembered
pub rested-finished : (seen : Seen) (budget : Option ℕ) (old new : Held) (ran : Ran) → IsStore new → new.refuted ≡ false → IsAnswer variable_elimination budget old new ran → ran.ending ≡ Finished → IsSeen seen new new → IsRested eliminating.IsIdle seen new
rested-finished seen budget old new ran s u answer e seen_is =
    let E : Ending → Type 0 = λ x. IsEnd variable_elimination budget new.inner (labelled_of old) (labelled_of new) x in
    let end : Contains (labelled_of new).hard [] ⊎ NoEliminable (labelled_of new) = subst E e answer.ending in
    rested-now eliminating.IsIdle seen new seen_is (elim end [ inl m ↦ absurd (none-empty new s u m) | inr n ↦ ended-idle new n ])

-- what is remembered tells that a variable is idle
pub rested-idle : (seen : Seen) (now : Held) (v : ℕ) → IsRested eliminating.IsIdle seen now → seen.mark ≢ 0 → ((before : Held) → IsSeen seen before now → HasStayed (positive v) before now × HasStayed (negative_of v) before now) → IsIdleVariable (labelled_of now) v
rested-idle seen now v rested some stayed =
    elim rested [
      | inl z ↦ absurd (some z)
      | inr w ↦ let both = stayed w.0 w.1 in stayed-idle v w.0 now both.0 both.1 (w.2 v)
    ]
