-- What an earlier run that has finished tells of a later one, and what a run leaves remembered.
use Rattle.std.proofs.Common.{◌≡◌, ◌⊎◌, ℕ, ◌<◌, ◌≤◌, false, List, [], ◌∷◌, length, refl, subst, arith, inl, inr, Contains}
use Rattle.std.specs.Prelude.{Option}
use Rattle.std.proofs.lemmas.List.Elements.{All-contains}
use Rattle.mp_logic.specs.EndStates.{NoUnits}
use Rattle.mp_clauses.specs.Slots.{clause_of, live_clauses}
use Rattle.mp_store.specs.Held.{Held, labelled_of}
use Rattle.mp_store.specs.Soundness.{IsStore}
use Rattle.mp_store.specs.Techniques.{IsAnswer, IsEnd}
use Rattle.mp_store.specs.declared.ran.Ran.{Ran}
use Rattle.mp_store.specs.declared.ran.Ending.{Ending}
use Rattle.mp_store.specs.declared.ran.Ending.TheVariants.{Finished}
use Rattle.mp_store.proofs.KeptFixing.{live-at}
use Rattle.mp_store.proofs.Runs.{none-empty}
use Rattle.mp_resting.specs.declared.seen.Seen.{Seen}
use Rattle.mp_resting.specs.Resting.{IsBefore, IsSeen, IsRested}
use Rattle.mp_resting.proofs.Rested.{rested-now}
use Rattle.t_units.specs.Units.{unit_propagation, propagating}
use Rattle.t_units.specs.Waiting.{AreWaiting, IsNoUnit}

-- an id of a store without unit clauses has none later
old-no-unit : (before now : Held) (id : ℕ) → IsBefore before now → NoUnits (live_clauses before.slots) → id < length before.slots → IsNoUnit (clause_of now.slots id)
old-no-unit before now id b none low l e =
    let long : 2 ≤ length (l ∷ []) = All-contains (λ c. 2 ≤ length c) (live_clauses before.slots) (l ∷ []) none (live-at before.slots id (l ∷ []) (b.ids id (l ∷ []) low e)) in
    absurd (omega (arith, long))

-- so no unit clause has to wait of the ids that are remembered
pub resumed-fits : (seen : Seen) (now : Held) (waiting : List ℕ) → IsRested propagating.IsIdle seen now → AreWaiting now.slots seen.mark waiting × (seen.mark ≤ length now.slots)
resumed-fits seen now waiting rested =
    elim rested [
      | inl z ↦ (λ id l b e. absurd (omega (arith, b, z)), omega (arith, z))
      | inr w ↦
          let mark = w.1.mark in
          let next = w.1.before_is.next in
          (λ id l b e. absurd (old-no-unit w.0 now id w.1.before_is (w.2 0 refl) (omega (arith, b, mark)) l e), omega (arith, mark, next))
    ]

-- a run that is finished may be remembered
pub finished-rested : (seen : Seen) (budget : Option ℕ) (old new : Held) (ran : Ran) → IsStore new → new.refuted ≡ false → IsAnswer unit_propagation budget old new ran → ran.ending ≡ Finished → IsSeen seen new new → IsRested propagating.IsIdle seen new
finished-rested seen budget old new ran s u answer e own =
    let E : Ending → Type 0 = λ x. IsEnd unit_propagation budget new.inner (labelled_of old) (labelled_of new) x in
    let end : Contains (labelled_of new).hard [] ⊎ NoUnits (labelled_of new).hard = subst E e answer.ending in
    rested-now propagating.IsIdle seen new own (elim end [ inl m ↦ absurd (none-empty new s u m) | inr none ↦ λ i z. none ])
