-- What the engine's functions leave of a store and of the lines so far.
use Rattle.std.specs.Prelude.{◌≡◌, ◌≢◌, ◌⊎◌, ℕ, ◌+◌, Bool, true, false, List, All, ◌++◌, drop, Option, Some}
use Rattle.mp_logic.specs.Keeping.{State}
use Rattle.mp_logic.specs.declared.instances.Repair.{Repair}
use Rattle.mp_store.specs.Held.{Held, labelled_of}
use Rattle.mp_clauses.specs.Slots.{has_empty}
use Rattle.mp_store.specs.Measures.{IsSmaller}
use Rattle.mp_store.specs.Techniques.{IsRun as IsTechniqueRun, IsChange, IsAnswer}
use Rattle.mp_store.specs.declared.ran.Ran.{Ran}
use Rattle.mp_store.specs.declared.ran.Ending.{Ending}
use Rattle.mp_store.specs.declared.ran.Ending.TheVariants as ends
use Rattle.t_probe.specs.declared.probed.ProbeEnding.{ProbeEnding}
use Rattle.t_probe.specs.declared.probed.ProbeEnding.TheVariants as probes
use Rattle.mp_script.specs.declared.scripts.Stage.{Stage}
use Rattle.mp_script.specs.declared.scripts.Rounds.{Rounds}
use Rattle.mp_script.specs.declared.scripts.Rounds.TheVariants.{Once, Settle, At}
use Rattle.mp_script.specs.declared.scripts.Group.{Group}
use Rattle.mp_engine.specs.declared.done.StageEnding.{StageEnding}
use Rattle.mp_engine.specs.declared.done.StageEnding.TheVariants.{Finished, Spent, NoRoom, Bound}
use Rattle.mp_engine.specs.declared.done.StageLine.{StageLine}
use Rattle.mp_engine.specs.declared.done.Close.{Close}
use Rattle.mp_engine.specs.declared.done.Close.TheVariants.{Single}
use Rattle.mp_engine.specs.Bounds.{IsCounted}
use Rattle.mp_script.specs.Grammar.{IsStageInRange}
use Rattle.mp_engine.specs.Letters.{Kind, turns, asks, hardens}
use Rattle.mp_engine.specs.Stages.{IsRefuted, IsAskEnding, IsHardenEnding, IsStage, IsSequence}
use Rattle.mp_engine.specs.Runs.{IsLoop, IsGroup, IsRun, all_done}

-- how a stage ends whose technique rewrites by turns
abbrev pub ending_of : Ending → StageEnding
ending_of ends.Finished = Finished
ending_of ends.Spent = Spent
ending_of ends.NoRoom = NoRoom

-- how a stage ends whose technique asks a solver; a bound is put on the offset
abbrev pub asked_ending_of : ℕ → ProbeEnding → StageEnding
asked_ending_of offset probes.Finished = Finished
asked_ending_of offset (probes.Spent query learnt) = Spent
asked_ending_of offset (probes.Bound u) = Bound (offset + u)

-- what the call of a letter's technique says
abbrev pub HasStepped : Kind → Option ℕ → Held → Held → StageEnding → Bool → Type 0
HasStepped (turns technique) budget old new ending changed =
    IsTechniqueRun technique.LeavesAlone old new × ((ran : Ran) × IsAnswer technique budget old new ran × (ending ≡ ending_of ran.ending) × (changed ≡ ran.changed))
HasStepped (asks asking) budget old new ending changed =
    IsTechniqueRun asking.LeavesAlone old new × IsChange changed old new × IsAskEnding asking.HasEndState budget (labelled_of new) ending
HasStepped (hardens Leaves) budget old new ending changed =
    IsTechniqueRun Leaves old new × IsChange changed old new × IsHardenEnding budget (labelled_of new) ending

-- whether something changed, and then, where the state isn't refuted, it is smaller, and its counts are of 64 bits
abbrev pub Moves : Bool → State → State → Type 0
Moves false s t = t ≡ s
Moves true s t = IsRefuted t ⊎ (IsSmaller t s × IsCounted t)

-- a stage led from one store to another
pub record RunsStage (stage : Stage) (old new : Held) (ending : StageEnding) (changed : Bool) : Type 0 where
  pub added : List Repair
  pub repairs_are : new.repairs ≡ old.repairs ++ added
  pub inner_is : new.inner ≡ old.inner
  pub stage_is : IsStage old.inner stage (labelled_of old) (labelled_of new) added ending
  pub moves : Moves changed (labelled_of old) (labelled_of new)

-- lines and repairs were put last, of which the relation says what they are
pub record IsLed (Led : List StageLine → List Repair → Type 0) (old new : Held) (lines further : List StageLine) : Type 0 where
  pub later : List StageLine
  pub added : List Repair
  pub lines_are : further ≡ lines ++ later
  pub repairs_are : new.repairs ≡ old.repairs ++ added
  pub inner_is : new.inner ≡ old.inner
  pub led : Led later added

abbrev pub RunsStages : List Stage → Held → Held → List StageLine → List StageLine → Bool → Type 0
RunsStages stages old new lines further done =
    IsLed (λ later added. IsSequence old.inner stages (labelled_of old) later (labelled_of new) added × (done ≡ all_done later)) old new lines further

abbrev pub RunsLoop : List Stage → Option ℕ → Held → Held → List StageLine → List StageLine → Close → Type 0
RunsLoop stages left old new lines further close =
    IsLed (λ later added. IsLoop old.inner stages left (labelled_of old) later (labelled_of new) added close) old new lines further

abbrev pub RunsGroup : List Stage → Rounds → Held → Held → List StageLine → List StageLine → Close → Type 0
RunsGroup stages rounds old new lines further close =
    IsLed (λ later added. IsGroup old.inner stages rounds (labelled_of old) later (labelled_of new) added close) old new lines further

-- the stages before a place have run: what the others do goes on from here
pub record IsUnderWay (stages : List Stage) (place : ℕ) (old now : Held) (lines further : List StageLine) (changed done : Bool) : Type 0 where
  pub later : List StageLine
  pub added : List Repair
  pub lines_are : further ≡ lines ++ later
  pub repairs_are : now.repairs ≡ old.repairs ++ added
  pub inner_is : now.inner ≡ old.inner
  pub goes_on : (more : List StageLine) (t : State) (rs : List Repair) → IsSequence old.inner (drop place stages) (labelled_of now) more t rs → IsSequence old.inner stages (labelled_of old) (later ++ more) t (added ++ rs)
  pub done_is : done ≡ all_done later
  pub moves : Moves changed (labelled_of old) (labelled_of now)

-- some rounds have run: what the others do goes on from here
pub record IsLooping (stages : List Stage) (limit left : Option ℕ) (old now : Held) (lines further : List StageLine) : Type 0 where
  pub later : List StageLine
  pub added : List Repair
  pub lines_are : further ≡ lines ++ later
  pub repairs_are : now.repairs ≡ old.repairs ++ added
  pub inner_is : now.inner ≡ old.inner
  pub goes_on : (more : List StageLine) (t : State) (rs : List Repair) (close : Close) → IsLoop old.inner stages left (labelled_of now) more t rs close → IsLoop old.inner stages limit (labelled_of old) (later ++ more) t (added ++ rs) close
  pub unrefuted : has_empty (labelled_of now).hard ≡ false
  pub some : left ≢ Some 0

-- the groups before a place have run: what the others do goes on from here
pub record IsRunning (script : List Group) (place : ℕ) (old now : Held) (further : List StageLine) (close : Close) : Type 0 where
  pub added : List Repair
  pub repairs_are : now.repairs ≡ old.repairs ++ added
  pub inner_is : now.inner ≡ old.inner
  pub goes_on : (last : Close) (more : List StageLine) (t : State) (rs : List Repair) → IsRun old.inner (drop place script) close last (labelled_of now) more t rs → IsRun old.inner script Single last (labelled_of old) (further ++ more) t (added ++ rs)

-- each budget is in the range of its letter
abbrev pub AreInRange : List Stage → Type 0
AreInRange stages = All IsStageInRange stages

-- a loop with a number of rounds has at least one
abbrev pub HasRounds : Rounds → Type 0
HasRounds Once = Unit {0}
HasRounds Settle = Unit {0}
HasRounds (At n) = n ≢ 0

-- budgets are in their ranges, and loops have rounds
abbrev pub CanRun : List Group → Type 0
CanRun script = All (λ group. AreInRange group.stages × HasRounds group.rounds) script
