-- Laws of runs.
use Rattle.std.specs.Prelude.{◌≡◌, ◌≢◌, ◌⊎◌, ℕ, ◌-◌, ◌≤◌, Bool, true, false, map, List, [], ◌∷◌, ◌++◌, Contains, Option, Some, None, MatchOption}
use Rattle.mp_logic.specs.Keeping.{State, IsModel, full_cost, Keeps}
use Rattle.mp_logic.specs.Labelled.{IsLabelled}
use Rattle.mp_logic.specs.declared.instances.Repair.{Repair}
use Rattle.mp_store.specs.Held.{labelled_of}
use Rattle.mp_store.specs.Rewriting.{started}
use Rattle.mp_script.specs.declared.scripts.Letter.{Letter}
use Rattle.mp_script.specs.declared.scripts.Stage.{Stage}
use Rattle.mp_script.specs.declared.scripts.Rounds.TheVariants.{Once, Settle, At}
use Rattle.mp_script.specs.declared.scripts.Group.{Group}
use Rattle.mp_script.specs.Courses.{letters_of, rounds_of, IsCourseOf}
use Rattle.mp_script.specs.Grammar.{IsScriptOf}
use Rattle.mp_engine.specs.Stores.{HasRounds, CanRun}
use Rattle.mp_engine.specs.declared.done.Close.TheVariants.{Settled, Unsettled, Single, Refuted}
use Rattle.mp_engine.specs.declared.done.Done.{Done}
use Rattle.mp_engine.specs.declared.done.StageEnding.{StageEnding}
use Rattle.mp_engine.specs.declared.done.StageEnding.TheVariants as endings
use Rattle.mp_engine.specs.declared.done.StageLine.{StageLine}
use Rattle.mp_engine.specs.Letters.{HasEndState}
use Rattle.mp_engine.specs.Stages.{IsRefuted, IsStage, counts_of}
use Rattle.mp_engine.specs.Runs.{is_done, all_done, IsDone}

-- the law: a run keeps models and costs with its repairs
abbrev pub RunsKeep : Type 0
RunsKeep = (inner : ℕ) (script : List Group) (s : State) (done : Done) → IsLabelled s.vars s.hard s.costs s.offset → IsDone inner script s done → Keeps s done.labelled done.repairs

-- the bound of an ending
abbrev pub bound_of : StageEnding → Option ℕ
bound_of endings.Finished = None
bound_of endings.Spent = None
bound_of endings.NoRoom = None
bound_of (endings.Bound n) = Some n

abbrev pub else_bound : Option ℕ → Option ℕ → Option ℕ
else_bound (Some n) first = Some n
else_bound None first = first

-- the last bound of the lines
abbrev pub last_bound : List StageLine → Option ℕ
last_bound [] = None
last_bound (line ∷ lines) = else_bound (last_bound lines) (bound_of line.ending)

-- the last bound without the offset, 0 where there is none
abbrev pub bound_in : State → Option ℕ → ℕ
bound_in s None = 0
bound_in s (Some n) = n - s.offset

-- the law: where a run settled, every letter of the last loop has its end state in the last state at once
abbrev pub SettledLoopsHaveEndStates : Type 0
SettledLoopsHaveEndStates = (inner : ℕ) (script : List Group) (group : Group) (s : State) (done : Done) → IsDone inner (script ++ group ∷ []) s done → done.close ≡ Settled
    → (stage : Stage) → Contains group.stages stage → HasEndState stage.letter (bound_in done.labelled (last_bound done.stages)) done.labelled

-- the law: a run is refuted exactly where a clause is empty at its end
abbrev pub RefutedIsExact : Type 0
RefutedIsExact = (inner : ℕ) (script : List Group) (s : State) (done : Done) → IsDone inner script s done → (done.close ≡ Refuted → IsRefuted done.labelled) × (IsRefuted done.labelled → done.close ≡ Refuted)

-- the law: a run is single where the script has no group
abbrev pub NoGroupIsSingle : Type 0
NoGroupIsSingle = (inner : ℕ) (s : State) (done : Done) → IsDone inner [] s done → (IsRefuted done.labelled → ⊥) → done.close ≡ Single

-- the law: a run whose script has a last group is single exactly where that one runs once
abbrev pub SingleIsExact : Type 0
SingleIsExact = (inner : ℕ) (script : List Group) (group : Group) (s : State) (done : Done) → IsDone inner (script ++ group ∷ []) s done → (IsRefuted done.labelled → ⊥)
    → (done.close ≡ Single → group.rounds ≡ Once) × (group.rounds ≡ Once → done.close ≡ Single)

-- each of the stages ran at the one state and left it as it was
abbrev pub IsStanding : ℕ → List Stage → State → List StageLine → Type 0
IsStanding inner [] s lines = lines ≡ []
IsStanding inner (stage ∷ stages) s lines = (ending : StageEnding) × (later : List StageLine) × (rs : List Repair) × IsStage inner stage s s rs ending
    × (lines ≡ record { letter = stage.letter; ending = ending; counts = counts_of s } ∷ later) × IsStanding inner stages s later

-- the last lines are those of a round that left the state as it was
pub record EndsStanding (inner : ℕ) (stages : List Stage) (s : State) (lines : List StageLine) (done : Bool) : Type 0 where
  pub before : List StageLine
  pub round : List StageLine
  pub lines_are : lines ≡ before ++ round
  pub standing : IsStanding inner stages s round
  pub done_is : all_done round ≡ done

-- the law: where a run settled, its last round left the state as it was, and nothing to do
abbrev pub SettledIsStanding : Type 0
SettledIsStanding = (inner : ℕ) (script : List Group) (group : Group) (s : State) (done : Done) → IsDone inner (script ++ group ∷ []) s done → done.close ≡ Settled
    → EndsStanding inner group.stages done.labelled done.stages true

-- the law: where a run whose last loop has no number of rounds did not settle, its last round left the state as it was, but
-- some stage of it had something left to do; its ending has its cause in that state
abbrev pub UnsettledIsStanding : Type 0
UnsettledIsStanding = (inner : ℕ) (script : List Group) (stages : List Stage) (s : State) (done : Done) → IsDone inner (script ++ record { stages = stages; rounds = Settle } ∷ []) s done → done.close ≡ Unsettled
    → EndsStanding inner stages done.labelled done.stages false

-- the law: where a run whose last loop has a number of rounds did not settle, its last lines are so many whole rounds, or its
-- last round left the state as it was and something to do
abbrev pub UnsettledAfterRounds : Type 0
UnsettledAfterRounds = (inner : ℕ) (script : List Group) (stages : List Stage) (n : ℕ) (s : State) (done : Done) → n ≢ 0 → IsDone inner (script ++ record { stages = stages; rounds = At n } ∷ []) s done → done.close ≡ Unsettled
    → EndsStanding inner stages done.labelled done.stages false
    ⊎ ((before : List StageLine) × (rounds : List StageLine) × (done.stages ≡ before ++ rounds) × (map (λ line. line.letter) rounds ≡ rounds_of n (letters_of stages)))

-- a stage of the script gave the line, and led to this state
pub record IsLineAt (inner : ℕ) (script : List Group) (line : StageLine) (t : State) : Type 0 where
  pub group : Group
  pub stage : Stage
  pub own : Contains script group
  pub within : Contains group.stages stage
  pub start : State
  pub repairs : List Repair
  pub stage_is : IsStage inner stage start t repairs line.ending
  pub line_is : line ≡ record { letter = stage.letter; ending = line.ending; counts = counts_of t }

-- the law: each line is that of a stage of the script, whose ending has its cause
abbrev pub LinesHaveStages : Type 0
LinesHaveStages = (inner : ℕ) (script : List Group) (s : State) (done : Done) → IsDone inner script s done → (line : StageLine) → Contains done.stages line → (t : State) × IsLineAt inner script line t

abbrev pub else_line : Option StageLine → StageLine → Option StageLine
else_line (Some later) line = Some later
else_line None line = Some line

-- the last line, where there is one
abbrev pub last_line : List StageLine → Option StageLine
last_line [] = None
last_line (line ∷ lines) = else_line (last_line lines) line

-- the law: the last line led to the last state, and where there is none that is the first one
abbrev pub LastLineIsLast : Type 0
LastLineIsLast = (inner : ℕ) (script : List Group) (s : State) (done : Done) → IsDone inner script s done
    → MatchOption (last_line done.stages) (done.labelled ≡ labelled_of (started s inner)) (λ line. IsLineAt inner script line done.labelled)

-- the law: where a run that isn't refuted ends with a line that leaves nothing to do, its letter has its end state in the last state
abbrev pub LastLetterHasEndState : Type 0
LastLetterHasEndState = (inner : ℕ) (script : List Group) (s : State) (done : Done) → IsDone inner script s done → (IsRefuted done.labelled → ⊥)
    → (line : StageLine) → last_line done.stages ≡ Some line → is_done line.ending ≡ true → HasEndState line.letter (bound_in done.labelled (bound_of line.ending)) done.labelled

-- the law: each bound is reached by a model of the state that the run began with
abbrev pub BoundsAreReached : Type 0
BoundsAreReached = (inner : ℕ) (script : List Group) (s : State) (done : Done) → IsLabelled s.vars s.hard s.costs s.offset → IsDone inner script s done
    → (line : StageLine) → Contains done.stages line → (n : ℕ) → line.ending ≡ endings.Bound n → (a : List Bool) × IsModel s a × (full_cost s a ≤ n)

-- the law: the letters of the stages that ran are a course of the script, cut short only where the run is refuted
abbrev pub RunsAreCourses : Type 0
RunsAreCourses = (inner : ℕ) (script : List Group) (s : State) (done : Done) → ((group : Group) → Contains script group → HasRounds group.rounds) → IsDone inner script s done
    → (rest : List Letter) × IsCourseOf script (map (λ line. line.letter) done.stages ++ rest) × ((IsRefuted done.labelled → ⊥) → rest ≡ [])

-- the law: a script that a text gives can run
abbrev pub ScriptsCanRun : Type 0
ScriptsCanRun = (text : List ℕ) (script : List Group) → IsScriptOf text script → CanRun script
