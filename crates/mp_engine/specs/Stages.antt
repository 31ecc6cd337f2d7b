-- One stage of a run, and stages one after the other.
use Rattle.std.specs.Prelude.{◌≡◌, ◌⊎◌, ℕ, ◌+◌, true, cond, List, [], ◌∷◌, ◌++◌, length, sum_by, Contains, Option, Some, None}
use Rattle.mp_logic.specs.Literal.{Literal}
use Rattle.mp_logic.specs.Learning.{IsLearnt}
use Rattle.mp_logic.specs.Keeping.{State}
use Rattle.mp_logic.specs.declared.instances.Repair.{Repair}
use Rattle.mp_clauses.specs.Slots.{has_empty}
use Rattle.mp_store.specs.Measures.{IsSmaller}
use Rattle.mp_store.specs.Techniques.{Technique, IsStep, IsEnd}
use Rattle.mp_store.specs.declared.ran.Counts.{Counts}
use Rattle.mp_store.specs.declared.ran.Ending.TheVariants as ends
use Rattle.mp_script.specs.declared.scripts.Stage.{Stage}
use Rattle.mp_engine.specs.declared.done.StageEnding.{StageEnding}
use Rattle.mp_engine.specs.declared.done.StageEnding.TheVariants.{Finished, Spent, NoRoom, Bound}
use Rattle.mp_engine.specs.declared.done.StageLine.{StageLine}
use Rattle.t_probe.specs.Hardening.{IsHardened}
use Rattle.mp_engine.specs.Letters.{Kind, turns, asks, hardens, kind_of, leaves_alone}

-- some clause is empty
abbrev pub IsRefuted : State → Type 0
IsRefuted s = has_empty s.hard ≡ true

-- how many clauses a solver may learn for one question: 1,000 where the script gives no number
abbrev pub learning_budget : Option ℕ → ℕ
learning_budget None = 1000
learning_budget (Some b) = b

-- as many clauses as the budget were learnt from the hard clauses
abbrev pub IsExhausted : Option ℕ → State → Type 0
IsExhausted budget t = (learnt : List (List Literal)) × (length learnt ≡ learning_budget budget) × IsLearnt t.hard learnt

-- what an ending of a technique that rewrites by turns says
abbrev pub IsTurnEnding : Technique → Option ℕ → ℕ → State → State → StageEnding → Type 0
IsTurnEnding technique budget inner s t Finished = IsEnd technique budget inner s t ends.Finished
IsTurnEnding technique budget inner s t Spent = IsEnd technique budget inner s t ends.Spent
IsTurnEnding technique budget inner s t NoRoom = IsEnd technique budget inner s t ends.NoRoom
IsTurnEnding technique budget inner s t (Bound n) = ⊥

-- what an ending of a technique that asks a solver says
abbrev pub IsAskEnding : (State → Type 0) → Option ℕ → State → StageEnding → Type 0
IsAskEnding HasEndState budget t Finished = Contains t.hard [] ⊎ HasEndState t
IsAskEnding HasEndState budget t Spent = IsExhausted budget t
IsAskEnding HasEndState budget t NoRoom = ⊥
IsAskEnding HasEndState budget t (Bound n) = ⊥

-- what an ending of hardening says
abbrev pub IsHardenEnding : Option ℕ → State → StageEnding → Type 0
IsHardenEnding budget t Finished = Contains t.hard []
IsHardenEnding budget t Spent = IsExhausted budget t
IsHardenEnding budget t NoRoom = ⊥
IsHardenEnding budget t (Bound n) = (u : ℕ) × (n ≡ t.offset + u) × IsHardened u t

abbrev pub IsEnding : Kind → Option ℕ → ℕ → State → State → StageEnding → Type 0
IsEnding (turns technique) budget inner s t ending = IsTurnEnding technique budget inner s t ending
IsEnding (asks asking) budget inner s t ending = IsAskEnding asking.HasEndState budget t ending
IsEnding (hardens Leaves) budget inner s t ending = IsHardenEnding budget t ending

-- the state is the other one, or refuted, or smaller
abbrev pub IsNoLarger : State → State → Type 0
IsNoLarger t s = (t ≡ s) ⊎ (IsRefuted t ⊎ IsSmaller t s)

-- the stage leads from s to t: it is a step of its letter, t is s or lies below it, and its ending says what it says
pub record IsStage (inner : ℕ) (stage : Stage) (s t : State) (repairs : List Repair) (ending : StageEnding) : Type 0 where
  pub step : IsStep (leaves_alone (kind_of stage.letter)) s t repairs
  pub moves : IsNoLarger t s
  pub ends : IsEnding (kind_of stage.letter) stage.budget inner s t ending

-- live clauses, their literals, and cost literals
abbrev pub counts_of : State → Counts
counts_of s = record { clauses = length s.hard; literals = sum_by length s.hard; costs = length s.costs }

-- nothing runs
pub record IsNothing (s : State) (lines : List StageLine) (t : State) (repairs : List Repair) : Type 0 where
  pub lines_are : lines ≡ []
  pub same : t ≡ s
  pub repairs_are : repairs ≡ []

-- a stage runs, and then what the relation says
pub record IsStageThen (inner : ℕ) (stage : Stage) (Later : State → List StageLine → State → List Repair → Type 0) (s : State) (lines : List StageLine) (t : State) (repairs : List Repair) : Type 0 where
  pub between : State
  pub ending : StageEnding
  pub later : List StageLine
  pub first : List Repair
  pub second : List Repair
  pub stage_is : IsStage inner stage s between first ending
  pub lines_are : lines ≡ record { letter = stage.letter; ending = ending; counts = counts_of between } ∷ later
  pub repairs_are : repairs ≡ first ++ second
  pub then_is : Later between later t second

-- the stages run one after the other, each with its line, and the first that refutes is the last
abbrev pub IsSequence : ℕ → List Stage → State → List StageLine → State → List Repair → Type 0
IsSequence inner [] s lines t repairs = IsNothing s lines t repairs
IsSequence inner (stage ∷ stages) s lines t repairs =
    cond (has_empty s.hard) (IsNothing s lines t repairs) (IsStageThen inner stage (IsSequence inner stages) s lines t repairs)
