-- Loops, groups, and the run of a script.
use Rattle.std.specs.Prelude.{◌≡◌, ◌⊎◌, ℕ, ◌-◌, Bool, true, false, List, [], ◌∷◌, ◌++◌, Option, Some, None, if◌then◌else◌}
use Rattle.std.specs.List.{list_all}
use Rattle.mp_logic.specs.Keeping.{State}
use Rattle.mp_logic.specs.declared.instances.Repair.{Repair}
use Rattle.mp_store.specs.Held.{labelled_of}
use Rattle.mp_clauses.specs.Slots.{has_empty}
use Rattle.mp_store.specs.Rewriting.{started}
use Rattle.mp_script.specs.declared.scripts.Stage.{Stage}
use Rattle.mp_script.specs.declared.scripts.Rounds.{Rounds}
use Rattle.mp_script.specs.declared.scripts.Rounds.TheVariants.{Once, Settle, At}
use Rattle.mp_script.specs.declared.scripts.Group.{Group}
use Rattle.mp_engine.specs.declared.done.StageEnding.{StageEnding}
use Rattle.mp_engine.specs.declared.done.StageEnding.TheVariants as endings
use Rattle.mp_engine.specs.declared.done.StageLine.{StageLine}
use Rattle.mp_engine.specs.declared.done.Close.{Close}
use Rattle.mp_engine.specs.declared.done.Close.TheVariants.{Settled, Unsettled, Single, Refuted}
use Rattle.mp_engine.specs.declared.done.Done.{Done}
use Rattle.mp_engine.specs.Stages.{IsRefuted, IsNothing, IsSequence}

-- nothing is left for the stage's letter to do
abbrev pub is_done : StageEnding → Bool
is_done endings.Finished = true
is_done endings.Spent = false
is_done endings.NoRoom = false
is_done (endings.Bound n) = true

abbrev pub all_done : List StageLine → Bool
all_done lines = list_all (λ line. is_done line.ending) lines

-- one round less is left
abbrev pub one_less : Option ℕ → Option ℕ
one_less None = None
one_less (Some n) = Some (n - 1)

-- the stages of a loop run once more, from a state that is not refuted
pub record IsRound (inner : ℕ) (stages : List Stage) (s : State) (lines : List StageLine) (t : State) (repairs : List Repair) : Type 0 where
  pub unrefuted : has_empty s.hard ≡ false
  pub sequence : IsSequence inner stages s lines t repairs

-- after a round from s to t no further one runs: nothing changed, or t is refuted, or it was the last that is left
abbrev pub IsLast : Option ℕ → State → State → Type 0
IsLast left s t = (t ≡ s) ⊎ (IsRefuted t ⊎ (left ≡ Some 1))

-- the rounds of a loop, of which so many are left: it settles where the last round changed nothing and left none of its
-- letters anything to do
pub data IsLoop (inner : ℕ) (stages : List Stage) : Option ℕ → State → List StageLine → State → List Repair → Close → Type 0 where
  refuted : {left : Option ℕ} {s : State} → IsRefuted s → IsLoop inner stages left s [] s [] Unsettled
  settles : {left : Option ℕ} {s t : State} {lines : List StageLine} {repairs : List Repair}
      → IsRound inner stages s lines t repairs → t ≡ s → all_done lines ≡ true → IsLoop inner stages left s lines t repairs Settled
  stops : {left : Option ℕ} {s t : State} {lines : List StageLine} {repairs : List Repair}
      → IsRound inner stages s lines t repairs → IsLast left s t → (t ≡ s → all_done lines ≡ false) → IsLoop inner stages left s lines t repairs Unsettled
  goes_on : {left : Option ℕ} {s u t : State} {first second : List StageLine} {before behind : List Repair} {close : Close}
      → IsRound inner stages s first u before → (IsLast left s u → ⊥) → IsLoop inner stages (one_less left) u second t behind close
      → IsLoop inner stages left s (first ++ second) t (before ++ behind) close

-- a group runs as its rounds say
abbrev pub IsGroup : ℕ → List Stage → Rounds → State → List StageLine → State → List Repair → Close → Type 0
IsGroup inner stages Once s lines t repairs close = IsSequence inner stages s lines t repairs × (close ≡ Single)
IsGroup inner stages Settle s lines t repairs close = IsLoop inner stages None s lines t repairs close
IsGroup inner stages (At n) s lines t repairs close = IsLoop inner stages (Some n) s lines t repairs close

-- a group runs, closes, and then what the relation says behind that close
pub record IsGroupThen (inner : ℕ) (group : Group) (Later : Close → State → List StageLine → State → List Repair → Type 0) (s : State) (lines : List StageLine) (t : State) (repairs : List Repair) : Type 0 where
  pub between : State
  pub closed : Close
  pub first : List StageLine
  pub second : List StageLine
  pub before : List Repair
  pub behind : List Repair
  pub group_is : IsGroup inner group.stages group.rounds s first between before closed
  pub lines_are : lines ≡ first ++ second
  pub repairs_are : repairs ≡ before ++ behind
  pub then_is : Later closed between second t behind

-- the groups run one after the other; the close is that of the last of them, and the one before where there is none
abbrev pub IsRun : ℕ → List Group → Close → Close → State → List StageLine → State → List Repair → Type 0
IsRun inner [] close last s lines t repairs = IsNothing s lines t repairs × (last ≡ close)
IsRun inner (group ∷ groups) close last s lines t repairs = IsGroupThen inner group (λ closed. IsRun inner groups closed last) s lines t repairs

-- what a run of the script leaves of a labelled state
pub record IsDone (inner : ℕ) (script : List Group) (s : State) (done : Done) : Type 0 where
  pub last : Close
  pub run : IsRun inner script Single last (labelled_of (started s inner)) done.stages done.labelled done.repairs
  pub close : done.close ≡ (if has_empty done.labelled.hard then Refuted else last)
