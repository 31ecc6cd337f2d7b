-- How a mode of the program runs and ends. A mode is its inputs in order, and the steps that are right for their texts.
use Rattle.std.specs.Prelude.{◌≡◌, ◌⊎◌, ◌<◌, ◌≤◌, ◌+◌, ℕ, List, [], Option, None, length, nat_lt, take, if◌then◌else◌}
use Rattle.mp_host.specs.World.{World, Rose, last_count}
use Rattle.mp_host.specs.declared.host.Port.TheVariants as ports
use Rattle.mp_engine.specs.declared.done.Done.{Done}
use Rattle.mp_modes.specs.Inputs.{Input, AreRead, Stops, after_inputs}
use Rattle.mp_modes.specs.Outputs.{steps_of}
use Rattle.mp_modes.specs.Refusals.{HasFixedLine, faults_of, line_of, status_of}
use Rattle.mp_modes.specs.declared.outputs.Outputs.{Outputs}
use Rattle.mp_modes.specs.Traces.{Outside, Trace, Step, Sends, begun, stepped, after_steps, AreCutOff, IsLeft}
use Rattle.mp_modes.specs.declared.status.Outcome.{Outcome}
use Rattle.mp_modes.specs.declared.status.Status.{Status}
use Rattle.mp_modes.specs.declared.status.Status.TheVariants as statuses
use Rattle.mp_modes.specs.declared.refusal.Refusal.{Refusal}
use Rattle.mp_modes.specs.declared.refusal.Refusal.TheVariants as refusals

-- the inputs that a mode reads, in order, and which steps are right for their texts, with what a run of a script left, where
-- the mode runs one
pub record Mode : Type 1 where
  pub inputs : List Input
  pub IsRight : List (List ℕ) → Option Done → List Step → Type 0

-- all inputs were read, nothing is wrong with their texts, and the steps are right for them
pub record IsPrepared (mode : Mode) (w : World) (left : Option Done) (steps : List Step) : Type 0 where
  pub texts : List (List ℕ)
  pub read : AreRead w [] mode.inputs texts
  pub right : mode.IsRight texts left steps

-- the trace of a run that read all its inputs
abbrev pub after_reading : Mode → Outside → Trace
after_reading mode old = after_inputs (begun old.world) mode.inputs

-- right steps were done, all of them
pub record IsDone (mode : Mode) (old new : Outside) (outcome : Outcome) : Type 0 where
  pub steps : List Step
  pub prepared : IsPrepared mode old.world outcome.done steps
  pub left : IsLeft (after_steps (after_reading mode old) steps) old new
  pub status : outcome.status ≡ statuses.Ok
  pub seen : outcome.faults_seen ≡ 0

-- right steps were begun, and one failed
pub record IsCutShort (mode : Mode) (old new : Outside) (outcome : Outcome) : Type 0 where
  pub steps : List Step
  pub prepared : IsPrepared mode old.world outcome.done steps
  pub end : Trace
  pub cut : AreCutOff (after_reading mode old) steps end
  pub left : IsLeft end old new
  pub status : outcome.status ≡ statuses.WriteFault
  pub seen : outcome.faults_seen ≡ 1

-- how many writes of a line failed of which so many bytes went out: none where that is all of it, else one
abbrev pub unsaid : List ℕ → ℕ → ℕ
unsaid line count = if nat_lt count (length line) then 1 else 0

-- behind this trace the line of the refusal went out on the log, or a front of it where the write failed
pub record IsSaid (refusal : Refusal) (t : Trace) (old new : Outside) (outcome : Outcome) : Type 0 where
  pub count : ℕ
  pub within : count ≤ length (line_of refusal)
  pub left : IsLeft (stepped t (Sends ports.Log (take count (line_of refusal)))) old new
  pub status : outcome.status ≡ status_of refusal
  pub seen : outcome.faults_seen ≡ faults_of refusal + unsaid (line_of refusal) count
  pub nothing : outcome.done ≡ None

-- an input stopped the run, and its refusal was said
pub record IsTurnedAway (mode : Mode) (old new : Outside) (outcome : Outcome) : Type 0 where
  pub refusal : Refusal
  pub end : Trace
  pub stops : Stops (begun old.world) [] mode.inputs refusal end
  pub said : IsSaid refusal end old new outcome

-- How a mode ends: right steps were done, or cut off, or an input stopped the run.
abbrev pub Ends : Mode → Outside → Outside → Outcome → Type 0
Ends mode old new outcome = IsDone mode old new outcome ⊎ (IsCutShort mode old new outcome ⊎ IsTurnedAway mode old new outcome)

-- a run that asked the host for nothing but to say its refusal
abbrev pub EndsUnread : Refusal → Outside → Outside → Outcome → Type 0
EndsUnread refusal old new outcome = IsSaid refusal (begun old.world) old new outcome

-- The two counts of faults together rose by so much, or one of them stands at its last value. A fault in reading shows on
-- the one, a fault in writing on the other.
pub record IsCounted (old new : Outside) (outcome : Outcome) : Type 0 where
  pub rose : new.read_faults < last_count → new.write_faults < last_count → old.read_faults + old.write_faults + outcome.faults_seen ≤ new.read_faults + new.write_faults
  pub reading : outcome.status ≡ statuses.ReadFault → Rose old.read_faults new.read_faults
  pub writing : outcome.status ≡ statuses.WriteFault → Rose old.write_faults new.write_faults

-- How many host calls answered that they failed, by the status: none where all went well, the one write that did; a fault in
-- reading, and besides, as at each other refusal, one where its line could not be written.
abbrev pub IsSeen : Status → ℕ → Type 0
IsSeen statuses.Ok n = n ≡ 0
IsSeen statuses.WriteFault n = n ≡ 1
IsSeen statuses.ReadFault n = (1 ≤ n) × (n ≤ 2)
IsSeen _ n = n ≤ 1

-- What private functions say. Whatever a run did before: then it did these steps as well.
abbrev pub Does : List Step → Outside → Outside → Type 0
Does steps old new = (t : Trace) (first : Outside) → IsLeft t first old → IsLeft (after_steps t steps) first new

-- then it began these steps, and one failed
abbrev pub DoesPart : List Step → Outside → Outside → Type 0
DoesPart steps old new = (t : Trace) (first : Outside) → IsLeft t first old → (end : Trace) × AreCutOff t steps end × IsLeft end first new

-- then it said the line of this refusal
abbrev pub Says : Refusal → Outside → Outside → Outcome → Type 0
Says refusal old new outcome = (t : Trace) (first : Outside) → IsLeft t first old → IsSaid refusal t first new outcome

-- then it said the line of this refusal, or that of want of memory, where a line takes memory
abbrev pub SaysOrWants : Refusal → Outside → Outside → Outcome → Type 0
SaysOrWants refusal old new outcome = Says refusal old new outcome ⊎ ((HasFixedLine refusal → ⊥) × Says refusals.NoMemory old new outcome)

-- a mode read its inputs and built texts that are right for them
pub record Prepares (mode : Mode) (old new : Outside) (outputs : Outputs) : Type 0 where
  pub prepared : IsPrepared mode old.world outputs.done (steps_of outputs)
  pub left : IsLeft (after_reading mode old) old new

-- an input stopped a mode
pub record StopsReading (mode : Mode) (old new : Outside) (refusal : Refusal) : Type 0 where
  pub end : Trace
  pub stops : Stops (begun old.world) [] mode.inputs refusal end
  pub left : IsLeft end old new
