-- How what the words ask for ends. A further mode is a case of `BarsRequest` and of `OfMode`.
use Rattle.std.specs.Prelude.{◌≡◌, ◌⊎◌, ◌≤◌, ℕ, List}
use Rattle.mp_script.specs.Grammar.{IsBadPlace, IsScriptOf}
use Rattle.mp_script.specs.declared.errors.ScriptError.{ScriptError}
use Rattle.mp_script.specs.declared.errors.ScriptError.TheVariants as errors
use Rattle.mp_script.specs.declared.scripts.Group.{Group}
use Rattle.mp_words.specs.Commands.{Request, Preprocess, Reconstruct, Evaluate, Workload, Upgrade, most_tasks}
use Rattle.mp_words.specs.declared.command.CommandError.{CommandError}
use Rattle.mp_words.specs.declared.command.CommandError.TheVariants as faults
use Rattle.mp_modes.specs.EvaluateMode.{evaluate_mode}
use Rattle.mp_modes.specs.PreprocessMode.{preprocess_mode}
use Rattle.mp_modes.specs.ReconstructMode.{reconstruct_mode}
use Rattle.mp_modes.specs.Running.{Mode, Ends, EndsUnread, Prepares, StopsReading}
use Rattle.mp_modes.specs.Traces.{Outside}
use Rattle.mp_modes.specs.UpgradeMode.{upgrade_mode}
use Rattle.mp_modes.specs.WorkloadMode.{workload_mode}
use Rattle.mp_modes.specs.declared.outputs.Outputs.{Outputs}
use Rattle.mp_modes.specs.declared.status.Outcome.{Outcome}
use Rattle.mp_modes.specs.declared.refusal.TextRefusal.TheVariants as texts
use Rattle.mp_modes.specs.declared.refusal.Refusal.{Refusal}
use Rattle.mp_modes.specs.declared.refusal.Refusal.TheVariants as refusals

-- Why techniques can't run: they are no script. Memory may be wanting first.
abbrev pub Bars : List ℕ → Refusal → Type 0
Bars techniques (refusals.Text (texts.Script place)) = IsBadPlace techniques place
Bars techniques refusals.NoMemory = Unit {0}
Bars techniques _ = ⊥

-- why a request is refused before any file is asked for
abbrev pub BarsRequest : Request → Refusal → Type 0
BarsRequest (Preprocess file techniques map form merge version) refusal = Bars techniques refusal
BarsRequest (Reconstruct file map original form) refusal = refusal ≡ refusals.NoMemory
BarsRequest (Evaluate file solution) refusal = refusal ≡ refusals.NoMemory
BarsRequest (Workload tasks techniques) refusal = Bars techniques refusal
BarsRequest (Upgrade file map) refusal = refusal ≡ refusals.NoMemory

-- the techniques are a script of which this holds
pub record IsScripted (techniques : List ℕ) (Holds : List Group → Type 0) : Type 0 where
  pub script : List Group
  pub spelled : IsScriptOf techniques script
  pub holds : Holds script

-- this holds of the mode that the request runs
abbrev pub OfMode : Request → (Mode → Type 0) → Type 0
OfMode (Preprocess file techniques map form merge version) Holds =
    IsScripted techniques (λ script. Holds (preprocess_mode file (record { script = script; merged = merge; version = version; form = form }) map))
OfMode (Reconstruct file map original form) Holds = Holds (reconstruct_mode file map original form)
OfMode (Evaluate file solution) Holds = Holds (evaluate_mode file solution)
OfMode (Workload tasks techniques) Holds = IsScripted techniques (λ script. Holds (workload_mode tasks script))
OfMode (Upgrade file map) Holds = Holds (upgrade_mode file map)

-- How a request ends: it is refused before any file is asked for, or its mode ends as modes do.
abbrev pub Answers : Request → Outside → Outside → Outcome → Type 0
Answers request old new outcome = ((refusal : Refusal) × BarsRequest request refusal × EndsUnread refusal old new outcome) ⊎ OfMode request (λ mode. Ends mode old new outcome)

-- How words end that are no command: the usage line is said, unless memory was wanting to see that.
abbrev pub EndsUnspelled : Outside → Outside → Outcome → Type 0
EndsUnspelled old new outcome = EndsUnread refusals.Usage old new outcome ⊎ EndsUnread refusals.NoMemory old new outcome

-- the refusal for words that were not read
abbrev pub refused_words : CommandError → Refusal
refused_words faults.Usage = refusals.Usage
refused_words faults.NoMemory = refusals.NoMemory

-- the refusal for an answer of the parser
abbrev pub refused_script : ScriptError → Refusal
refused_script (errors.BadScript place) = refusals.Text (texts.Script place)
refused_script errors.NoMemory = refusals.NoMemory

-- a workload is of so many tasks at most
abbrev pub HasFewTasks : Request → Type 0
HasFewTasks (Workload tasks techniques) = tasks ≤ most_tasks
HasFewTasks _ = Unit {0}

-- What private functions say. A request's inputs were read, and texts were built that are right for them.
abbrev pub PreparesRequest : Request → Outside → Outside → Outputs → Type 0
PreparesRequest request old new outputs = OfMode request (λ mode. Prepares mode old new outputs)

-- or it was refused before that, or an input stopped it
abbrev pub StopsRequest : Request → Outside → Outside → Refusal → Type 0
StopsRequest request old new refusal = (BarsRequest request refusal × (new ≡ old)) ⊎ OfMode request (λ mode. StopsReading mode old new refusal)
