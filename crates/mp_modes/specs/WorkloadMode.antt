-- The mode `workload`.
use Rattle.std.specs.Prelude.{◌≡◌, ◌++◌, ℕ, List, [], ◌∷◌, Option, Some}
use Rattle.mp_host.specs.declared.host.Port.TheVariants as ports
use Rattle.mp_logic.specs.Keeping.{State}
use Rattle.mp_script.specs.declared.scripts.Group.{Group}
use Rattle.mp_engine.specs.LogText.{close_text, log_of}
use Rattle.mp_engine.specs.Runs.{IsDone}
use Rattle.mp_engine.specs.Stages.{counts_of}
use Rattle.mp_engine.specs.declared.done.Done.{Done}
use Rattle.mp_labels.specs.LabelView.{label_view}
use Rattle.mp_workload.specs.SummaryText.{summary_of}
use Rattle.mp_workload.specs.Workload.{workload}
use Rattle.mp_workload.specs.declared.summary.Sizes.{Sizes}
use Rattle.mp_workload.specs.declared.summary.Summary.{Summary}
use Rattle.mp_modes.specs.Limits.{program_limits}
use Rattle.mp_modes.specs.Running.{Mode}
use Rattle.mp_modes.specs.Traces.{Step, Sends}

-- hard clauses, their literals, and cost literals
abbrev pub sizes_in : State → Sizes
sizes_in s = record { clauses = (counts_of s).clauses; literals = (counts_of s).literals; costs = (counts_of s).costs }

-- the sizes of the label view of the workload and of what the run left, and the offset then
abbrev pub summary_for : ℕ → Done → Summary
summary_for tasks done = record { tasks = tasks; before = sizes_in (label_view (workload tasks)); after = sizes_in done.labelled; offset = done.labelled.offset }

-- The run is one of the script from the label view of the workload of so many tasks, the output is its summary and the last
-- line of the log, and the log is the text of the run.
pub record Works (tasks : ℕ) (script : List Group) (done : Done) (out log : List ℕ) : Type 0 where
  pub run : IsDone program_limits.inner script (label_view (workload tasks)) done
  pub out_is : out ≡ summary_of (summary_for tasks done) (close_text done.close)
  pub log_is : log ≡ log_of done.stages done.close

-- it reads nothing, and writes the summary and then the log
abbrev pub AreWorkloadSteps : ℕ → List Group → List (List ℕ) → Option Done → List Step → Type 0
AreWorkloadSteps tasks script [] (Some done) steps = (out : List ℕ) × (log : List ℕ) × Works tasks script done out log × (steps ≡ Sends ports.Out out ∷ (Sends ports.Log log ∷ []))
AreWorkloadSteps tasks script _ run steps = ⊥

-- of so many tasks, with a script
abbrev pub workload_mode : ℕ → List Group → Mode
workload_mode tasks script = record { inputs = []; IsRight = AreWorkloadSteps tasks script }
