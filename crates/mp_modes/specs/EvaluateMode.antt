-- The mode `evaluate`.
use Rattle.std.specs.Prelude.{◌≡◌, ℕ, Bool, List, [], ◌∷◌, Option, Some}
use Rattle.mp_logic.specs.Formula.{Formula}
use Rattle.mp_engine.specs.declared.done.Done.{Done}
use Rattle.mp_modes.specs.Evaluating.{Evaluates, IsFalseAt, IsValuesFault, ReportsValues}
use Rattle.mp_modes.specs.Inputs.{Input}
use Rattle.mp_modes.specs.Instances.{IsReadable, IsReadingFault}
use Rattle.mp_modes.specs.Outputs.{IsOneOutput}
use Rattle.mp_modes.specs.Running.{Mode}
use Rattle.mp_modes.specs.Traces.{Step}
use Rattle.mp_modes.specs.declared.refusal.TextRefusal.{TextRefusal}
use Rattle.mp_modes.specs.declared.refusal.TextRefusal.TheVariants as texts

-- why a solution of an instance can't be evaluated: it gives no values, or they make a hard clause false
abbrev pub IsEvaluationFault : Formula → List ℕ → TextRefusal → Type 0
IsEvaluationFault f text (texts.NotModel clause) = (values : List Bool) × ReportsValues text f.vars (Some values) × IsFalseAt f values (texts.NotModel clause)
IsEvaluationFault f text refusal = IsValuesFault f.vars text refusal

-- why it is refused behind the text of its instance
abbrev pub IsEvaluationFaultBehind : List (List ℕ) → List ℕ → TextRefusal → Type 0
IsEvaluationFaultBehind (text ∷ []) solution refusal = (f : Formula) × IsReadable text f × IsEvaluationFault f solution refusal
IsEvaluationFaultBehind _ solution refusal = ⊥

-- it reads an instance
abbrev pub readable_input : List ℕ → Input
readable_input name = record { name = name; Refuses = λ before text refusal. IsReadingFault text refusal }

-- and then a solution with values for its variables, which make its hard clauses true
abbrev pub values_input : List ℕ → Input
values_input name = record { name = name; Refuses = IsEvaluationFaultBehind }

-- it writes what the values cost, and nothing on the log
abbrev pub AreEvaluateSteps : List (List ℕ) → Option Done → List Step → Type 0
AreEvaluateSteps (text ∷ solution ∷ []) run steps = (out : List ℕ) × Evaluates text solution out × IsOneOutput out run steps
AreEvaluateSteps _ run steps = ⊥

-- of the file of an instance, with the name of the solution
abbrev pub evaluate_mode : List ℕ → List ℕ → Mode
evaluate_mode file solution = record { inputs = readable_input file ∷ values_input solution ∷ []; IsRight = AreEvaluateSteps }
