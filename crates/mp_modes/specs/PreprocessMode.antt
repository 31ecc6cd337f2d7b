-- The mode `preprocess`.
use Rattle.std.specs.Prelude.{◌≡◌, ◌++◌, ℕ, List, [], ◌∷◌, Option, Some, None}
use Rattle.mp_host.specs.declared.host.Port.TheVariants as ports
use Rattle.mp_logic.specs.Formula.{Formula}
use Rattle.mp_logic.specs.Optimum.{SameOptimum}
use Rattle.mp_engine.specs.declared.done.Done.{Done}
use Rattle.mp_wcnf.specs.Meaning.{Denotes}
use Rattle.mp_wcnf.specs.Writing.{instance_text}
use Rattle.mp_modes.specs.Inputs.{Input}
use Rattle.mp_modes.specs.Preprocessing.{Choices, Preprocesses, IsAccepted, IsInstanceFault}
use Rattle.mp_modes.specs.Running.{Mode}
use Rattle.mp_modes.specs.Traces.{Step, Creates, Sends}

-- it reads an instance
abbrev pub instance_input : List ℕ → Input
instance_input name = record { name = name; Refuses = λ before text refusal. IsInstanceFault text refusal }

-- the map file is created and gets the map, where a name for it is given
abbrev pub steps_of_map : Option (List ℕ) → List ℕ → List Step
steps_of_map None map = []
steps_of_map (Some name) map = Creates name ∷ Sends ports.Map map ∷ []

-- it writes the map, where that has a name, then the instance, then the log of the run; there is a right map in each case
abbrev pub ArePreprocessSteps : Choices → Option (List ℕ) → List (List ℕ) → Option Done → List Step → Type 0
ArePreprocessSteps chosen name (text ∷ []) (Some done) steps =
    (map : List ℕ) × (out : List ℕ) × (log : List ℕ) × Preprocesses chosen done text map out log × (steps ≡ steps_of_map name map ++ Sends ports.Out out ∷ Sends ports.Log log ∷ [])
ArePreprocessSteps chosen name _ run steps = ⊥

-- of a file, with what is asked for and the name of the map, where it has one
abbrev pub preprocess_mode : List ℕ → Choices → Option (List ℕ) → Mode
preprocess_mode file chosen map = record { inputs = instance_input file ∷ []; IsRight = ArePreprocessSteps chosen map }

-- the law: also where no map is written, the original's optimum is that of the written instance plus the offset in the first
-- line of its text
abbrev pub OptimumIsKept : Type 0
OptimumIsKept = (chosen : Choices) (text : List ℕ) (done : Done) (steps : List Step) → ArePreprocessSteps chosen None (text ∷ []) (Some done) steps
    → (f : Formula) × (g : Formula) × (offset : ℕ) × (out : List ℕ) × (log : List ℕ) × (steps ≡ Sends ports.Out out ∷ Sends ports.Log log ∷ [])
    × IsAccepted text f × (out ≡ instance_text chosen.form offset g) × Denotes out g × SameOptimum f g offset
