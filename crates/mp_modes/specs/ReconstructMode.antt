-- The mode `reconstruct`.
use Rattle.std.specs.Prelude.{◌≡◌, ℕ, Bool, List, [], ◌∷◌, ◌++◌, Option, Some, None}
use Rattle.mp_logic.specs.Carrying.{carried_back}
use Rattle.mp_logic.specs.Formula.{Formula}
use Rattle.mp_engine.specs.declared.done.Done.{Done}
use Rattle.mp_map.specs.Faults.{IsRefused}
use Rattle.mp_map.specs.Maps.{reconstruction_of}
use Rattle.mp_map.specs.Solutions.{Reports, solution_fault}
use Rattle.mp_map.specs.declared.maps.MapFile.{MapFile}
use Rattle.mp_map.specs.declared.maps.MapError.TheVariants as errors
use Rattle.mp_map.specs.declared.solutions.Solution.{Solution}
use Rattle.mp_map.specs.declared.solutions.Values.{Values}
use Rattle.mp_modes.specs.EvaluateMode.{readable_input}
use Rattle.mp_modes.specs.Evaluating.{IsFalseAt}
use Rattle.mp_modes.specs.Inputs.{Input}
use Rattle.mp_modes.specs.Instances.{IsReadable}
use Rattle.mp_modes.specs.Reconstructing.{IsMapText, Reconstructs}
use Rattle.mp_modes.specs.Outputs.{IsOneOutput}
use Rattle.mp_modes.specs.Running.{Mode}
use Rattle.mp_modes.specs.Traces.{Step}
use Rattle.mp_modes.specs.declared.refusal.TextRefusal.{TextRefusal}
use Rattle.mp_modes.specs.declared.refusal.TextRefusal.TheVariants as texts

-- why the text of a map is refused
abbrev pub IsMapFault : List ℕ → TextRefusal → Type 0
IsMapFault text (texts.Map line) = IsRefused text (errors.BadMap line)
IsMapFault text _ = ⊥

-- why the text of a solution for so many written variables is refused
abbrev pub IsSolutionFault : ℕ → List ℕ → TextRefusal → Type 0
IsSolutionFault written text (texts.Solution line) = solution_fault text written ≡ Some line
IsSolutionFault written text _ = ⊥

-- carried back, the values of a solution make a hard clause of the original false
abbrev pub IsFalseBack : Formula → MapFile → Solution → TextRefusal → Type 0
IsFalseBack f way s refusal = (values : List Bool) × (s.values ≡ Some values) × IsFalseAt f (carried_back (reconstruction_of way) values) refusal

-- why it is refused where its values are tried on the original: besides, carried back they make a hard clause of that false
abbrev pub IsCarriedFault : Formula → MapFile → List ℕ → TextRefusal → Type 0
IsCarriedFault f way text (texts.NotModel clause) = (s : Solution) × Reports text way.written s × IsFalseBack f way s (texts.NotModel clause)
IsCarriedFault f way text refusal = IsSolutionFault way.written text refusal

-- why it is refused behind the text of its map, and of the original before that, where one is read
abbrev pub IsSolutionFaultBehind : List (List ℕ) → List ℕ → TextRefusal → Type 0
IsSolutionFaultBehind (map ∷ []) text refusal = (way : MapFile) × IsMapText map way × IsSolutionFault way.written text refusal
IsSolutionFaultBehind (original ∷ (map ∷ [])) text refusal = (f : Formula) × (way : MapFile) × IsReadable original f × IsMapText map way × IsCarriedFault f way text refusal
IsSolutionFaultBehind _ text refusal = ⊥

-- it reads the original instance, where a name for it is given
abbrev pub original_inputs : Option (List ℕ) → List Input
original_inputs None = []
original_inputs (Some name) = readable_input name ∷ []

-- and a map
abbrev pub map_input : List ℕ → Input
map_input name = record { name = name; Refuses = λ before text refusal. IsMapFault text refusal }

-- and then a solution of the map's written instance
abbrev pub solution_input : List ℕ → Input
solution_input name = record { name = name; Refuses = IsSolutionFaultBehind }

-- it writes that solution, carried back, and nothing on the log
abbrev pub AreReconstructSteps : Option (List ℕ) → Values → List (List ℕ) → Option Done → List Step → Type 0
AreReconstructSteps None form (map ∷ (solution ∷ [])) run steps = (out : List ℕ) × Reconstructs form None map solution out × IsOneOutput out run steps
AreReconstructSteps (Some name) form (original ∷ (map ∷ (solution ∷ []))) run steps = (out : List ℕ) × Reconstructs form (Some original) map solution out × IsOneOutput out run steps
AreReconstructSteps name form _ run steps = ⊥

-- of the file of a solution, with the name of the map, that of the original, where it is read, and the form of the values
abbrev pub reconstruct_mode : List ℕ → List ℕ → Option (List ℕ) → Values → Mode
reconstruct_mode file map original form = record {
  inputs = original_inputs original ++ map_input map ∷ (solution_input file ∷ []);
  IsRight = AreReconstructSteps original form;
}
