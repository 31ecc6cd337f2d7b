-- When nothing but want of memory can keep a run from doing all that is asked for.
use Rattle.std.specs.Prelude.{◌≡◌, ◌⊎◌, ◌<◌, ◌≤◌, ℕ, Bool, List, Option, Some, None, length}
use Rattle.mp_host.specs.World.{World, last_count}
use Rattle.mp_logic.specs.Formula.{Formula}
use Rattle.mp_logic.specs.Truth.{IsHardModel}
use Rattle.mp_map.specs.Solutions.{Reports}
use Rattle.mp_map.specs.declared.maps.MapFile.{MapFile}
use Rattle.mp_map.specs.declared.solutions.Solution.{Solution}
use Rattle.mp_script.specs.Grammar.{IsScriptOf}
use Rattle.mp_script.specs.declared.scripts.Group.{Group}
use Rattle.mp_words.specs.Commands.{Request, Preprocess, Reconstruct, Evaluate, Workload, Upgrade}
use Rattle.mp_modes.specs.Evaluating.{ReportsValues}
use Rattle.mp_modes.specs.Instances.{IsReadable}
use Rattle.mp_modes.specs.Limits.{longest}
use Rattle.mp_modes.specs.Preprocessing.{IsAccepted}
use Rattle.mp_modes.specs.Reconstructing.{IsMapText, IsModelBack, values_back}
use Rattle.mp_modes.specs.Traces.{Outside}
use Rattle.mp_modes.specs.declared.status.Status.{Status}
use Rattle.mp_modes.specs.declared.status.Status.TheVariants as statuses

-- the file of this name is told, it is no longer than an input may be, and this holds of its text
abbrev pub HasFile : World → List ℕ → (List ℕ → Type 0) → Type 0
HasFile w name Holds = (text : List ℕ) × (w.file name ≡ Some text) × (length text ≤ longest) × Holds text

-- the techniques are a script
abbrev pub IsScript : List ℕ → Type 0
IsScript techniques = (script : List Group) × IsScriptOf techniques script

-- the file is the text of a map and the other one that of a solution for its written variables, of which this holds
abbrev pub AreAnswered : World → List ℕ → List ℕ → (MapFile → Solution → Type 0) → Type 0
AreAnswered w map file Holds = (way : MapFile) × (s : Solution) × HasFile w map (λ text. IsMapText text way) × HasFile w file (λ text. Reports text way.written s) × Holds way s

-- All that the request reads is inside its grammar and within the limits; solutions have the values that must be there, and
-- these are hard models where they are tried.
abbrev pub IsSound : World → Request → Type 0
IsSound w (Preprocess file techniques map form merge version) = IsScript techniques × ((f : Formula) × HasFile w file (λ text. IsAccepted text f))
IsSound w (Reconstruct file map None form) = AreAnswered w map file (λ way s. Unit {0})
IsSound w (Reconstruct file map (Some original) form) = (f : Formula) × HasFile w original (λ text. IsReadable text f) × AreAnswered w map file (λ way s. IsModelBack (Some f) (values_back way s))
IsSound w (Evaluate file solution) = (f : Formula) × (values : List Bool) × HasFile w file (λ text. IsReadable text f) × HasFile w solution (λ text. ReportsValues text f.vars (Some values)) × IsHardModel f values
IsSound w (Workload tasks techniques) = IsScript techniques
IsSound w (Upgrade file map) = (way : MapFile) × HasFile w file (λ text. IsMapText text way)

-- no host call failed: neither count of faults rose, and neither stands at its last value, from which it can't
abbrev pub HasNoFault : Outside → Outside → Type 0
HasNoFault old new = (new.read_faults ≡ old.read_faults) × (new.read_faults < last_count) × (new.write_faults ≡ old.write_faults) × (new.write_faults < last_count)

-- all went well, or memory was wanting
abbrev pub IsOkOrWant : Status → Type 0
IsOkOrWant status = (status ≡ statuses.Ok) ⊎ (status ≡ statuses.NoMemory)
