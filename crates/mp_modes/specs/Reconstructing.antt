-- What reconstructing makes of the texts of a map and of a solution, and of the original instance, where that is read.
use Rattle.std.specs.Prelude.{◌≡◌, ℕ, Bool, List, Option, Some, None}
use Rattle.std.specs.Option.{option_map}
use Rattle.mp_logic.specs.Formula.{Formula}
use Rattle.mp_logic.specs.Carrying.{carried_back}
use Rattle.mp_logic.specs.Truth.{IsHardModel, cost_of}
use Rattle.mp_map.specs.Maps.{IsMap, map_text, reconstruction_of}
use Rattle.mp_map.specs.Solutions.{Reports, solution_text}
use Rattle.mp_map.specs.declared.maps.MapFile.{MapFile}
use Rattle.mp_map.specs.declared.solutions.Solution.{Solution}
use Rattle.mp_map.specs.declared.solutions.Values.{Values}
use Rattle.mp_modes.specs.Instances.{IsReadable}

-- the values of a solution, where it has some, carried back
abbrev pub values_back : MapFile → Solution → Option (List Bool)
values_back way s = option_map (carried_back (reconstruction_of way)) s.values

-- what the values cost in the original, where both are there
abbrev pub cost_back : Option Formula → Option (List Bool) → Option ℕ
cost_back None values = None
cost_back (Some f) values = option_map (cost_of f) values

-- the values are a hard model of the original, where both are there
abbrev pub IsModelBack : Option Formula → Option (List Bool) → Type 0
IsModelBack None values = Unit {0}
IsModelBack (Some f) None = Unit {0}
IsModelBack (Some f) (Some values) = IsHardModel f values

-- the text of a solution whose values, where it has some, are carried back, with their cost where the original is there
abbrev pub reconstructed_text : Option Formula → MapFile → Solution → Values → List ℕ
reconstructed_text original way s form = solution_text s.answer (values_back way s) form (cost_back original (values_back way s))

-- The text is the one spelling of this valid map.
pub record IsMapText (text : List ℕ) (way : MapFile) : Type 0 where
  pub valid : IsMap way
  pub spelled : map_text way ≡ text

-- the text, where one is read, denotes the original instance
abbrev pub IsOriginal : Option (List ℕ) → Option Formula → Type 0
IsOriginal None original = original ≡ None
IsOriginal (Some text) None = ⊥
IsOriginal (Some text) (Some f) = IsReadable text f

-- The output is right for the texts of an original instance, where one is read, of a map and of a solution: the map is the one
-- spelling of a valid map, the solution reports one for its written variables, the values carried back are a hard model of
-- the original, and the output is the text of the solution with these values and their cost there.
pub record Reconstructs (form : Values) (text : Option (List ℕ)) (map solution out : List ℕ) : Type 0 where
  pub original : Option Formula
  pub way : MapFile
  pub reported : Solution
  pub original_is : IsOriginal text original
  pub map_is : IsMapText map way
  pub reports : Reports solution way.written reported
  pub model : IsModelBack original (values_back way reported)
  pub out_is : out ≡ reconstructed_text original way reported form
