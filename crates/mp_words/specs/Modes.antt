-- The table of modes: the word of each, and the options that it has. A further mode is one more line of each.
use Rattle.std.specs.Prelude.{ℕ, List, [], ◌∷◌, codes}
use Rattle.mp_words.specs.declared.modes.Mode.{Mode}
use Rattle.mp_words.specs.declared.modes.Mode.TheVariants.{Preprocess, Reconstruct, Evaluate, Workload, Upgrade}

-- the names of all options
abbrev pub all_options : List (List ℕ)
all_options =
    codes "techniques"
    ∷ (codes "mapfile" ∷ (codes "form" ∷ (codes "merge" ∷ (codes "mapversion" ∷ (codes "original" ∷ (codes "values" ∷ (codes "solution" ∷ [])))))))

abbrev pub mode_word : Mode → List ℕ
mode_word Preprocess = codes "preprocess"
mode_word Reconstruct = codes "reconstruct"
mode_word Evaluate = codes "evaluate"
mode_word Workload = codes "workload"
mode_word Upgrade = codes "upgrade"

abbrev pub options_of : Mode → List (List ℕ)
options_of Preprocess = codes "techniques" ∷ (codes "mapfile" ∷ (codes "form" ∷ (codes "merge" ∷ (codes "mapversion" ∷ []))))
options_of Reconstruct = codes "mapfile" ∷ (codes "original" ∷ (codes "values" ∷ []))
options_of Evaluate = codes "solution" ∷ []
options_of Workload = codes "techniques" ∷ []
options_of Upgrade = codes "mapfile" ∷ []
