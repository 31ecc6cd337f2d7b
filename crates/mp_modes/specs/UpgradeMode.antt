-- The mode `upgrade`.
use Rattle.std.specs.Prelude.{◌≡◌, ℕ, List, [], ◌∷◌, Option, None}
use Rattle.mp_host.specs.declared.host.Port.TheVariants as ports
use Rattle.mp_engine.specs.declared.done.Done.{Done}
use Rattle.mp_map.specs.Maps.{map_text, upgraded}
use Rattle.mp_map.specs.declared.maps.MapFile.{MapFile}
use Rattle.mp_modes.specs.Reconstructing.{IsMapText}
use Rattle.mp_modes.specs.ReconstructMode.{map_input}
use Rattle.mp_modes.specs.Running.{Mode}
use Rattle.mp_modes.specs.Traces.{Step, Creates, Sends}

-- it writes the map that says the same in the latest version to a file of this name, and nothing on the other ports
abbrev pub AreUpgradeSteps : List ℕ → List (List ℕ) → Option Done → List Step → Type 0
AreUpgradeSteps name (map ∷ []) run steps =
    (way : MapFile) × IsMapText map way × (run ≡ None) × (steps ≡ Creates name ∷ (Sends ports.Map (map_text (upgraded way)) ∷ (Sends ports.Out [] ∷ (Sends ports.Log [] ∷ []))))
AreUpgradeSteps name _ run steps = ⊥

-- of the file of a map, with the name of the upgraded one
abbrev pub upgrade_mode : List ℕ → List ℕ → Mode
upgrade_mode file map = record { inputs = map_input file ∷ []; IsRight = AreUpgradeSteps map }
