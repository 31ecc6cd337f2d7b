-- The steps that write the texts of a run.
use Rattle.std.specs.Prelude.{◌≡◌, ℕ, List, [], ◌∷◌, ◌++◌, Option, Some, None, string_bytes}
use Rattle.mp_host.specs.declared.host.Port.TheVariants as ports
use Rattle.mp_engine.specs.declared.done.Done.{Done}
use Rattle.mp_modes.specs.Traces.{Step, Creates, Sends}
use Rattle.mp_modes.specs.declared.outputs.MapText.{MapText}
use Rattle.mp_modes.specs.declared.outputs.Outputs.{Outputs}

-- the map's file is created and gets its text
abbrev pub map_steps : Option MapText → List Step
map_steps None = []
map_steps (Some map) = Creates (string_bytes map.name) ∷ Sends ports.Map map.text ∷ []

-- the map, where there is one, then the output, then the log
abbrev pub steps_of : Outputs → List Step
steps_of outputs = map_steps outputs.map ++ Sends ports.Out outputs.out ∷ Sends ports.Log outputs.log ∷ []

-- no script was run, and there is one output and nothing on the log
abbrev pub IsOneOutput : List ℕ → Option Done → List Step → Type 0
IsOneOutput out run steps = (run ≡ None) × (steps ≡ Sends ports.Out out ∷ (Sends ports.Log [] ∷ []))
