-- Techniques that can't run.
use Rattle.std.proofs.Common.{◌≡◌, ℕ, List, refl}
use Rattle.mp_script.specs.Grammar.{IsFault}
use Rattle.mp_script.specs.declared.errors.ScriptError.{ScriptError}
use Rattle.mp_script.specs.declared.errors.ScriptError.TheVariants as errors
use Rattle.mp_modes.specs.Commands.{Bars, refused_script}

-- the refusal for what the parser answers bars the techniques
pub script_barred : (techniques : List ℕ) (e : ScriptError) → IsFault techniques e → Bars techniques (refused_script e)
script_barred techniques (errors.BadScript place) h = h
script_barred techniques errors.NoMemory h = tt
