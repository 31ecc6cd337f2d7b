-- Scripts that can run.
use Rattle.std.proofs.Common.{List, arith}
use Rattle.mp_logic.proofs.Members.{All-from_contained}
use Rattle.mp_script.specs.declared.scripts.Rounds.{Rounds}
use Rattle.mp_script.specs.declared.scripts.Rounds.TheVariants.{Once, Settle, At}
use Rattle.mp_script.specs.declared.scripts.Group.{Group}
use Rattle.mp_script.specs.Grammar.{IsStageInRange, AreRoundsInRange, IsInRange, ScriptsAreInRange}
use Rattle.mp_engine.specs.Laws.{ScriptsCanRun}
use Rattle.mp_engine.specs.Stores.{AreInRange, HasRounds, CanRun}

has_rounds : (rounds : Rounds) → AreRoundsInRange rounds → HasRounds rounds
has_rounds Once h = tt
has_rounds Settle h = tt
has_rounds (At n) h = λ e. omega (arith, h.0, e)

runs_all : (script : List Group) → IsInRange script → CanRun script
runs_all script h =
    All-from_contained (λ (group : Group). AreInRange group.stages × HasRounds group.rounds) script
    (λ group i. let r = h group i in (All-from_contained IsStageInRange group.stages r.stages, has_rounds group.rounds r.rounds))

pub scripts_can_run : ScriptsAreInRange → ScriptsCanRun
scripts_can_run range text script is = runs_all script (range text script is)
