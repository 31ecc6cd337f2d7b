use Rattle.mp_engine.proofs.CanRun.{scripts_can_run}
use Rattle.mp_engine.proofs.laws.scripts_can_run.Goals as goal

pub returns : goal.returns
returns c = scripts_can_run c.scripts_are_in_range.ensures
