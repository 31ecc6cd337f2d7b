use Rattle.mp_modes.proofs.Traced.{line_whole, line_cut_off}
use Rattle.mp_modes.proofs.outputs.say.Goals as goal

pub returns-in-Ok-clause-line : goal.returns-in-Ok-clause-line
returns-in-Ok-clause-line g c = line_whole _ _ _ c.in-Ok.ensures.whole

pub returns-in-Err-clause-line : goal.returns-in-Err-clause-line
returns-in-Err-clause-line g c = line_cut_off _ _ _ _ c.in-Err.ensures.short c.in-Err.ensures.part
