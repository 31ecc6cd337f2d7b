use Rattle.mp_engine.proofs.Endings.{log_tells}
use Rattle.mp_engine.proofs.laws.log_tells_close.Goals as goal

pub returns : goal.returns
returns c = log_tells
