use Rattle.mp_engine.proofs.Moved.{counts_move}
use Rattle.mp_engine.proofs.laws.counts_move.Goals as goal

pub returns : goal.returns
returns c = counts_move
