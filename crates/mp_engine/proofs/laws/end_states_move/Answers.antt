use Rattle.mp_engine.proofs.Moved.{end_states_move}
use Rattle.mp_engine.proofs.laws.end_states_move.Goals as goal

pub returns : goal.returns
returns c = end_states_move
