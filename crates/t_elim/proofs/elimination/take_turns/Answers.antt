use Rattle.t_elim.proofs.Rounds.{eliminating-sound}
use Rattle.t_elim.proofs.elimination.take_turns.Goals as goal

pub run_turns-requires-clause-sound : goal.run_turns-requires-clause-sound
run_turns-requires-clause-sound c = eliminating-sound
