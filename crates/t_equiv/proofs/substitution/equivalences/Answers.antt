use Rattle.t_equiv.proofs.Rounds.{substituting-sound}
use Rattle.t_equiv.proofs.substitution.equivalences.Goals as goal

pub run_turns-requires-clause-sound : goal.run_turns-requires-clause-sound
run_turns-requires-clause-sound c = substituting-sound
