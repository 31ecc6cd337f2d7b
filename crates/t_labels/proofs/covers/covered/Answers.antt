use Rattle.t_labels.specs.Covers.{IsUncovered}
use Rattle.t_labels.proofs.Rounds.{covering-sound, repairs-within}
use Rattle.t_labels.proofs.covers.covered.Goals as goal

pub run_turns-requires-clause-sound : goal.run_turns-requires-clause-sound
run_turns-requires-clause-sound c = covering-sound

pub returns-clause-turns : goal.returns-clause-turns
returns-clause-turns c = repairs-within IsUncovered c.args.budget c.args.store.now c.run_turns.new.store c.run_turns.ensures.stays
