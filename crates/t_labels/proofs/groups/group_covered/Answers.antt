use Rattle.t_labels.proofs.GroupRounds.{group-sound}
use Rattle.t_labels.specs.Groups.{HasNoGroup}
use Rattle.t_labels.proofs.Rounds.{repairs-within}
use Rattle.t_labels.proofs.groups.group_covered.Goals as goal

pub run_turns-requires-clause-sound : goal.run_turns-requires-clause-sound
run_turns-requires-clause-sound c = group-sound

pub returns-clause-turns : goal.returns-clause-turns
returns-clause-turns c = repairs-within HasNoGroup c.args.budget c.args.store.now c.run_turns.new.store c.run_turns.ensures.stays
