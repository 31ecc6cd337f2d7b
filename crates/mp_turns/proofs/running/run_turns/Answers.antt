use Rattle.std.proofs.Common.{refl}
use Rattle.mp_turns.proofs.Pacing.{stays-none, run-itself, underway-begin, underway-awake}
use Rattle.mp_turns.proofs.running.run_turns.Goals as goal

pub returns-in_err-queue-clause-run : goal.returns-in_err-queue-clause-run
returns-in_err-queue-clause-run g c = run-itself g.T.Turn.turning c.args.store.now c.requires.sound

pub returns-in_err-queue-clause-stays : goal.returns-in_err-queue-clause-stays
returns-in_err-queue-clause-stays g c = stays-none g.T.Turn.turning c.args.budget c.args.store.now c.args.store.now c.requires.sound refl

pub returns-in_err-awake-clause-run : goal.returns-in_err-awake-clause-run
returns-in_err-awake-clause-run g c = run-itself g.T.Turn.turning c.args.store.now c.requires.sound

pub take_turns-requires-clause-underway : goal.take_turns-requires-clause-underway
take_turns-requires-clause-underway g c = underway-awake g.T.Turn.turning c.args.store.now c.in_ok-awake.awake c.requires.sound c.vars.ensures.sound c.requires.unrefuted c.in_ok-awake.ensures

pub take_turns-requires-2-clause-underway : goal.take_turns-requires-2-clause-underway
take_turns-requires-2-clause-underway g c = underway-begin g.T.Turn.turning c.args.budget c.args.store.now c.in_ok-queue.queue c.requires.sound c.vars.ensures.sound c.requires.unrefuted c.in_ok-queue.ensures
