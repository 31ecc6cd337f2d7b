use Rattle.mp_turns.proofs.Pacing.{run-itself}
use Rattle.t_subsume.specs.Strengthening.{strengthening}
use Rattle.t_subsume.proofs.Strengthened.{strengthening-sound, none-strengthened, all-strengthen-none}
use Rattle.t_subsume.proofs.Remembering.{rested-after}
use Rattle.t_subsume.proofs.strengthening.strengthen_again.Goals as goal

pub run_turns-requires-clause-sound : goal.run_turns-requires-clause-sound
run_turns-requires-clause-sound c = strengthening-sound

pub run_turns-requires-clause-fits : goal.run_turns-requires-clause-fits
run_turns-requires-clause-fits c = (none-strengthened c.args.seen.now c.args.store.now c.requires.rested, c.in_ok-since.ensures, c.in_ok-since-2.ensures)

pub returns-clause-rested : goal.returns-clause-rested
returns-clause-rested c = rested-after strengthening c.args.seen.now c.remember.new.seen c.args.store.now c.run_turns.new.store c.args.budget c.in_ok-ran.ran (all-strengthen-none c.run_turns.new.store) c.requires.rested c.run_turns.ensures.run c.in_ok-ran.ensures.answer c.remember.ensures

pub returns-in_err-since-clause-run : goal.returns-in_err-since-clause-run
returns-in_err-since-clause-run c = run-itself strengthening c.args.store.now strengthening-sound

pub returns-in_err-since-2-clause-run : goal.returns-in_err-since-2-clause-run
returns-in_err-since-2-clause-run c = run-itself strengthening c.args.store.now strengthening-sound
