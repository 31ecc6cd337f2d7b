use Rattle.mp_turns.proofs.Pacing.{run-itself}
use Rattle.t_subsume.specs.Subsumption.{subsuming}
use Rattle.t_subsume.proofs.Subsuming.{subsuming-sound, none-held, all-subsume-none}
use Rattle.t_subsume.proofs.Remembering.{rested-after}
use Rattle.t_subsume.proofs.subsumption.subsume_again.Goals as goal

pub run_turns-requires-clause-sound : goal.run_turns-requires-clause-sound
run_turns-requires-clause-sound c = subsuming-sound

pub run_turns-requires-clause-fits : goal.run_turns-requires-clause-fits
run_turns-requires-clause-fits c = (none-held c.args.seen.now c.args.store.now c.requires.rested, c.in_ok-since.ensures, c.in_ok-since-2.ensures)

pub returns-clause-ids : goal.returns-clause-ids
returns-clause-ids c = c.run_turns.ensures.stays.stays

pub returns-clause-rested : goal.returns-clause-rested
returns-clause-rested c = rested-after subsuming c.args.seen.now c.remember.new.seen c.args.store.now c.run_turns.new.store c.args.budget c.in_ok-ran.ran (all-subsume-none c.run_turns.new.store) c.requires.rested c.run_turns.ensures.run c.in_ok-ran.ensures.answer c.remember.ensures

pub returns-in_err-since-clause-run : goal.returns-in_err-since-clause-run
returns-in_err-since-clause-run c = run-itself subsuming c.args.store.now subsuming-sound

pub returns-in_err-since-2-clause-run : goal.returns-in_err-since-2-clause-run
returns-in_err-since-2-clause-run c = run-itself subsuming c.args.store.now subsuming-sound
