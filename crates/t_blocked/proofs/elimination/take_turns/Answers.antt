use Rattle.std.proofs.Common.{refl}
use Rattle.mp_resting.proofs.Rested.{rested-by}
use Rattle.t_blocked.specs.BlockedClauses.{blocking}
use Rattle.t_blocked.proofs.Dropped.{blocking-sound, untouched-run}
use Rattle.t_blocked.proofs.elimination.take_turns.Goals as goal

pub run_turns-requires-clause-sound : goal.run_turns-requires-clause-sound
run_turns-requires-clause-sound c = blocking-sound

pub run_turns-requires-clause-fits : goal.run_turns-requires-clause-fits
run_turns-requires-clause-fits c = (rested-by blocking.IsIdle c.args.seen.now c.in_ok-kept.kept c.args.store.now c.requires.rested c.in_ok-kept.ensures, c.in_ok-touched_since.ensures)

pub touched_since-requires : goal.touched_since-requires
touched_since-requires c = rested-by blocking.IsIdle c.args.seen.now c.in_ok-kept.kept c.args.store.now c.requires.rested c.in_ok-kept.ensures

pub returns-in_err-kept-clause-run : goal.returns-in_err-kept-clause-run
returns-in_err-kept-clause-run c = untouched-run c.args.store.now c.args.store.now refl

pub returns-in_err-touched_since-clause-run : goal.returns-in_err-touched_since-clause-run
returns-in_err-touched_since-clause-run c = untouched-run c.args.store.now c.args.store.now refl

pub returns-in_err-new-clause-run : goal.returns-in_err-new-clause-run
returns-in_err-new-clause-run c = untouched-run c.args.store.now c.args.store.now refl
