use Rattle.std.proofs.Common.{refl}
use Rattle.t_failed.proofs.PairTurns.{pair_probing-sound, untouched-run}
use Rattle.t_failed.proofs.pairing.pairs.Goals as goal

pub run_turns-requires-clause-sound : goal.run_turns-requires-clause-sound
run_turns-requires-clause-sound c = pair_probing-sound

pub returns-in_err-new-clause-run : goal.returns-in_err-new-clause-run
returns-in_err-new-clause-run c = untouched-run c.args.store.now c.args.store.now refl

pub returns-in_err-labels-clause-run : goal.returns-in_err-labels-clause-run
returns-in_err-labels-clause-run c = untouched-run c.args.store.now c.args.store.now refl

pub returns-in_err-units_of-clause-run : goal.returns-in_err-units_of-clause-run
returns-in_err-units_of-clause-run c = untouched-run c.args.store.now c.args.store.now refl
