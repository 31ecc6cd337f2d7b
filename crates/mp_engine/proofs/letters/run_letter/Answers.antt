use Rattle.std.proofs.Common.{sym, subst}
use Rattle.mp_script.specs.declared.scripts.Letter.{Letter}
use Rattle.t_probe.specs.Trimming.{trimming}
use Rattle.t_probe.specs.PairCores.{pair_core_search}
use Rattle.mp_engine.specs.Letters.{kind_of}
use Rattle.mp_engine.specs.Stores.{HasStepped}
use Rattle.mp_engine.proofs.Asked.{asks_stepped, hardens_stepped}
use Rattle.mp_engine.proofs.Rested.{rests-run, rests-propagated, rests-subsumed, rests-strengthened, rests-blocked, rests-eliminated}
use Rattle.mp_engine.proofs.letters.run_letter.Goals as goal

pub returns-in_ok-probed-in-T-clause-step : goal.returns-in_ok-probed-in-T-clause-step
returns-in_ok-probed-in-T-clause-step g c =
    let a = c.in_ok-probed-in-T.ensures in
    subst (λ (l : Letter). HasStepped (kind_of l) c.args.stage.budget c.args.store.now c.trim.new.store c.asked.result.ending c.asked.result.changed) (sym c.in-T.is)
    (asks_stepped trimming _ c.args.stage.budget _ c.args.store.now c.trim.new.store _ c.asked.result.ending c.asked.result.changed (λ u h. h) c.learning_budget.ensures a.run a.answer c.asked.ensures.ending c.asked.ensures.changed)

pub returns-in_ok-probed-in-K-clause-step : goal.returns-in_ok-probed-in-K-clause-step
returns-in_ok-probed-in-K-clause-step g c =
    let a = c.in_ok-probed-in-K.ensures in
    subst (λ (l : Letter). HasStepped (kind_of l) c.args.stage.budget c.args.store.now c.pair_cores.new.store c.asked-in-K.result.ending c.asked-in-K.result.changed) (sym c.in-K.is)
    (asks_stepped pair_core_search _ c.args.stage.budget _ c.args.store.now c.pair_cores.new.store _ c.asked-in-K.result.ending c.asked-in-K.result.changed (λ u h. h) c.learning_budget-in-K.ensures a.run a.answer c.asked-in-K.ensures.ending c.asked-in-K.ensures.changed)

pub returns-in_ok-probed-in-H-clause-step : goal.returns-in_ok-probed-in-H-clause-step
returns-in_ok-probed-in-H-clause-step g c =
    let a = c.in_ok-probed-in-H.ensures in
    subst (λ (l : Letter). HasStepped (kind_of l) c.args.stage.budget c.args.store.now c.harden.new.store c.asked-in-H.result.ending c.asked-in-H.result.changed) (sym c.in-H.is)
    (hardens_stepped _ c.args.stage.budget _ c.args.store.now c.harden.new.store _ c.asked-in-H.result.ending c.asked-in-H.result.changed c.learning_budget-in-H.ensures a.run a.answer c.asked-in-H.ensures.ending c.asked-in-H.ensures.changed)

pub returns-in_ok-units_again-in-U-clause-rested : goal.returns-in_ok-units_again-in-U-clause-rested
returns-in_ok-units_again-in-U-clause-rested g c = rests-propagated _ c.args.rests.now c.units_again.new.seen c.args.store.now c.units_again.new.store c.requires.rested c.units_again.ensures.run c.in_ok-units_again-in-U.ensures.rested

pub returns-in_ok-failed-in-F-clause-rested : goal.returns-in_ok-failed-in-F-clause-rested
returns-in_ok-failed-in-F-clause-rested g c = rests-run _ c.args.rests.now c.args.store.now c.failed.new.store c.requires.rested c.failed.ensures.run

pub returns-in_ok-pairs-in-P-clause-rested : goal.returns-in_ok-pairs-in-P-clause-rested
returns-in_ok-pairs-in-P-clause-rested g c = rests-run _ c.args.rests.now c.args.store.now c.pairs.new.store c.requires.rested c.pairs.ensures.run

pub returns-in_ok-equivalences-in-E-clause-rested : goal.returns-in_ok-equivalences-in-E-clause-rested
returns-in_ok-equivalences-in-E-clause-rested g c = rests-run _ c.args.rests.now c.args.store.now c.equivalences.new.store c.requires.rested c.equivalences.ensures.run

pub returns-in_ok-covered-in-L-clause-rested : goal.returns-in_ok-covered-in-L-clause-rested
returns-in_ok-covered-in-L-clause-rested g c = rests-run _ c.args.rests.now c.args.store.now c.covered.new.store c.requires.rested c.covered.ensures.run

pub returns-in_ok-group_covered-in-Gr-clause-rested : goal.returns-in_ok-group_covered-in-Gr-clause-rested
returns-in_ok-group_covered-in-Gr-clause-rested g c = rests-run _ c.args.rests.now c.args.store.now c.group_covered.new.store c.requires.rested c.group_covered.ensures.run

pub returns-in_ok-matched-in-M-clause-rested : goal.returns-in_ok-matched-in-M-clause-rested
returns-in_ok-matched-in-M-clause-rested g c = rests-run _ c.args.rests.now c.args.store.now c.matched.new.store c.requires.rested c.matched.ensures.run

pub returns-in_ok-binary_cores-in-C-clause-rested : goal.returns-in_ok-binary_cores-in-C-clause-rested
returns-in_ok-binary_cores-in-C-clause-rested g c = rests-run _ c.args.rests.now c.args.store.now c.binary_cores.new.store c.requires.rested c.binary_cores.ensures.run

pub returns-in_ok-at_most_ones-in-Amo-clause-rested : goal.returns-in_ok-at_most_ones-in-Amo-clause-rested
returns-in_ok-at_most_ones-in-Amo-clause-rested g c = rests-run _ c.args.rests.now c.args.store.now c.at_most_ones.new.store c.requires.rested c.at_most_ones.ensures.run

pub returns-in_ok-probed-in-T-clause-rested : goal.returns-in_ok-probed-in-T-clause-rested
returns-in_ok-probed-in-T-clause-rested g c = rests-run _ c.args.rests.now c.args.store.now c.trim.new.store c.requires.rested c.trim.ensures.run

pub returns-in_ok-probed-in-K-clause-rested : goal.returns-in_ok-probed-in-K-clause-rested
returns-in_ok-probed-in-K-clause-rested g c = rests-run _ c.args.rests.now c.args.store.now c.pair_cores.new.store c.requires.rested c.pair_cores.ensures.run

pub returns-in_ok-probed-in-H-clause-rested : goal.returns-in_ok-probed-in-H-clause-rested
returns-in_ok-probed-in-H-clause-rested g c = rests-run _ c.args.rests.now c.args.store.now c.harden.new.store c.requires.rested c.harden.ensures.run

pub returns-in_ok-blocked_again-in-B-clause-rested : goal.returns-in_ok-blocked_again-in-B-clause-rested
returns-in_ok-blocked_again-in-B-clause-rested g c = rests-blocked _ c.args.rests.now c.blocked_again.new.seen c.args.store.now c.blocked_again.new.store c.requires.rested c.blocked_again.ensures.run c.in_ok-blocked_again-in-B.ensures.rested

pub returns-in_ok-subsume_again-in-S-clause-rested : goal.returns-in_ok-subsume_again-in-S-clause-rested
returns-in_ok-subsume_again-in-S-clause-rested g c = rests-subsumed _ c.args.rests.now c.subsume_again.new.seen c.args.store.now c.subsume_again.new.store c.requires.rested c.subsume_again.ensures.run c.in_ok-subsume_again-in-S.ensures.rested

pub returns-in_ok-strengthen_again-in-R-clause-rested : goal.returns-in_ok-strengthen_again-in-R-clause-rested
returns-in_ok-strengthen_again-in-R-clause-rested g c = rests-strengthened _ c.args.rests.now c.strengthen_again.new.seen c.args.store.now c.strengthen_again.new.store c.requires.rested c.strengthen_again.ensures.run c.in_ok-strengthen_again-in-R.ensures.rested

pub returns-in_ok-eliminate_again-in-V-clause-rested : goal.returns-in_ok-eliminate_again-in-V-clause-rested
returns-in_ok-eliminate_again-in-V-clause-rested g c = rests-eliminated _ c.args.rests.now c.eliminate_again.new.seen c.args.store.now c.eliminate_again.new.store c.requires.rested c.eliminate_again.ensures.run c.in_ok-eliminate_again-in-V.ensures.rested
