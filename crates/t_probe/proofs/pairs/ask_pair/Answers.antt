use Rattle.std.proofs.Common.{refl}
use Rattle.t_probe.specs.PairCores.{pair_core_search}
use Rattle.t_probe.proofs.Calls.{untouched-run, about-same, core-empty}
use Rattle.t_probe.proofs.Rows.{pair-itself, label-up, two-valid, core-implies-two, pair-found, pair-unknown}
use Rattle.t_probe.proofs.pairs.ask_pair.Goals as goal

pub returns-in_err-assume_false-clause-run : goal.returns-in_err-assume_false-clause-run
returns-in_err-assume_false-clause-run g c = untouched-run pair_core_search c.args.store.now c.args.store.now pair-itself refl

pub ask-requires-clause-valid : goal.ask-requires-clause-valid
ask-requires-clause-valid g c =
    let about = about-same c.args.store.now c.args.query.now c.assume_false.new.query c.requires.about c.assume_false.ensures.vars c.assume_false.ensures.hard in
    two-valid c.args.store.now c.assume_false.new.query c.args.lit c.args.other c.vars.ensures.sound about (label-up c.args.store.now c.args.lit c.vars.ensures.sound c.requires.first) (label-up c.args.store.now c.args.other c.vars.ensures.sound c.requires.second) c.requires.order c.in_ok-assume_false.ensures.ok

pub returns-in_err-verdict-clause-run : goal.returns-in_err-verdict-clause-run
returns-in_err-verdict-clause-run g c = untouched-run pair_core_search c.args.store.now c.args.store.now pair-itself refl

pub cover-requires-clause-about : goal.cover-requires-clause-about
cover-requires-clause-about g c = about-same c.args.store.now c.args.query.now c.assume_false.new.query c.requires.about c.assume_false.ensures.vars c.assume_false.ensures.hard

pub cover-requires-clause-implied : goal.cover-requires-clause-implied
cover-requires-clause-implied g c =
    let about = about-same c.args.store.now c.args.query.now c.assume_false.new.query c.requires.about c.assume_false.ensures.vars c.assume_false.ensures.hard in
    core-implies-two c.args.store.now c.assume_false.new.query c.in-Core.core c.args.lit c.args.other about c.in_ok-assume_false.ensures.ok (rw c.in-Core.is at c.in_ok-verdict.ensures.right)

pub cover-requires-clause-core : goal.cover-requires-clause-core
cover-requires-clause-core g c =
    let about = about-same c.args.store.now c.args.query.now c.assume_false.new.query c.requires.about c.assume_false.ensures.vars c.assume_false.ensures.hard in
    core-empty c.args.store.now c.assume_false.new.query c.in-Core.core about (rw c.in-Core.is at c.in_ok-verdict.ensures.right)

pub returns-in-Model-clause-run : goal.returns-in-Model-clause-run
returns-in-Model-clause-run g c = untouched-run pair_core_search c.args.store.now c.args.store.now pair-itself refl

pub returns-in-Model-clause-turned : goal.returns-in-Model-clause-turned
returns-in-Model-clause-turned g c =
    let about = about-same c.args.store.now c.args.query.now c.assume_false.new.query c.requires.about c.assume_false.ensures.vars c.assume_false.ensures.hard in
    pair-found c.args.store.now c.assume_false.new.query c.args.lit c.args.other c.in-Model.model about c.in_ok-assume_false.ensures.ok (rw c.in-Model.is at c.in_ok-verdict.ensures.right)

pub returns-in-Unknown-clause-run : goal.returns-in-Unknown-clause-run
returns-in-Unknown-clause-run g c = untouched-run pair_core_search c.args.store.now c.args.store.now pair-itself refl

pub returns-in-Unknown-clause-turned : goal.returns-in-Unknown-clause-turned
returns-in-Unknown-clause-turned g c =
    let about = about-same c.args.store.now c.args.query.now c.assume_false.new.query c.requires.about c.assume_false.ensures.vars c.assume_false.ensures.hard in
    pair-unknown _ c.args.store.now c.assume_false.new.query c.args.lit c.args.other c.in-Unknown.learnt c.vars.ensures.sound c.requires.unrefuted about c.requires.first c.requires.second c.requires.order c.requires.uncovered c.in_ok-assume_false.ensures.ok (rw c.in-Unknown.is at c.in_ok-verdict.ensures.given) (rw c.in-Unknown.is at c.in_ok-verdict.ensures.right)
