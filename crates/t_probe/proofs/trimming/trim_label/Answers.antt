use Rattle.std.proofs.Common.{refl}
use Rattle.t_probe.specs.Trimming.{trimming}
use Rattle.t_probe.proofs.Calls.{untouched-run, trim-itself, about-same, core-implies, trim-found, trim-unknown}
use Rattle.t_probe.proofs.trimming.trim_label.Goals as goal

pub returns-in_err-assume_false-clause-run : goal.returns-in_err-assume_false-clause-run
returns-in_err-assume_false-clause-run g c = untouched-run trimming c.args.store.now c.args.store.now trim-itself refl

pub returns-in_err-verdict-clause-run : goal.returns-in_err-verdict-clause-run
returns-in_err-verdict-clause-run g c = untouched-run trimming c.args.store.now c.args.store.now trim-itself refl

pub pay-requires-clause-implied : goal.pay-requires-clause-implied
pay-requires-clause-implied g c =
    let about = about-same c.args.store.now c.args.query.now c.assume_false.new.query c.requires.about c.assume_false.ensures.vars c.assume_false.ensures.hard in
    core-implies c.args.store.now c.assume_false.new.query c.in-Core.core c.args.lit about c.in_ok-assume_false.ensures.ok (rw c.in-Core.is at c.in_ok-verdict.ensures.right)

pub returns-in-Model-clause-run : goal.returns-in-Model-clause-run
returns-in-Model-clause-run g c = untouched-run trimming c.args.store.now c.args.store.now trim-itself refl

pub returns-in-Model-clause-turned : goal.returns-in-Model-clause-turned
returns-in-Model-clause-turned g c =
    let about = about-same c.args.store.now c.args.query.now c.assume_false.new.query c.requires.about c.assume_false.ensures.vars c.assume_false.ensures.hard in
    trim-found c.args.store.now c.assume_false.new.query c.args.lit c.in-Model.model about c.in_ok-assume_false.ensures.ok (rw c.in-Model.is at c.in_ok-verdict.ensures.right)

pub returns-in-Unknown-clause-run : goal.returns-in-Unknown-clause-run
returns-in-Unknown-clause-run g c = untouched-run trimming c.args.store.now c.args.store.now trim-itself refl

pub returns-in-Unknown-clause-turned : goal.returns-in-Unknown-clause-turned
returns-in-Unknown-clause-turned g c =
    let about = about-same c.args.store.now c.args.query.now c.assume_false.new.query c.requires.about c.assume_false.ensures.vars c.assume_false.ensures.hard in
    trim-unknown _ c.args.store.now c.assume_false.new.query c.args.lit c.in-Unknown.learnt c.vars.ensures.sound c.requires.unrefuted about c.requires.label c.in_ok-assume_false.ensures.ok (rw c.in-Unknown.is at c.in_ok-verdict.ensures.given) (rw c.in-Unknown.is at c.in_ok-verdict.ensures.right)
