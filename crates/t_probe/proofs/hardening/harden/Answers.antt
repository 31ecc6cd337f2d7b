use Rattle.std.proofs.Common.{refl}
use Rattle.t_probe.specs.Hardening.{hardening}
use Rattle.t_probe.proofs.Calls.{untouched-run}
use Rattle.t_probe.proofs.Hardened.{harden-itself, none-valid, weights-below, harden-model, harden-found, harden-bound, harden-refuting, harden-refuted, harden-spent}
use Rattle.t_probe.proofs.hardening.harden.Goals as goal

pub returns-in_err-begun-clause-run : goal.returns-in_err-begun-clause-run
returns-in_err-begun-clause-run g c = untouched-run hardening c.args.store.now c.args.store.now harden-itself refl

pub ask-requires-clause-valid : goal.ask-requires-clause-valid
ask-requires-clause-valid g c = none-valid c.args.store.now c.in_ok-begun.begun.query c.vars.ensures.sound c.in_ok-begun.ensures.about c.in_ok-begun.ensures.none

pub returns-in_err-verdict-clause-run : goal.returns-in_err-verdict-clause-run
returns-in_err-verdict-clause-run g c = untouched-run hardening c.args.store.now c.args.store.now harden-itself refl

pub cost_of-bound-requires : goal.cost_of-bound-requires
cost_of-bound-requires g c = weights-below c.args.store.now c.in_ok-begun.begun.costs c.vars.ensures.sound c.in_ok-begun.ensures.costs

pub make_false-requires-clause-model : goal.make_false-requires-clause-model
make_false-requires-clause-model g c = harden-model c.args.store.now c.in_ok-begun.begun.query c.in-Model.model c.in_ok-begun.ensures.about (rw c.in-Model.is at c.in_ok-verdict.ensures.right)

pub returns-in_err-changed-in-Model-clause-run : goal.returns-in_err-changed-in-Model-clause-run
returns-in_err-changed-in-Model-clause-run g c = c.make_false.ensures.run

pub returns-in_ok-changed-in-Model-clause-run : goal.returns-in_ok-changed-in-Model-clause-run
returns-in_ok-changed-in-Model-clause-run g c = c.make_false.ensures.run

pub returns-in_ok-changed-in-Model-clause-answer : goal.returns-in_ok-changed-in-Model-clause-answer
returns-in_ok-changed-in-Model-clause-answer g c = harden-found _ c.args.store.now c.make_false.new.store c.in_ok-changed-in-Model.changed c.args.budget c.cost_of-bound.result c.in_ok-changed-in-Model.ensures.change c.in_ok-changed-in-Model.ensures.hardened

pub returns-in_ok-changed-in-Model-clause-bound : goal.returns-in_ok-changed-in-Model-clause-bound
returns-in_ok-changed-in-Model-clause-bound g c = λ u e. harden-bound c.args.store.now c.make_false.new.store c.in-Model.model c.cost_of-bound.result u c.in_ok-begun.begun.costs c.in_ok-begun.ensures.costs (harden-model c.args.store.now c.in_ok-begun.begun.query c.in-Model.model c.in_ok-begun.ensures.about (rw c.in-Model.is at c.in_ok-verdict.ensures.right)) c.cost_of-bound.ensures c.in_ok-changed-in-Model.ensures.fixed e

pub returns-in_err-refute-in-Core-clause-run : goal.returns-in_err-refute-in-Core-clause-run
returns-in_err-refute-in-Core-clause-run g c = untouched-run hardening c.args.store.now c.refute.new.store harden-itself c.in_err-refute-in-Core.ensures.err

pub returns-in_ok-refute-in-Core-clause-run : goal.returns-in_ok-refute-in-Core-clause-run
returns-in_ok-refute-in-Core-clause-run g c = (harden-refuting c.args.store.now c.refute.new.store c.in_ok-begun.begun.query c.in-Core._core c.in_ok-begun.ensures.about c.in_ok-begun.ensures.none (rw c.in-Core.is at c.in_ok-verdict.ensures.right) c.in_ok-refute-in-Core.ensures.ok).run

pub returns-in_ok-refute-in-Core-clause-answer : goal.returns-in_ok-refute-in-Core-clause-answer
returns-in_ok-refute-in-Core-clause-answer g c = harden-refuted _ c.args.store.now c.refute.new.store c.args.budget (harden-refuting c.args.store.now c.refute.new.store c.in_ok-begun.begun.query c.in-Core._core c.in_ok-begun.ensures.about c.in_ok-begun.ensures.none (rw c.in-Core.is at c.in_ok-verdict.ensures.right) c.in_ok-refute-in-Core.ensures.ok) c.in_ok-refute-in-Core.ensures.ok

pub returns-in_ok-refute-in-Core-clause-bound : goal.returns-in_ok-refute-in-Core-clause-bound
returns-in_ok-refute-in-Core-clause-bound g c = λ u e. absurd (cc)

pub returns-in-Unknown-clause-run : goal.returns-in-Unknown-clause-run
returns-in-Unknown-clause-run g c = untouched-run hardening c.args.store.now c.args.store.now harden-itself refl

pub returns-in-Unknown-clause-answer : goal.returns-in-Unknown-clause-answer
returns-in-Unknown-clause-answer g c = harden-spent _ c.args.store.now c.args.budget c.in_ok-begun.begun.query c.in-Unknown.learnt c.vars.ensures.sound c.requires.unrefuted c.in_ok-begun.ensures.about c.in_ok-begun.ensures.given c.in_ok-begun.ensures.none (rw c.in-Unknown.is at c.in_ok-verdict.ensures.given) (rw c.in-Unknown.is at c.in_ok-verdict.ensures.right)

pub returns-in-Unknown-clause-bound : goal.returns-in-Unknown-clause-bound
returns-in-Unknown-clause-bound g c = λ u e. absurd (cc)
