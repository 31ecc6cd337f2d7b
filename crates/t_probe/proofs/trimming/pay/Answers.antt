use Rattle.std.proofs.Common.{refl, sym, ◌∙◌}
use Rattle.std.proofs.lemmas.Bool.{true≢false}
use Rattle.t_probe.specs.Trimming.{trimming}
use Rattle.t_probe.proofs.Steps.{trim-refuting, paying-step, paying-vars}
use Rattle.t_probe.proofs.Calls.{untouched-run, trim-itself, label-within, empty-core, about-paid}
use Rattle.t_probe.proofs.trimming.pay.Goals as goal

pub fix-requires-clause-within : goal.fix-requires-clause-within
fix-requires-clause-within c = label-within c.args.store.now c.args.lit c.vars.ensures.sound c.requires.label

pub returns-in_err-refute-clause-run : goal.returns-in_err-refute-clause-run
returns-in_err-refute-clause-run c = untouched-run trimming c.args.store.now c.refute.new.store trim-itself c.in_err-refute.ensures.err

pub returns-then-is_empty-clause-run : goal.returns-then-is_empty-clause-run
returns-then-is_empty-clause-run c = (trim-refuting c.args.lit c.args.store.now c.refute.new.store (c.requires.core (empty-core c.items.result.now c.args.core.now c.is_empty.result c.items.ensures c.is_empty.ensures c.if-is_empty.true)) c.in_ok-refute.ensures.ok).0.step.run

pub returns-then-is_empty-clause-step : goal.returns-then-is_empty-clause-step
returns-then-is_empty-clause-step c = (trim-refuting c.args.lit c.args.store.now c.refute.new.store (c.requires.core (empty-core c.items.result.now c.args.core.now c.is_empty.result c.items.ensures c.is_empty.ensures c.if-is_empty.true)) c.in_ok-refute.ensures.ok).0

pub returns-then-is_empty-clause-about : goal.returns-then-is_empty-clause-about
returns-then-is_empty-clause-about c = λ n. absurd (true≢false (sym (trim-refuting c.args.lit c.args.store.now c.refute.new.store (c.requires.core (empty-core c.items.result.now c.args.core.now c.is_empty.result c.items.ensures c.is_empty.ensures c.if-is_empty.true)) c.in_ok-refute.ensures.ok).1 ∙ n))

pub returns-in_err-fix-clause-run : goal.returns-in_err-fix-clause-run
returns-in_err-fix-clause-run c = untouched-run trimming c.args.store.now c.fix.new.store trim-itself c.in_err-fix.ensures.err

pub returns-in_err-hard-clause-run : goal.returns-in_err-hard-clause-run
returns-in_err-hard-clause-run c = (paying-step c.args.lit c.args.store.now c.fix.new.store c.vars.ensures.sound (label-within c.args.store.now c.args.lit c.vars.ensures.sound c.requires.label) c.requires.label c.requires.implied c.in_ok-fix.ensures.ok).step.run

pub returns-clause-run : goal.returns-clause-run
returns-clause-run c = (paying-step c.args.lit c.args.store.now c.fix.new.store c.vars.ensures.sound (label-within c.args.store.now c.args.lit c.vars.ensures.sound c.requires.label) c.requires.label c.requires.implied c.in_ok-fix.ensures.ok).step.run

pub returns-clause-step : goal.returns-clause-step
returns-clause-step c = paying-step c.args.lit c.args.store.now c.fix.new.store c.vars.ensures.sound (label-within c.args.store.now c.args.lit c.vars.ensures.sound c.requires.label) c.requires.label c.requires.implied c.in_ok-fix.ensures.ok

pub returns-clause-about : goal.returns-clause-about
returns-clause-about c = λ n. about-paid c.args.store.now c.fix.new.store c.args.query.now _ c.requires.about (paying-vars c.args.lit c.args.store.now c.fix.new.store c.in_ok-fix.ensures.ok n) refl c.in_ok-hard.ensures
