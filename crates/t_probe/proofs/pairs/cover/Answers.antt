use Rattle.std.proofs.Common.{refl, sym, ◌∙◌}
use Rattle.std.proofs.lemmas.Bool.{true≢false}
use Rattle.t_probe.specs.PairCores.{pair_core_search}
use Rattle.t_probe.proofs.Steps.{pair-refuting, pairing-step}
use Rattle.t_probe.proofs.Calls.{untouched-run, empty-core}
use Rattle.t_probe.proofs.Rows.{pair-itself, label-up, pair-normal, pair-within, about-pair}
use Rattle.t_probe.proofs.pairs.cover.Goals as goal

pub returns-in_err-refute-clause-run : goal.returns-in_err-refute-clause-run
returns-in_err-refute-clause-run c = untouched-run pair_core_search c.args.store.now c.refute.new.store pair-itself c.in_err-refute.ensures.err

pub returns-then-is_empty-clause-run : goal.returns-then-is_empty-clause-run
returns-then-is_empty-clause-run c = (pair-refuting c.args.lit c.args.other c.args.store.now c.refute.new.store (c.requires.core (empty-core c.items.result.now c.args.core.now c.is_empty.result c.items.ensures c.is_empty.ensures c.if-is_empty.true)) c.in_ok-refute.ensures.ok).0.step.run

pub returns-then-is_empty-clause-step : goal.returns-then-is_empty-clause-step
returns-then-is_empty-clause-step c = (pair-refuting c.args.lit c.args.other c.args.store.now c.refute.new.store (c.requires.core (empty-core c.items.result.now c.args.core.now c.is_empty.result c.items.ensures c.is_empty.ensures c.if-is_empty.true)) c.in_ok-refute.ensures.ok).0

pub returns-then-is_empty-clause-about : goal.returns-then-is_empty-clause-about
returns-then-is_empty-clause-about c = λ n. absurd (true≢false (sym (pair-refuting c.args.lit c.args.other c.args.store.now c.refute.new.store (c.requires.core (empty-core c.items.result.now c.args.core.now c.is_empty.result c.items.ensures c.is_empty.ensures c.if-is_empty.true)) c.in_ok-refute.ensures.ok).1 ∙ n))

pub returns-in_err-pair-clause-run : goal.returns-in_err-pair-clause-run
returns-in_err-pair-clause-run c = untouched-run pair_core_search c.args.store.now c.args.store.now pair-itself refl

pub returns-in_err-copy-clause-run : goal.returns-in_err-copy-clause-run
returns-in_err-copy-clause-run c = untouched-run pair_core_search c.args.store.now c.args.store.now pair-itself refl

pub add-requires-clause-normal : goal.add-requires-clause-normal
add-requires-clause-normal c = rw c.in_ok-pair.ensures (pair-normal c.args.lit c.args.other (label-up c.args.store.now c.args.lit c.vars.ensures.sound c.requires.first).0 c.requires.order)

pub add-requires-clause-within : goal.add-requires-clause-within
add-requires-clause-within c = rw c.in_ok-pair.ensures (pair-within c.args.store.now c.args.lit c.args.other (label-up c.args.store.now c.args.lit c.vars.ensures.sound c.requires.first) (label-up c.args.store.now c.args.other c.vars.ensures.sound c.requires.second))

pub returns-in_err-add-clause-run : goal.returns-in_err-add-clause-run
returns-in_err-add-clause-run c = untouched-run pair_core_search c.args.store.now c.add.new.store pair-itself c.in_err-add.ensures.err

pub returns-in_err-push-clause-run : goal.returns-in_err-push-clause-run
returns-in_err-push-clause-run c = (pairing-step c.args.lit c.args.other c.args.store.now c.add.new.store c.requires.unrefuted c.requires.first c.requires.second c.requires.order c.requires.uncovered c.requires.implied (rw c.in_ok-pair.ensures at c.in_ok-add.ensures.ok)).0.step.run

pub returns-clause-run : goal.returns-clause-run
returns-clause-run c = (pairing-step c.args.lit c.args.other c.args.store.now c.add.new.store c.requires.unrefuted c.requires.first c.requires.second c.requires.order c.requires.uncovered c.requires.implied (rw c.in_ok-pair.ensures at c.in_ok-add.ensures.ok)).0.step.run

pub returns-clause-step : goal.returns-clause-step
returns-clause-step c = (pairing-step c.args.lit c.args.other c.args.store.now c.add.new.store c.requires.unrefuted c.requires.first c.requires.second c.requires.order c.requires.uncovered c.requires.implied (rw c.in_ok-pair.ensures at c.in_ok-add.ensures.ok)).0

pub returns-clause-about : goal.returns-clause-about
returns-clause-about c =
    let p = pairing-step c.args.lit c.args.other c.args.store.now c.add.new.store c.requires.unrefuted c.requires.first c.requires.second c.requires.order c.requires.uncovered c.requires.implied (rw c.in_ok-pair.ensures at c.in_ok-add.ensures.ok) in
    λ n. about-pair c.args.store.now c.add.new.store c.args.query.now _ _ _ c.requires.about p.2 p.1 refl c.in_ok-push.ensures.ok (c.in_ok-copy.ensures ∙ c.in_ok-pair.ensures)
