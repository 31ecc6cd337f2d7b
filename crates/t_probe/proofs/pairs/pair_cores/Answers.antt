use Rattle.std.proofs.Common.{◌≡◌, refl, sym, ◌∙◌, ap}
use Rattle.t_probe.specs.PairCores.{pair_core_search}
use Rattle.t_probe.specs.Underway.{literals_of}
use Rattle.t_probe.proofs.Calls.{untouched-run, probing-run}
use Rattle.t_probe.proofs.Rows.{pair-itself, pair-twice, label-now, first-label, behind-now, pairing-start, pairing-more, pairing-end, pairing-spent, pairing-refuted}
use Rattle.t_probe.proofs.pairs.pair_cores.Goals as goal

pub returns-in_err-begun-clause-run : goal.returns-in_err-begun-clause-run
returns-in_err-begun-clause-run g c = untouched-run pair_core_search c.args.store.now c.args.store.now pair-itself refl

pub returns-in_err-labels-clause-run : goal.returns-in_err-labels-clause-run
returns-in_err-labels-clause-run g c = untouched-run pair_core_search c.args.store.now c.args.store.now pair-itself refl

pub labels-init : goal.labels-init
labels-init g c = record {
  pairing = pairing-start c.args.store.now c.as_slice-labels.result.now c.in_ok-begun.begun.query c.args.budget c.new-models.result.items c.requires.unrefuted c.in_ok-begun.ensures.about c.in_ok-begun.ensures.given c.new-models.ensures.items;
  sound = c.vars.ensures.sound;
}

pub ask_row-requires-clause-about : goal.ask_row-requires-clause-about
ask_row-requires-clause-about g c = c.labels.invariant.pairing.about

pub ask_row-requires-clause-first : goal.ask_row-requires-clause-first
ask_row-requires-clause-first g c =
    let e = c.as_slice-labels.ensures.value ∙ (c.in_ok-labels.ensures ∙ ap literals_of c.in_ok-begun.ensures.costs) in
    label-now c.args.store.now c.labels.store c.labels.changed c.label_at-lit.result c.labels.invariant.sound c.labels.invariant.pairing.probing (first-label c.args.store.now c.as_slice-labels.result.now c.label_at-lit.result c.labels.place e c.labels-test.true c.label_at-lit.ensures)

pub ask_row-requires-clause-behind : goal.ask_row-requires-clause-behind
ask_row-requires-clause-behind g c =
    let e = c.as_slice-labels.ensures.value ∙ (c.in_ok-labels.ensures ∙ ap literals_of c.in_ok-begun.ensures.costs) in
    behind-now c.args.store.now c.labels.store c.labels.changed c.as_slice-labels.result.now c.labels_behind-behind.result.now c.label_at-lit.result c.labels.place c.vars.ensures.sound c.labels.invariant.sound c.labels.invariant.pairing.probing e c.labels-test.true c.label_at-lit.ensures c.labels_behind-behind.ensures

pub ask_row-requires-clause-models : goal.ask_row-requires-clause-models
ask_row-requires-clause-models g c = c.labels.invariant.pairing.models_are

pub returns-in_err-row-clause-run : goal.returns-in_err-row-clause-run
returns-in_err-row-clause-run g c = probing-run pair_core_search c.args.store.now c.labels.store c.ask_row.new.store c.labels.changed pair-twice c.labels.invariant.sound c.labels.invariant.pairing.probing c.ask_row.ensures.run

pub returns-in-Some-clause-run : goal.returns-in-Some-clause-run
returns-in-Some-clause-run g c = probing-run pair_core_search c.args.store.now c.labels.store c.ask_row.new.store c.labels.changed pair-twice c.labels.invariant.sound c.labels.invariant.pairing.probing c.ask_row.ensures.run

pub returns-in-Some-clause-answer : goal.returns-in-Some-clause-answer
returns-in-Some-clause-answer g c = rw c.either-changed.ensures (pairing-spent _ c.as_slice-labels.result.now c.labels_behind-behind.result.now c.label_at-lit.result c.labels.place c.args.store.now c.labels.store c.ask_row.new.store c.labels.changed c.labels.query c.ask_row.new.query c.args.budget c.labels.models.items c.ask_row.new.models.items c.in_ok-row.row c.in-Some.learnt c.in-Some.is c.ask_row.ensures.budget c.in_ok-row.ensures.row c.labels.invariant.pairing)

pub returns-then-refuted-clause-run : goal.returns-then-refuted-clause-run
returns-then-refuted-clause-run g c = probing-run pair_core_search c.args.store.now c.labels.store c.ask_row.new.store c.labels.changed pair-twice c.labels.invariant.sound c.labels.invariant.pairing.probing c.ask_row.ensures.run

pub returns-then-refuted-clause-answer : goal.returns-then-refuted-clause-answer
returns-then-refuted-clause-answer g c = rw c.either-changed.ensures (pairing-refuted _ c.as_slice-labels.result.now c.labels_behind-behind.result.now c.label_at-lit.result c.labels.place c.args.store.now c.labels.store c.ask_row.new.store c.labels.changed c.labels.query c.ask_row.new.query c.args.budget c.labels.models.items c.ask_row.new.models.items c.in_ok-row.row c.refuted.ensures.sound (sym c.refuted.ensures.refuted ∙ c.if-refuted.true) c.in_ok-row.ensures.row c.labels.invariant.pairing)

pub labels-preserved : goal.labels-preserved
labels-preserved g c =
    let n = sym c.refuted.ensures.refuted ∙ c.if-refuted.false in
    record {
      pairing = rw c.either-changed.ensures (pairing-more c.as_slice-labels.result.now c.labels_behind-behind.result.now c.label_at-lit.result c.labels.place c.args.store.now c.labels.store c.ask_row.new.store c.labels.changed c.labels.query c.ask_row.new.query c.args.budget c.labels.models.items c.ask_row.new.models.items c.in_ok-row.row _ c.labels.invariant.sound c.refuted.ensures.sound c.labels-test.true c.label_at-lit.ensures c.labels_behind-behind.ensures n c.in_default.is c.ask_row.ensures.run c.in_ok-row.ensures.row c.ask_row.ensures.budget c.labels.invariant.pairing);
      sound = c.refuted.ensures.sound;
    }

pub returns-clause-run : goal.returns-clause-run
returns-clause-run g c = c.labels.invariant.pairing.probing.run

pub returns-clause-answer : goal.returns-clause-answer
returns-clause-answer g c =
    let e = c.as_slice-labels.ensures.value ∙ (c.in_ok-labels.ensures ∙ ap literals_of c.in_ok-begun.ensures.costs) in
    pairing-end _ c.as_slice-labels.result.now c.labels.place c.args.store.now c.labels.store c.labels.changed c.labels.query c.args.budget c.labels.models.items c.labels.invariant.sound e c.labels-test.false c.labels.invariant.pairing
