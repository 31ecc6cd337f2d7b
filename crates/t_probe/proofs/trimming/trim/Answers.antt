use Rattle.std.proofs.Common.{refl, sym, ◌∙◌}
use Rattle.t_probe.specs.Trimming.{trimming}
use Rattle.mp_logic.specs.Truth.{literal_value}
use Rattle.t_probe.proofs.Calls.{untouched-run, trim-itself, trim-twice, probing-run, trimming-start, trimming-skip, trimming-paid, turn-found, turn-spent, turn-refuted, trimming-end, shorter, kept-shorter}
use Rattle.t_probe.proofs.trimming.trim.Goals as goal

pub returns-in_err-begun-clause-run : goal.returns-in_err-begun-clause-run
returns-in_err-begun-clause-run g c = untouched-run trimming c.args.store.now c.args.store.now trim-itself refl

pub returns-in_err-labels-clause-run : goal.returns-in_err-labels-clause-run
returns-in_err-labels-clause-run g c = untouched-run trimming c.args.store.now c.args.store.now trim-itself refl

pub returns-in_err-waiting-clause-run : goal.returns-in_err-waiting-clause-run
returns-in_err-waiting-clause-run g c = untouched-run trimming c.args.store.now c.args.store.now trim-itself refl

pub labels-init : goal.labels-init
labels-init g c = record {
  trimming = trimming-start c.args.store.now c.in_ok-begun.begun.query c.args.budget c.in_ok-begun.begun.costs c.in_ok-labels.labels.items c.deref.result.now c.in_ok-waiting.waiting.items c.requires.unrefuted c.in_ok-begun.ensures.about c.in_ok-begun.ensures.given c.in_ok-begun.ensures.costs c.in_ok-labels.ensures c.deref.ensures.value c.in_ok-waiting.ensures.all;
  sound = c.vars.ensures.sound;
}

pub labels-smaller-then-not-is_label : goal.labels-smaller-then-not-is_label
labels-smaller-then-not-is_label g c = shorter c.labels.waiting.items c.take_last.new.waiting.items c.in-Some.lit c.in-Some.ensures

pub labels-preserved-then-not-is_label : goal.labels-preserved-then-not-is_label
labels-preserved-then-not-is_label g c = record {
  trimming = trimming-skip c.args.store.now c.labels.store c.labels.changed c.labels.query c.args.budget c.labels.waiting.items c.take_last.new.waiting.items c.in-Some.lit c.in-Some.ensures (rw c.if-not-is_label.true at c.is_label.ensures) c.labels.invariant.trimming;
  sound = c.labels.invariant.sound;
}

pub returns-in_err-asked-clause-run : goal.returns-in_err-asked-clause-run
returns-in_err-asked-clause-run g c = probing-run trimming c.args.store.now c.labels.store c.trim_label.new.store c.labels.changed trim-twice c.labels.invariant.sound c.labels.invariant.trimming.probing c.trim_label.ensures.run

pub labels-smaller-in-Found : goal.labels-smaller-in-Found
labels-smaller-in-Found g c = kept-shorter c.labels.waiting.items c.take_last.new.waiting.items c.keep_true.new.lits.items c.in-Some.lit (literal_value c.in-Found.model) c.in-Some.ensures c.keep_true.ensures

pub labels-preserved-in-Found : goal.labels-preserved-in-Found
labels-preserved-in-Found g c =
    let w = turn-found c.args.store.now c.labels.store c.trim_label.new.store c.labels.changed c.labels.query c.trim_label.new.query c.args.budget c.labels.waiting.items c.take_last.new.waiting.items c.keep_true.new.lits.items c.in-Some.lit c.in-Found.model c.in-Some.ensures c.trim_label.ensures.budget c.keep_true.ensures (rw c.in-Found.is at c.in_ok-asked.ensures.turned) c.labels.invariant.sound c.labels.invariant.trimming in
    record { trimming = w.0; sound = w.1 }

pub returns-then-refuted-clause-run : goal.returns-then-refuted-clause-run
returns-then-refuted-clause-run g c = probing-run trimming c.args.store.now c.labels.store c.trim_label.new.store c.labels.changed trim-twice c.labels.invariant.sound c.labels.invariant.trimming.probing c.trim_label.ensures.run

pub returns-then-refuted-clause-answer : goal.returns-then-refuted-clause-answer
returns-then-refuted-clause-answer g c =
    let t = rw c.in-Changed.is at c.in_ok-asked.ensures.turned in
    turn-refuted trimming _ c.args.store.now c.labels.store c.trim_label.new.store c.labels.changed c.args.budget c.refuted.ensures.sound (sym c.refuted.ensures.refuted ∙ c.if-refuted.true) c.labels.invariant.trimming.probing t.0.step

pub labels-smaller : goal.labels-smaller
labels-smaller g c = shorter c.labels.waiting.items c.take_last.new.waiting.items c.in-Some.lit c.in-Some.ensures

pub labels-preserved : goal.labels-preserved
labels-preserved g c =
    let t = rw c.in-Changed.is at c.in_ok-asked.ensures.turned in
    let n = sym c.refuted.ensures.refuted ∙ c.if-refuted.false in
    record {
      trimming = trimming-paid c.args.store.now c.labels.store c.trim_label.new.store c.labels.changed c.labels.query c.trim_label.new.query c.args.budget c.labels.waiting.items c.take_last.new.waiting.items c.in-Some.lit c.in-Some.ensures c.labels.invariant.sound c.refuted.ensures.sound t.0 n (t.1 n) c.trim_label.ensures.budget c.labels.invariant.trimming;
      sound = c.refuted.ensures.sound;
    }

pub returns-in-Unknown-clause-run : goal.returns-in-Unknown-clause-run
returns-in-Unknown-clause-run g c = probing-run trimming c.args.store.now c.labels.store c.trim_label.new.store c.labels.changed trim-twice c.labels.invariant.sound c.labels.invariant.trimming.probing c.trim_label.ensures.run

pub returns-in-Unknown-clause-answer : goal.returns-in-Unknown-clause-answer
returns-in-Unknown-clause-answer g c = turn-spent _ c.args.store.now c.labels.store c.trim_label.new.store c.labels.changed c.labels.query c.trim_label.new.query c.args.budget c.labels.waiting.items c.in-Some.lit c.in-Unknown.learnt c.trim_label.ensures.budget (rw c.in-Unknown.is at c.in_ok-asked.ensures.turned) c.labels.invariant.trimming

pub returns-clause-run : goal.returns-clause-run
returns-clause-run g c = c.labels.invariant.trimming.probing.run

pub returns-clause-answer : goal.returns-clause-answer
returns-clause-answer g c = trimming-end _ c.args.store.now c.labels.store c.labels.changed c.labels.query c.args.budget c.labels.waiting.items c.in_default.ensures c.labels.invariant.trimming
