use Rattle.std.proofs.Common.{◌≡◌, ◌⊎◌, refl, sym, ◌∙◌, subst, Contains}
use Rattle.mp_logic.specs.Literal.{Literal}
use Rattle.mp_logic.specs.Truth.{literal_value}
use Rattle.t_probe.specs.PairCores.{pair_core_search}
use Rattle.t_probe.specs.Underway.{AreAnswered}
use Rattle.t_probe.proofs.Calls.{untouched-run, probing-run, shorter, kept-shorter}
use Rattle.t_probe.proofs.Rows.{pair-itself, pair-twice, label-up, label-now, row-label, row-begin, row-covered, row-added, row-turn-found, row-spent, row-refuted, row-end}
use Rattle.t_probe.proofs.pairs.ask_row.Goals as goal

pub returns-in_err-waiting-clause-run : goal.returns-in_err-waiting-clause-run
returns-in_err-waiting-clause-run g c = untouched-run pair_core_search c.args.store.now c.args.store.now pair-itself refl

pub partners-init : goal.partners-init
partners-init g c = record {
  row = row-begin c.args.store.now c.args.lit c.args.behind.now c.in_ok-waiting.waiting.items c.args.query.now c.args.models.now.items c.requires.unrefuted c.requires.about c.requires.models c.in_ok-waiting.ensures.from (subst (λ ms. (m : Literal) → Contains c.args.behind.now m → Contains c.in_ok-waiting.waiting.items m ⊎ AreAnswered ms c.args.lit m) c.deref.ensures.value c.in_ok-waiting.ensures.others);
  sound = c.vars.ensures.sound;
}

pub is_covered-requires-clause-first : goal.is_covered-requires-clause-first
is_covered-requires-clause-first g c = (label-up c.partners.store c.args.lit c.partners.invariant.sound (label-now c.args.store.now c.partners.store c.partners.changed c.args.lit c.partners.invariant.sound c.partners.invariant.row.probing c.requires.first)).1

pub is_covered-requires-clause-second : goal.is_covered-requires-clause-second
is_covered-requires-clause-second g c = (label-up c.partners.store c.in-Some.other c.partners.invariant.sound (row-label c.args.lit c.in-Some.other c.args.behind.now c.partners.waiting.items c.take_last.new.waiting.items c.args.store.now c.partners.store c.partners.changed c.partners.query c.args.query.now.budget c.partners.models.items c.partners.invariant.sound c.in-Some.ensures c.partners.invariant.row c.requires.behind).0).1

pub partners-smaller-then-is_covered : goal.partners-smaller-then-is_covered
partners-smaller-then-is_covered g c = shorter c.partners.waiting.items c.take_last.new.waiting.items c.in-Some.other c.in-Some.ensures

pub partners-preserved-then-is_covered : goal.partners-preserved-then-is_covered
partners-preserved-then-is_covered g c = record {
  row = row-covered c.args.lit c.in-Some.other c.args.behind.now c.partners.waiting.items c.take_last.new.waiting.items c.args.store.now c.partners.store c.partners.changed c.partners.query c.args.query.now.budget c.partners.models.items c.in-Some.ensures (sym c.is_covered.ensures ∙ c.if-is_covered.true) c.partners.invariant.row;
  sound = c.partners.invariant.sound;
}

pub ask_pair-requires-clause-about : goal.ask_pair-requires-clause-about
ask_pair-requires-clause-about g c = c.partners.invariant.row.about

pub ask_pair-requires-clause-first : goal.ask_pair-requires-clause-first
ask_pair-requires-clause-first g c = label-now c.args.store.now c.partners.store c.partners.changed c.args.lit c.partners.invariant.sound c.partners.invariant.row.probing c.requires.first

pub ask_pair-requires-clause-second : goal.ask_pair-requires-clause-second
ask_pair-requires-clause-second g c = (row-label c.args.lit c.in-Some.other c.args.behind.now c.partners.waiting.items c.take_last.new.waiting.items c.args.store.now c.partners.store c.partners.changed c.partners.query c.args.query.now.budget c.partners.models.items c.partners.invariant.sound c.in-Some.ensures c.partners.invariant.row c.requires.behind).0

pub ask_pair-requires-clause-order : goal.ask_pair-requires-clause-order
ask_pair-requires-clause-order g c = (row-label c.args.lit c.in-Some.other c.args.behind.now c.partners.waiting.items c.take_last.new.waiting.items c.args.store.now c.partners.store c.partners.changed c.partners.query c.args.query.now.budget c.partners.models.items c.partners.invariant.sound c.in-Some.ensures c.partners.invariant.row c.requires.behind).1

pub ask_pair-requires-clause-uncovered : goal.ask_pair-requires-clause-uncovered
ask_pair-requires-clause-uncovered g c = sym c.is_covered.ensures ∙ c.if-is_covered.false

pub returns-in_err-asked-clause-run : goal.returns-in_err-asked-clause-run
returns-in_err-asked-clause-run g c = probing-run pair_core_search c.args.store.now c.partners.store c.ask_pair.new.store c.partners.changed pair-twice c.partners.invariant.sound c.partners.invariant.row.probing c.ask_pair.ensures.run

pub returns-in_err-push-in-Found-clause-run : goal.returns-in_err-push-in-Found-clause-run
returns-in_err-push-in-Found-clause-run g c = probing-run pair_core_search c.args.store.now c.partners.store c.ask_pair.new.store c.partners.changed pair-twice c.partners.invariant.sound c.partners.invariant.row.probing c.ask_pair.ensures.run

pub partners-smaller-in-Continue-branch-3 : goal.partners-smaller-in-Continue-branch-3
partners-smaller-in-Continue-branch-3 g c = kept-shorter c.partners.waiting.items c.take_last.new.waiting.items c.keep_true.new.lits.items c.in-Some.other (literal_value c.in-Found.model) c.in-Some.ensures c.keep_true.ensures

pub partners-preserved-in-Continue-branch-3 : goal.partners-preserved-in-Continue-branch-3
partners-preserved-in-Continue-branch-3 g c =
    let w = row-turn-found c.args.lit c.in-Some.other c.args.behind.now c.partners.waiting.items c.take_last.new.waiting.items c.keep_true.new.lits.items c.args.store.now c.partners.store c.ask_pair.new.store c.partners.changed c.partners.query c.ask_pair.new.query c.args.query.now.budget c.partners.models.items c.in-Found.model c.in-Some.ensures c.ask_pair.ensures.budget c.keep_true.ensures (rw c.in-Found.is at c.in_ok-asked.ensures.turned) c.partners.invariant.sound c.partners.invariant.row in
    rw c.in_ok-push-in-Found.ensures.items (record { row = w.0; sound = w.1 })

pub returns-then-refuted-clause-run : goal.returns-then-refuted-clause-run
returns-then-refuted-clause-run g c = probing-run pair_core_search c.args.store.now c.partners.store c.ask_pair.new.store c.partners.changed pair-twice c.partners.invariant.sound c.partners.invariant.row.probing c.ask_pair.ensures.run

pub returns-then-refuted-clause-row : goal.returns-then-refuted-clause-row
returns-then-refuted-clause-row g c =
    let t = rw c.in-Changed.is at c.in_ok-asked.ensures.turned in
    row-refuted _ c.args.lit c.in-Some.other c.args.behind.now c.partners.waiting.items c.args.store.now c.partners.store c.ask_pair.new.store c.partners.changed c.partners.query c.ask_pair.new.query c.args.query.now.budget c.partners.models.items (sym c.refuted.ensures.refuted ∙ c.if-refuted.true) t.0 c.partners.invariant.row

pub partners-smaller : goal.partners-smaller
partners-smaller g c = shorter c.partners.waiting.items c.take_last.new.waiting.items c.in-Some.other c.in-Some.ensures

pub partners-preserved : goal.partners-preserved
partners-preserved g c =
    let t = rw c.in-Changed.is at c.in_ok-asked.ensures.turned in
    let n = sym c.refuted.ensures.refuted ∙ c.if-refuted.false in
    record {
      row = row-added c.args.lit c.in-Some.other c.args.behind.now c.partners.waiting.items c.take_last.new.waiting.items c.args.store.now c.partners.store c.ask_pair.new.store c.partners.changed c.partners.query c.ask_pair.new.query c.args.query.now.budget c.partners.models.items c.in-Some.ensures c.partners.invariant.sound c.refuted.ensures.sound t.0 n (t.1 n) c.ask_pair.ensures.budget c.partners.invariant.row;
      sound = c.refuted.ensures.sound;
    }

pub returns-in-Unknown-clause-run : goal.returns-in-Unknown-clause-run
returns-in-Unknown-clause-run g c = probing-run pair_core_search c.args.store.now c.partners.store c.ask_pair.new.store c.partners.changed pair-twice c.partners.invariant.sound c.partners.invariant.row.probing c.ask_pair.ensures.run

pub returns-in-Unknown-clause-row : goal.returns-in-Unknown-clause-row
returns-in-Unknown-clause-row g c = row-spent _ c.args.lit c.in-Some.other c.args.behind.now c.partners.waiting.items c.args.store.now c.partners.store c.ask_pair.new.store c.partners.changed c.partners.query c.ask_pair.new.query c.args.query.now.budget c.partners.models.items c.in-Unknown.learnt (rw c.in-Unknown.is at c.in_ok-asked.ensures.turned) c.partners.invariant.row

pub returns-clause-run : goal.returns-clause-run
returns-clause-run g c = c.partners.invariant.row.probing.run

pub returns-clause-row : goal.returns-clause-row
returns-clause-row g c = row-end _ c.args.lit c.args.behind.now c.partners.waiting.items c.args.store.now c.partners.store c.partners.changed c.partners.query c.args.query.now.budget c.partners.models.items c.in_default.ensures c.partners.invariant.row
