use Rattle.std.proofs.Common.{◌≡◌, ◌∷◌, false, refl, sym, ◌∙◌, ap}
use Rattle.mp_store.specs.Held.{Held}
use Rattle.mp_turns.proofs.Pacing.{stays-none, stays-so-far, stays-turned, run-turned, underway-begin, underway-idle, underway-spent, underway-done, underway-refuted}
use Rattle.t_failed.specs.Failed.{probing}
use Rattle.t_failed.specs.Taking.{IsFixed, AreTaken}
use Rattle.t_failed.proofs.FailedTurns.{probing-sound, untouched-run, turned-true, turned-false, fixed-standing}
use Rattle.t_failed.proofs.Taken.{taken-begin, taken-one, taken-same, taken-again, fixed-falls, underway-fixed}
use Rattle.t_failed.proofs.failing.take_each.Goals as goal

pub returns-in_err-queue-clause-run : goal.returns-in_err-queue-clause-run
returns-in_err-queue-clause-run c = untouched-run c.args.store.now c.args.store.now refl

pub returns-in_err-queue-clause-stays : goal.returns-in_err-queue-clause-stays
returns-in_err-queue-clause-stays c = stays-none probing c.args.budget c.args.store.now c.args.store.now probing-sound refl

pub turns-init : goal.turns-init
turns-init c = record {
  underway = underway-begin probing c.args.budget c.args.store.now c.in_ok-queue.queue probing-sound c.vars.ensures.sound c.requires.unrefuted c.in_ok-queue.ensures;
  sound = c.vars.ensures.sound;
  start = c.vars.ensures.sound;
  root = c.requires.root;
  known = c.requires.known;
  taken = taken-begin c.args.store.now c.in_ok-queue.queue c.new-taken.result.items c.vars.ensures.sound c.in_ok-queue.ensures c.new-taken.ensures.items;
}

pub returns-then-not-spend-clause-stays : goal.returns-then-not-spend-clause-stays
returns-then-not-spend-clause-stays c = stays-so-far probing c.args.budget c.turns.left c.args.store.now c.turns.store c.turns.queue c.turns.changed c.turns.invariant.underway

pub returns-then-not-spend-clause-answer : goal.returns-then-not-spend-clause-answer
returns-then-not-spend-clause-answer c =
    underway-spent probing c.args.budget c.turns.left c.args.store.now c.turns.store c.in-Some.item c.pop.new.self c.turns.changed probing-sound c.turns.invariant.start (rw c.in-Some.ensures.first at c.turns.invariant.underway) c.turns.invariant.sound (sym c.spend.ensures.taken ∙ c.if-not-spend.true)

pub returns-in_err-push-clause-stays : goal.returns-in_err-push-clause-stays
returns-in_err-push-clause-stays c = stays-so-far probing c.args.budget c.turns.left c.args.store.now c.turns.store c.turns.queue c.turns.changed c.turns.invariant.underway

pub returns-in_err-fixed-clause-run : goal.returns-in_err-fixed-clause-run
returns-in_err-fixed-clause-run c = run-turned probing c.args.budget c.turns.left c.args.store.now c.turns.store c.take.new.store c.turns.queue c.turns.changed probing-sound c.turns.invariant.sound c.turns.invariant.underway c.take.ensures.run

pub returns-in_err-fixed-clause-stays : goal.returns-in_err-fixed-clause-stays
returns-in_err-fixed-clause-stays c = stays-turned probing c.args.budget c.turns.left c.args.store.now c.turns.store c.take.new.store c.turns.queue c.turns.changed probing-sound c.turns.invariant.underway (sym c.spend.ensures.taken ∙ c.if-not-spend.false) c.take.ensures.stays

pub turns-preserved-then-not-fixed : goal.turns-preserved-then-not-fixed
turns-preserved-then-not-fixed c =
    let did = turned-false c.turns.store c.take.new.store c.in-Some.item _ c.if-not-fixed.true c.in_ok-fixed.ensures.turned in
    let standing : c.take.new.store.refuted ≡ false = ap (λ (x : Held). x.refuted) did.0 ∙ c.turns.invariant.underway.between.unrefuted in
    let before : AreTaken c.args.store.now c.turns.store (c.in-Some.item ∷ c.pop.new.self) c.turns.taken.items = rw c.in-Some.ensures.first at c.turns.invariant.taken in
    record {
      underway = rw c.spend.ensures.left (underway-idle probing c.args.budget c.turns.left c.args.store.now c.turns.store c.take.new.store c.in-Some.item c.pop.new.self c.turns.changed probing-sound (rw c.in-Some.ensures.first at c.turns.invariant.underway) c.turns.invariant.sound (sym c.spend.ensures.taken ∙ c.if-not-spend.false) did.0 did.1 c.take.ensures.stays);
      sound = c.vars-in-Some.ensures.sound;
      start = c.turns.invariant.start;
      root = c.in_ok-fixed.ensures.root standing;
      known = c.in_ok-fixed.ensures.known standing;
      taken = taken-same c.args.store.now c.turns.store c.take.new.store c.pop.new.self c.push.new.self.items did.0 (taken-one c.args.store.now c.turns.store c.in-Some.item c.pop.new.self c.turns.taken.items c.push.new.self.items c.in_ok-push.ensures.items before);
    }

pub returns-then-refuted-clause-run : goal.returns-then-refuted-clause-run
returns-then-refuted-clause-run c = run-turned probing c.args.budget c.turns.left c.args.store.now c.turns.store c.take.new.store c.turns.queue c.turns.changed probing-sound c.turns.invariant.sound c.turns.invariant.underway c.take.ensures.run

pub returns-then-refuted-clause-stays : goal.returns-then-refuted-clause-stays
returns-then-refuted-clause-stays c = stays-turned probing c.args.budget c.turns.left c.args.store.now c.turns.store c.take.new.store c.turns.queue c.turns.changed probing-sound c.turns.invariant.underway (sym c.spend.ensures.taken ∙ c.if-not-spend.false) c.take.ensures.stays

pub returns-then-refuted-clause-answer : goal.returns-then-refuted-clause-answer
returns-then-refuted-clause-answer c = underway-refuted probing c.args.budget c.args.store.now c.take.new.store c.vars-in-Some.ensures.sound (sym c.refuted.ensures.refuted ∙ c.if-refuted.true)

pub turns-smaller : goal.turns-smaller
turns-smaller c =
    let standing : c.take.new.store.refuted ≡ false = sym c.refuted.ensures.refuted ∙ c.if-refuted.false in
    let fix : IsFixed c.turns.store c.take.new.store = fixed-standing c.turns.store c.take.new.store standing (turned-true c.turns.store c.take.new.store c.in-Some.item _ c.if-not-fixed.false c.in_ok-fixed.ensures.turned) in
    let before : AreTaken c.args.store.now c.turns.store (c.in-Some.item ∷ c.pop.new.self) c.turns.taken.items = rw c.in-Some.ensures.first at c.turns.invariant.taken in
    let one = taken-one c.args.store.now c.turns.store c.in-Some.item c.pop.new.self c.turns.taken.items c.push.new.self.items c.in_ok-push.ensures.items before in
    let now : AreTaken c.args.store.now c.take.new.store c.wait_again.new.queue c.wait_again.new.taken.items = taken-again c.args.store.now c.turns.store c.take.new.store c.pop.new.self c.push.new.self.items c.wait_again.new.queue c.wait_again.new.taken.items fix one c.in_ok-wait_again.ensures.waits c.in_ok-wait_again.ensures.again c.in_ok-wait_again.ensures.few in
    rw c.in-Some.ensures.first (fixed-falls c.args.store.now c.turns.store c.take.new.store c.in-Some.item c.pop.new.self c.wait_again.new.queue c.wait_again.new.taken.items fix now)

pub turns-preserved : goal.turns-preserved
turns-preserved c =
    let standing : c.take.new.store.refuted ≡ false = sym c.refuted.ensures.refuted ∙ c.if-refuted.false in
    let fix : IsFixed c.turns.store c.take.new.store = fixed-standing c.turns.store c.take.new.store standing (turned-true c.turns.store c.take.new.store c.in-Some.item _ c.if-not-fixed.false c.in_ok-fixed.ensures.turned) in
    let before : AreTaken c.args.store.now c.turns.store (c.in-Some.item ∷ c.pop.new.self) c.turns.taken.items = rw c.in-Some.ensures.first at c.turns.invariant.taken in
    let one = taken-one c.args.store.now c.turns.store c.in-Some.item c.pop.new.self c.turns.taken.items c.push.new.self.items c.in_ok-push.ensures.items before in
    let now : AreTaken c.args.store.now c.take.new.store c.wait_again.new.queue c.wait_again.new.taken.items = taken-again c.args.store.now c.turns.store c.take.new.store c.pop.new.self c.push.new.self.items c.wait_again.new.queue c.wait_again.new.taken.items fix one c.in_ok-wait_again.ensures.waits c.in_ok-wait_again.ensures.again c.in_ok-wait_again.ensures.few in
    record {
      underway = rw c.spend.ensures.left (underway-fixed c.args.budget c.turns.left c.args.store.now c.turns.store c.take.new.store c.in-Some.item c.pop.new.self c.wait_again.new.queue c.wait_again.new.taken.items c.turns.changed (rw c.in-Some.ensures.first at c.turns.invariant.underway) c.turns.invariant.sound (sym c.spend.ensures.taken ∙ c.if-not-spend.false) c.take.ensures.run standing fix c.in_ok-wait_again.ensures.none now c.take.ensures.stays);
      sound = c.vars-in-Some.ensures.sound;
      start = c.turns.invariant.start;
      root = c.in_ok-fixed.ensures.root standing;
      known = c.in_ok-fixed.ensures.known standing;
      taken = now;
    }

pub returns-in_err-wait_again-clause-run : goal.returns-in_err-wait_again-clause-run
returns-in_err-wait_again-clause-run c = run-turned probing c.args.budget c.turns.left c.args.store.now c.turns.store c.take.new.store c.turns.queue c.turns.changed probing-sound c.turns.invariant.sound c.turns.invariant.underway c.take.ensures.run

pub returns-in_err-wait_again-clause-stays : goal.returns-in_err-wait_again-clause-stays
returns-in_err-wait_again-clause-stays c = stays-turned probing c.args.budget c.turns.left c.args.store.now c.turns.store c.take.new.store c.turns.queue c.turns.changed probing-sound c.turns.invariant.underway (sym c.spend.ensures.taken ∙ c.if-not-spend.false) c.take.ensures.stays

pub returns-clause-stays : goal.returns-clause-stays
returns-clause-stays c = stays-so-far probing c.args.budget c.turns.left c.args.store.now c.turns.store c.turns.queue c.turns.changed c.turns.invariant.underway

pub returns-clause-answer : goal.returns-clause-answer
returns-clause-answer c = underway-done probing c.args.budget c.turns.left c.args.store.now c.turns.store c.turns.changed probing-sound c.turns.invariant.sound (rw c.in_default.ensures.first.0 at c.turns.invariant.underway)
