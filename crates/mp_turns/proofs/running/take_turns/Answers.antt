use Rattle.std.proofs.Common.{◌≡◌, ◌∷◌, false, sym, ◌∙◌, ap}
use Rattle.mp_store.specs.Held.{Held}
use Rattle.mp_turns.specs.Waiting.{all_queued}
use Rattle.mp_turns.specs.Underway.{IsUnderway}
use Rattle.mp_turns.proofs.Pacing.{stays-so-far, stays-turned, run-turned, underway-idle, underway-change, underway-smaller, underway-spent, underway-done, underway-full, underway-refuted}
use Rattle.mp_turns.proofs.running.take_turns.Goals as goal

pub turns-init : goal.turns-init
turns-init g c = record {
  underway = c.requires.underway;
  sound = c.vars.ensures.sound;
  start = c.vars.ensures.sound;
  fits = c.requires.fits;
}

pub returns-then-not-spend-clause-answer : goal.returns-then-not-spend-clause-answer
returns-then-not-spend-clause-answer g c =
    underway-spent g.T.Turn.turning c.args.budget c.turns.left c.args.store.now c.turns.store c.in-Some.item c.pop.new.self c.turns.changed c.requires.sound c.turns.invariant.start (rw c.in-Some.ensures.first at c.turns.invariant.underway) c.turns.invariant.sound (sym c.spend.ensures.taken ∙ c.if-not-spend.true)

pub returns-in_err-did-clause-run : goal.returns-in_err-did-clause-run
returns-in_err-did-clause-run g c = run-turned g.T.Turn.turning c.args.budget c.turns.left c.args.store.now c.turns.store c.turn.new.store c.turns.queue c.turns.changed c.requires.sound c.turns.invariant.sound c.turns.invariant.underway c.turn.ensures.run

pub turns-preserved-in-Idle : goal.turns-preserved-in-Idle
turns-preserved-in-Idle g c =
    let did = rw c.in-Idle.is at c.in_ok-did.ensures.turned in
    let standing : c.turn.new.store.refuted ≡ false = ap (λ (x : Held). x.refuted) did.0 ∙ c.turns.invariant.underway.between.unrefuted in
    record {
      underway = rw c.spend.ensures.left (underway-idle g.T.Turn.turning c.args.budget c.turns.left c.args.store.now c.turns.store c.turn.new.store c.in-Some.item c.pop.new.self c.turns.changed c.requires.sound (rw c.in-Some.ensures.first at c.turns.invariant.underway) c.turns.invariant.sound (sym c.spend.ensures.taken ∙ c.if-not-spend.false) did.0 did.2 c.turn.ensures.stays);
      sound = c.vars-in-Some.ensures.sound;
      start = c.turns.invariant.start;
      fits = c.in_ok-did.ensures.fits standing;
    }

pub returns-then-refuted-clause-run : goal.returns-then-refuted-clause-run
returns-then-refuted-clause-run g c = run-turned g.T.Turn.turning c.args.budget c.turns.left c.args.store.now c.turns.store c.turn.new.store c.turns.queue c.turns.changed c.requires.sound c.turns.invariant.sound c.turns.invariant.underway c.turn.ensures.run

pub returns-then-refuted-clause-answer : goal.returns-then-refuted-clause-answer
returns-then-refuted-clause-answer g c = underway-refuted g.T.Turn.turning c.args.budget c.args.store.now c.turn.new.store c.vars-in-Some.ensures.sound (sym c.refuted.ensures.refuted ∙ c.if-refuted.true)

pub turns-smaller : goal.turns-smaller
turns-smaller g c =
    let did = rw c.in-Changed.is at c.in_ok-did.ensures.turned in
    let standing : c.turn.new.store.refuted ≡ false = sym c.refuted.ensures.refuted ∙ c.if-refuted.false in
    let queue : c.wait.new.queue ≡ all_queued c.pop.new.self c.turn.new.again = rw (← c.items.ensures) c.in_ok-wait.ensures in
    let before : IsUnderway g.T.Turn.turning c.args.budget c.turns.left c.args.store.now c.turns.store (c.in-Some.item ∷ c.pop.new.self) c.turns.changed = rw c.in-Some.ensures.first at c.turns.invariant.underway in
    rw c.in-Some.ensures.first (underway-smaller g.T.Turn.turning c.args.budget c.turns.left c.args.store.now c.turns.store c.turn.new.store c.in-Some.item c.pop.new.self c.turn.new.again c.wait.new.queue c.turns.changed before standing did queue)

pub turns-preserved : goal.turns-preserved
turns-preserved g c =
    let did = rw c.in-Changed.is at c.in_ok-did.ensures.turned in
    let standing : c.turn.new.store.refuted ≡ false = sym c.refuted.ensures.refuted ∙ c.if-refuted.false in
    let queue : c.wait.new.queue ≡ all_queued c.pop.new.self c.turn.new.again = rw (← c.items.ensures) c.in_ok-wait.ensures in
    record {
      underway = rw c.spend.ensures.left (underway-change g.T.Turn.turning c.args.budget c.turns.left c.args.store.now c.turns.store c.turn.new.store c.in-Some.item c.pop.new.self c.turn.new.again c.wait.new.queue c.turns.changed c.requires.sound (rw c.in-Some.ensures.first at c.turns.invariant.underway) c.turns.invariant.sound (sym c.spend.ensures.taken ∙ c.if-not-spend.false) c.turn.ensures.run standing did queue c.turn.ensures.stays);
      sound = c.vars-in-Some.ensures.sound;
      start = c.turns.invariant.start;
      fits = c.in_ok-did.ensures.fits standing;
    }

pub returns-in_err-wait-clause-run : goal.returns-in_err-wait-clause-run
returns-in_err-wait-clause-run g c = run-turned g.T.Turn.turning c.args.budget c.turns.left c.args.store.now c.turns.store c.turn.new.store c.turns.queue c.turns.changed c.requires.sound c.turns.invariant.sound c.turns.invariant.underway c.turn.ensures.run

pub returns-clause-answer : goal.returns-clause-answer
returns-clause-answer g c = underway-done g.T.Turn.turning c.args.budget c.turns.left c.args.store.now c.turns.store c.turns.changed c.requires.sound c.turns.invariant.sound (rw c.in_default.ensures.first.0 at c.turns.invariant.underway)

pub returns-in-NoRoom-clause-run : goal.returns-in-NoRoom-clause-run
returns-in-NoRoom-clause-run g c = run-turned g.T.Turn.turning c.args.budget c.turns.left c.args.store.now c.turns.store c.turn.new.store c.turns.queue c.turns.changed c.requires.sound c.turns.invariant.sound c.turns.invariant.underway c.turn.ensures.run

pub returns-in-NoRoom-clause-answer : goal.returns-in-NoRoom-clause-answer
returns-in-NoRoom-clause-answer g c =
    let did = rw c.in-NoRoom.is at c.in_ok-did.ensures.turned in
    underway-full g.T.Turn.turning c.args.budget c.turns.left c.args.store.now c.turns.store c.turn.new.store c.turns.queue c.turns.changed c.turns.invariant.underway did.0 did.1 did.2

pub returns-in_err-did-clause-stays : goal.returns-in_err-did-clause-stays
returns-in_err-did-clause-stays g c = stays-turned g.T.Turn.turning c.args.budget c.turns.left c.args.store.now c.turns.store c.turn.new.store c.turns.queue c.turns.changed c.requires.sound c.turns.invariant.underway (sym c.spend.ensures.taken ∙ c.if-not-spend.false) c.turn.ensures.stays

pub returns-then-refuted-clause-stays : goal.returns-then-refuted-clause-stays
returns-then-refuted-clause-stays g c = stays-turned g.T.Turn.turning c.args.budget c.turns.left c.args.store.now c.turns.store c.turn.new.store c.turns.queue c.turns.changed c.requires.sound c.turns.invariant.underway (sym c.spend.ensures.taken ∙ c.if-not-spend.false) c.turn.ensures.stays

pub returns-in_err-wait-clause-stays : goal.returns-in_err-wait-clause-stays
returns-in_err-wait-clause-stays g c = stays-turned g.T.Turn.turning c.args.budget c.turns.left c.args.store.now c.turns.store c.turn.new.store c.turns.queue c.turns.changed c.requires.sound c.turns.invariant.underway (sym c.spend.ensures.taken ∙ c.if-not-spend.false) c.turn.ensures.stays

pub returns-in-NoRoom-clause-stays : goal.returns-in-NoRoom-clause-stays
returns-in-NoRoom-clause-stays g c = stays-turned g.T.Turn.turning c.args.budget c.turns.left c.args.store.now c.turns.store c.turn.new.store c.turns.queue c.turns.changed c.requires.sound c.turns.invariant.underway (sym c.spend.ensures.taken ∙ c.if-not-spend.false) c.turn.ensures.stays

pub returns-then-not-spend-clause-stays : goal.returns-then-not-spend-clause-stays
returns-then-not-spend-clause-stays g c = stays-so-far g.T.Turn.turning c.args.budget c.turns.left c.args.store.now c.turns.store c.turns.queue c.turns.changed c.turns.invariant.underway

pub returns-clause-stays : goal.returns-clause-stays
returns-clause-stays g c = stays-so-far g.T.Turn.turning c.args.budget c.turns.left c.args.store.now c.turns.store c.turns.queue c.turns.changed c.turns.invariant.underway
