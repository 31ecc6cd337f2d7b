use Rattle.std.proofs.Common.{◌≡◌, ◌∷◌, ◌∙◌, sym, refl}
use Rattle.mp_clauses.specs.Places.{literal_at}
use Rattle.mp_turns.specs.Waiting.{all_queued}
use Rattle.t_matching.specs.Cores.{AreCore, IsCoreOf, LeavesVariables, labels_left}
use Rattle.t_matching.proofs.LabelPlaces.{queue-whole}
use Rattle.t_matching.proofs.PairTurns.{ArePairsUnderway, pairs-begin, pairs-idle, pairs-change, pairs-smaller, pairs-spent, pairs-done, pairs-run}
use Rattle.t_matching.proofs.CoreTurns.{core-leaving, core-pairs, turn-same, either-step, core-few, core-covers}
use Rattle.t_matching.proofs.cores.binary_cores.Goals as goal

pub returns-in_err-queue-clause-run : goal.returns-in_err-queue-clause-run
returns-in_err-queue-clause-run c = turn-same c.args.store.now c.args.store.now refl

pub turns-init : goal.turns-init
turns-init c = record {
  underway = pairs-begin AreCore LeavesVariables c.args.budget c.args.store.now c.in_ok-queue.queue core-pairs core-leaving c.requires (queue-whole c.args.store.now c.in_ok-queue.queue c.in_ok-queue.ensures);
  sound = c.vars.ensures.sound;
}

pub returns-then-not-spend-clause-answer : goal.returns-then-not-spend-clause-answer
returns-then-not-spend-clause-answer c = pairs-spent AreCore LeavesVariables c.args.budget c.turns.left c.args.store.now c.turns.store c.in-Some.item c.pop.new.self c.turns.changed (rw c.in-Some.ensures.first at c.turns.invariant.underway) c.turns.invariant.sound (sym c.spend.ensures.taken ∙ c.if-not-spend.true)

pub returns-in_err-did-clause-run : goal.returns-in_err-did-clause-run
returns-in_err-did-clause-run c = pairs-run AreCore LeavesVariables c.args.budget c.turns.left c.args.store.now c.turns.store c.core_turn.new.store c.turns.queue c.turns.changed core-leaving c.turns.invariant.sound c.turns.invariant.underway c.core_turn.ensures.run

pub turns-preserved-then-not-did : goal.turns-preserved-then-not-did
turns-preserved-then-not-did c =
    let did = rw c.if-not-did.true at c.in_ok-did.ensures.turned in
    record {
      underway = rw c.spend.ensures.left (pairs-idle AreCore LeavesVariables c.args.budget c.turns.left c.args.store.now c.turns.store c.core_turn.new.store c.in-Some.item c.pop.new.self c.turns.changed core-pairs core-leaving (rw c.in-Some.ensures.first at c.turns.invariant.underway) c.turns.invariant.sound (sym c.spend.ensures.taken ∙ c.if-not-spend.false) did.0 did.1);
      sound = c.vars-in-Some.ensures.sound;
    }

pub turns-smaller : goal.turns-smaller
turns-smaller c =
    let did : IsCoreOf (literal_at c.in-Some.item) c.core_turn.new.near.items c.turns.store c.core_turn.new.store = rw c.if-not-did.false at c.in_ok-did.ensures.turned in
    let step = either-step (literal_at c.in-Some.item) c.core_turn.new.near.items c.turns.store c.core_turn.new.store did in
    let queue : c.queue_again.new.queue ≡ all_queued c.pop.new.self (labels_left c.core_turn.new.store.weights c.core_turn.new.near.items) = rw c.deref.ensures.value at c.in_ok-queue_again.ensures in
    let before : ArePairsUnderway AreCore LeavesVariables c.args.budget c.turns.left c.args.store.now c.turns.store (c.in-Some.item ∷ c.pop.new.self) c.turns.changed = rw c.in-Some.ensures.first at c.turns.invariant.underway in
    rw c.in-Some.ensures.first (pairs-smaller AreCore LeavesVariables c.args.budget c.turns.left c.args.store.now c.turns.store c.core_turn.new.store c.in-Some.item c.pop.new.self c.queue_again.new.queue c.turns.changed before step.size
    (core-few (literal_at c.in-Some.item) c.core_turn.new.near.items c.pop.new.self c.queue_again.new.queue c.turns.store c.core_turn.new.store did queue))

pub turns-preserved : goal.turns-preserved
turns-preserved c =
    let did : IsCoreOf (literal_at c.in-Some.item) c.core_turn.new.near.items c.turns.store c.core_turn.new.store = rw c.if-not-did.false at c.in_ok-did.ensures.turned in
    let step = either-step (literal_at c.in-Some.item) c.core_turn.new.near.items c.turns.store c.core_turn.new.store did in
    let queue : c.queue_again.new.queue ≡ all_queued c.pop.new.self (labels_left c.core_turn.new.store.weights c.core_turn.new.near.items) = rw c.deref.ensures.value at c.in_ok-queue_again.ensures in
    let before : ArePairsUnderway AreCore LeavesVariables c.args.budget c.turns.left c.args.store.now c.turns.store (c.in-Some.item ∷ c.pop.new.self) c.turns.changed = rw c.in-Some.ensures.first at c.turns.invariant.underway in
    record {
      underway = rw c.spend.ensures.left (pairs-change AreCore LeavesVariables c.args.budget c.turns.left c.args.store.now c.turns.store c.core_turn.new.store c.in-Some.item c.pop.new.self c.queue_again.new.queue c.turns.changed core-leaving before c.turns.invariant.sound (sym c.spend.ensures.taken ∙ c.if-not-spend.false) step.run step.standing step.smaller step.size
          (core-few (literal_at c.in-Some.item) c.core_turn.new.near.items c.pop.new.self c.queue_again.new.queue c.turns.store c.core_turn.new.store did queue)
          (core-covers c.in-Some.item c.core_turn.new.near.items c.pop.new.self c.queue_again.new.queue c.turns.store c.core_turn.new.store did queue before.covers));
      sound = c.vars-in-Some.ensures.sound;
    }

pub returns-in_err-queue_again-clause-run : goal.returns-in_err-queue_again-clause-run
returns-in_err-queue_again-clause-run c = pairs-run AreCore LeavesVariables c.args.budget c.turns.left c.args.store.now c.turns.store c.core_turn.new.store c.turns.queue c.turns.changed core-leaving c.turns.invariant.sound c.turns.invariant.underway c.core_turn.ensures.run

pub returns-clause-answer : goal.returns-clause-answer
returns-clause-answer c = pairs-done AreCore LeavesVariables c.args.budget c.turns.left c.args.store.now c.turns.store c.turns.changed (rw c.in_default.ensures.first.0 at c.turns.invariant.underway)
