use Rattle.std.proofs.Common.{◌≡◌, refl, subst}
use Rattle.mp_logic.specs.Literal.{Literal, negation}
use Rattle.mp_clauses.specs.Slots.{live_clauses}
use Rattle.mp_turns.proofs.Pacing.{run-itself}
use Rattle.t_labels.specs.Groups.{group_covering}
use Rattle.t_labels.specs.Grouping.{IsTested}
use Rattle.t_labels.specs.Lowering.{AreWith}
use Rattle.t_labels.proofs.Lowered.{lowered-run, lowered-repairs, untouched-run, untouched-repairs, with-within}
use Rattle.t_labels.proofs.GroupRounds.{group-sound, group-idle, group-turned, tested-bends}
use Rattle.t_labels.proofs.groups.GroupCoveringTurn.turn.Goals as goal

pub returns-in_default-clause-run : goal.returns-in_default-clause-run
returns-in_default-clause-run c = run-itself group_covering c.args.store.now group-sound

pub returns-in_err-covered-clause-run : goal.returns-in_err-covered-clause-run
returns-in_err-covered-clause-run c = run-itself group_covering c.args.store.now group-sound

pub returns-then-not-covered-clause-run : goal.returns-then-not-covered-clause-run
returns-then-not-covered-clause-run c = run-itself group_covering c.args.store.now group-sound

pub returns-then-not-covered-clause-turned : goal.returns-then-not-covered-clause-turned
returns-then-not-covered-clause-turned c = (refl, c.requires.empty, group-idle c.args.store.now c.in-Some.lit c.args.item c.in-Some.ensures.0 (subst (IsTested c.args.store.now c.in-Some.lit) c.if-not-covered.true c.in_ok-covered.ensures))

pub returns-in_err-find_with-clause-run : goal.returns-in_err-find_with-clause-run
returns-in_err-find_with-clause-run c = run-itself group_covering c.args.store.now group-sound

pub returns-in_err-find_with-2-clause-run : goal.returns-in_err-find_with-2-clause-run
returns-in_err-find_with-2-clause-run c = run-itself group_covering c.args.store.now group-sound

pub returns-in_err-make_false-clause-run : goal.returns-in_err-make_false-clause-run
returns-in_err-make_false-clause-run c = untouched-run c.args.store.now c.make_false.new.store c.in_err-make_false.ensures.err

pub find_near-requires : goal.find_near-requires
find_near-requires c = with-within c.args.store.now c.make_false.new.store c.in-Some.lit c.negated.result c.find_with.new.found c.items.result.now c.vars.ensures.sound c.in_ok-make_false.ensures.ok c.in_ok-find_with.ensures c.items.ensures

pub returns-in_err-find_near-clause-run : goal.returns-in_err-find_near-clause-run
returns-in_err-find_near-clause-run c =
    let tested = subst (IsTested c.args.store.now c.in-Some.lit) c.if-not-covered.false c.in_ok-covered.ensures in
    lowered-run c.args.store.now c.make_false.new.store c.in-Some.lit c.vars.ensures.sound c.in-Some.ensures.1 (tested-bends c.args.store.now c.in-Some.lit c.vars.ensures.sound c.in-Some.ensures.1 tested) c.in_ok-make_false.ensures.ok

pub returns-in_err-queue_again-clause-run : goal.returns-in_err-queue_again-clause-run
returns-in_err-queue_again-clause-run c =
    let tested = subst (IsTested c.args.store.now c.in-Some.lit) c.if-not-covered.false c.in_ok-covered.ensures in
    lowered-run c.args.store.now c.make_false.new.store c.in-Some.lit c.vars.ensures.sound c.in-Some.ensures.1 (tested-bends c.args.store.now c.in-Some.lit c.vars.ensures.sound c.in-Some.ensures.1 tested) c.in_ok-make_false.ensures.ok

pub returns-clause-run : goal.returns-clause-run
returns-clause-run c =
    let tested = subst (IsTested c.args.store.now c.in-Some.lit) c.if-not-covered.false c.in_ok-covered.ensures in
    lowered-run c.args.store.now c.make_false.new.store c.in-Some.lit c.vars.ensures.sound c.in-Some.ensures.1 (tested-bends c.args.store.now c.in-Some.lit c.vars.ensures.sound c.in-Some.ensures.1 tested) c.in_ok-make_false.ensures.ok

pub returns-clause-turned : goal.returns-clause-turned
returns-clause-turned c =
    let beside : AreWith (negation c.in-Some.lit) (live_clauses c.args.store.now.slots) c.find_with.new.found = subst (λ (m : Literal). AreWith m (live_clauses c.args.store.now.slots) c.find_with.new.found) c.negated.ensures c.in_ok-find_with.ensures in
    let put : c.queue_again.new.again ≡ c.find_near.new.near.items = rw (c.requires.empty, c.deref.ensures.value) at c.in_ok-queue_again.ensures in
    group-turned c.args.store.now c.make_false.new.store c.in-Some.lit c.args.item c.find_with.new.found c.find_with-2.new.found c.find_near.new.near.items c.queue_again.new.again c.vars.ensures.sound c.in-Some.ensures.1 c.in-Some.ensures.0 c.in_ok-make_false.ensures.ok beside c.in_ok-find_with-2.ensures
    (rw (c.items.ensures, c.items-2.ensures) at c.in_ok-find_near.ensures) put

pub returns-in_err-make_false-clause-stays : goal.returns-in_err-make_false-clause-stays
returns-in_err-make_false-clause-stays c = untouched-repairs c.args.store.now c.make_false.new.store c.in_err-make_false.ensures.err

pub returns-in_err-find_near-clause-stays : goal.returns-in_err-find_near-clause-stays
returns-in_err-find_near-clause-stays c = lowered-repairs c.args.store.now c.make_false.new.store c.in-Some.lit c.in_ok-make_false.ensures.ok

pub returns-in_err-queue_again-clause-stays : goal.returns-in_err-queue_again-clause-stays
returns-in_err-queue_again-clause-stays c = lowered-repairs c.args.store.now c.make_false.new.store c.in-Some.lit c.in_ok-make_false.ensures.ok

pub returns-clause-stays : goal.returns-clause-stays
returns-clause-stays c = lowered-repairs c.args.store.now c.make_false.new.store c.in-Some.lit c.in_ok-make_false.ensures.ok
