use Rattle.std.proofs.Common.{sym, ◌∙◌}
use Rattle.t_blocked.specs.Dropping.{blocks}
use Rattle.t_blocked.proofs.Dropped.{find-step}
use Rattle.t_blocked.proofs.Passed.{blocks-in_hand, own-literal}
use Rattle.t_blocked.proofs.elimination.blocking_literal.Goals as goal

pub loop-lit-preserved-then-not-needs_look : goal.loop-lit-preserved-then-not-needs_look
loop-lit-preserved-then-not-needs_look c =
    let own = own-literal c.args.clause.now c.loop-lit.lit-index c.lit-item.result c.loop-lit-test.true c.lit-item.is in
    let step = find-step (blocks c.args.store.now c.args.clause.now) c.args.clause.now c.loop-lit.lit-index c.lit-item.result _ c.loop-lit-test.true c.lit-item.is c.loop-lit.invariant.rest in
    record { held = c.loop-lit.invariant.held; rest = step.1 (c.needs_look.ensures.idle c.if-not-needs_look.true c.args.clause.now c.requires.live own) }

pub returns-then-is_blocked_on-clause-lit : goal.returns-then-is_blocked_on-clause-lit
returns-then-is_blocked_on-clause-lit c =
    let step = find-step (blocks c.args.store.now c.args.clause.now) c.args.clause.now c.loop-lit.lit-index c.lit-item.result _ c.loop-lit-test.true c.lit-item.is c.loop-lit.invariant.rest in
    let test = blocks-in_hand c.args.store.now c.args.clause.now c.hold_once.new.hand c.lit-item.result c.is_blocked_on.result (c.needs_look.ensures.free c.if-not-needs_look.false) c.in_ok-hold_once.ensures c.is_blocked_on.ensures in
    sym (step.0 (test ∙ c.if-is_blocked_on.true))

pub loop-lit-preserved : goal.loop-lit-preserved
loop-lit-preserved c =
    let step = find-step (blocks c.args.store.now c.args.clause.now) c.args.clause.now c.loop-lit.lit-index c.lit-item.result _ c.loop-lit-test.true c.lit-item.is c.loop-lit.invariant.rest in
    let test = blocks-in_hand c.args.store.now c.args.clause.now c.hold_once.new.hand c.lit-item.result c.is_blocked_on.result (c.needs_look.ensures.free c.if-not-needs_look.false) c.in_ok-hold_once.ensures c.is_blocked_on.ensures in
    record { held = λ t. c.in_ok-hold_once.ensures; rest = step.1 (test ∙ c.if-is_blocked_on.false) }
