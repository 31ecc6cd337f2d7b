use Rattle.std.proofs.Common.{◌<◌, arith, length}
use Rattle.t_failed.proofs.LabelLists.{listed-first, listed-none, listed-some, listed-done}
use Rattle.t_failed.proofs.labels.labels.Goals as goal

pub loop-item-init : goal.loop-item-init
loop-item-init c = listed-first c.args.store.now.weights _ c.new-made.ensures.items

pub returns : goal.returns
returns c =
    let len = c.vars.ensures.sound.weights.len in
    listed-done c.args.store.now c.loop-item.item c.loop-item.made.items (omega (arith, len, c.vars.ensures.vars, c.loop-item-test.false)) c.loop-item.invariant

pub loop-item-preserved-in_default : goal.loop-item-preserved-in_default
loop-item-preserved-in_default c =
    let len = c.vars.ensures.sound.weights.len in
    let below : c.loop-item.item < length c.args.store.now.weights = omega (arith, len, c.vars.ensures.vars, c.loop-item-test.true) in
    listed-none c.args.store.now.weights c.loop-item.item c.loop-item.made.items below c.in_default.ensures c.loop-item.invariant

pub loop-item-preserved : goal.loop-item-preserved
loop-item-preserved c =
    let len = c.vars.ensures.sound.weights.len in
    let below : c.loop-item.item < length c.args.store.now.weights = omega (arith, len, c.vars.ensures.vars, c.loop-item-test.true) in
    listed-some c.args.store.now.weights c.loop-item.item c.loop-item.made.items _ c.in-Some.lit below c.in-Some.ensures.0 c.in-Some.ensures.1 c.in_ok-push.ensures.items c.loop-item.invariant
