use Rattle.std.proofs.Common.{◌∙◌, ◌<◌, arith, length}
use Rattle.t_matching.proofs.LabelPlaces.{listed-first, listed-none, listed-some, listed-done, found-none, found-some}
use Rattle.t_matching.proofs.costs.label_items.Goals.{then-is_some+in_ok-push, else-is_some}
use Rattle.t_matching.proofs.costs.label_items.Goals as goal

pub loop-item-init : goal.loop-item-init
loop-item-init c = listed-first c.args.store.now.weights c.new-made.result c.new-made.ensures

pub loop-item-preserved : goal.loop-item-preserved
loop-item-preserved c =
    let len = c.vars.ensures.sound.weights.len in
    let below : c.loop-item.item < length c.args.store.now.weights = omega (arith, len, c.vars.ensures.vars, c.loop-item-test.true) in
    elim c.if-is_some.branch [
      | then-is_some+in_ok-push w ↦ listed-some c.args.store.now.weights c.loop-item.item c.loop-item.made c.if-is_some.made below (found-some c.args.store.now.weights c.loop-item.item c.label_at.result c.is_some.result c.is_some.ensures w.if-is_some.true c.label_at.ensures) (w.made-is ∙ w.in_ok-push.ensures.ok) c.loop-item.invariant
      | else-is_some w ↦ rw w.made-is (listed-none c.args.store.now.weights c.loop-item.item c.loop-item.made below (found-none c.args.store.now.weights c.loop-item.item c.label_at.result c.is_some.result c.is_some.ensures w.if-is_some.false c.label_at.ensures) c.loop-item.invariant)
    ]

pub returns : goal.returns
returns c =
    let len = c.vars.ensures.sound.weights.len in
    listed-done c.args.store.now.weights c.loop-item.item c.loop-item.made (omega (arith, len, c.vars.ensures.vars, c.loop-item-test.false)) c.loop-item.invariant
