use Rattle.std.proofs.Common.{refl, ◌∙◌, arith}
use Rattle.mp_turns.proofs.Pacing.{awake-more, all-awake}
use Rattle.mp_turns.proofs.running.awake_queue.Goals as goal

pub loop-item-preserved : goal.loop-item-preserved
loop-item-preserved g c =
    let few = c.loop-item.invariant.few in
    let more = c.in_ok-put_unless_idle.ensures.few in
    record {
      each = awake-more g.T.Turn.turning c.args.store.now c.items-item-items.result.now c.loop-item.queue c.put_unless_idle.new.queue c.loop-item.item-index _ refl c.loop-item.invariant.each c.in_ok-put_unless_idle.ensures.waits c.in_ok-put_unless_idle.ensures.own;
      few = omega (arith, few, more);
    }

pub returns : goal.returns
returns g c =
    all-awake g.T.Turn.turning c.args.store.now c.items-item-items.result.now c.loop-item.queue c.loop-item.item-index (c.items-item-items.ensures ∙ c.in_ok-first.ensures) (omega (arith, c.loop-item-test.false)) (omega (arith, c.loop-item.auto.item-index-end)) c.loop-item.invariant.each c.loop-item.invariant.few
