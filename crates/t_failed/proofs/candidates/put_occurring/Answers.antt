use Rattle.mp_clauses.specs.Slots.{live_clauses}
use Rattle.t_failed.proofs.Taken.{put-step}
use Rattle.t_failed.proofs.candidates.put_occurring.Goals as goal

pub loop-item-preserved : goal.loop-item-preserved
loop-item-preserved c =
    let i = c.loop-item.invariant in
    let s = put-step (live_clauses c.args.store.now.slots) c.args.queue.now c.loop-item.queue c.push.new.self c.args.items.now c.loop-item.item-index c.loop-item-test.true c.in_ok-push.ensures.ok i.waits i.own i.few in
    record { waits = s.0; own = s.1; few = s.2 }
