use Rattle.std.proofs.Common.{inl}
use Rattle.mp_turns.proofs.Queueing.{queued-own}
use Rattle.mp_turns.proofs.running.put_unless_idle.Goals as goal

pub returns-clause-own : goal.returns-clause-own
returns-clause-own g c = inl (rw c.in_ok-push.ensures.ok (queued-own c.args.queue.now c.args.item))
