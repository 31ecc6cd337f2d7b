use Rattle.std.proofs.Common.{◌≡◌, [], drop}
use Rattle.mp_turns.specs.Waiting.{all_queued}
use Rattle.t_matching.proofs.costs.label_queue.Given as goal

abbrev pub invariant-loop-item : goal.invariant-loop-item
invariant-loop-item l = all_queued l.queue (drop l.item-index l.item-items) ≡ all_queued [] l.item-items
