use Rattle.std.proofs.Common.{◌≡◌, drop}
use Rattle.mp_turns.specs.Waiting.{all_queued}
use Rattle.t_failed.proofs.candidates.wait.Given as goal

abbrev pub invariant-loop-item : goal.invariant-loop-item
invariant-loop-item l = all_queued l.queue (drop l.item-index l.items) ≡ all_queued l.fn.queue l.items
