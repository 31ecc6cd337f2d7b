use Rattle.std.proofs.Common.{◌≡◌, drop}
use Rattle.mp_turns.specs.Waiting.{all_queued}
use Rattle.t_matching.specs.Cores.{labels_left}
use Rattle.t_matching.proofs.near.queue_again.Given as goal

abbrev pub invariant-loop-item : goal.invariant-loop-item
invariant-loop-item l = all_queued l.queue (labels_left l.store.weights (drop l.item-index l.near)) ≡ all_queued l.initial.queue (labels_left l.store.weights l.near)
