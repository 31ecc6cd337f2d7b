use Rattle.std.proofs.Common.{◌⊎◌, ℕ, ◌<◌, ◌≤◌, Contains, get_or, length}
use Rattle.mp_turns.proofs.running.awake_queue.Given as goal

abbrev pub invariant-loop-item : goal.invariant-loop-item
invariant-loop-item g l = record {
  each : (k : ℕ) → k < l.item-index → Contains l.queue (get_or l.item-items k 0) ⊎ g.T.Turn.turning.IsIdle l.store (get_or l.item-items k 0);
  few : length l.queue ≤ l.item-index;
}
