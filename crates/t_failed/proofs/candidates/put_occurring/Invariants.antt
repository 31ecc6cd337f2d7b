use Rattle.std.proofs.Common.{◌≡◌, ℕ, ◌+◌, ◌/◌, ◌≤◌, true, length, take, Contains}
use Rattle.mp_clauses.specs.Slots.{live_clauses}
use Rattle.mp_store.specs.Measures.{occurs}
use Rattle.t_failed.proofs.candidates.put_occurring.Given as goal

abbrev pub invariant-loop-item : goal.invariant-loop-item
invariant-loop-item l = record {
  waits : (i : ℕ) → Contains l.initial.queue i → Contains l.queue i;
  own : (i : ℕ) → Contains (take l.item-index l.items) i → occurs (i / 2) (live_clauses l.store.slots) ≡ true → Contains l.queue i;
  few : length l.queue ≤ length l.initial.queue + l.item-index;
}
