use Rattle.std.proofs.Common.{◌≡◌, ◌≤◌, ◌-◌, ◌+◌, ℕ, length}
use Rattle.mp_clauses.specs.Tables.{room_at}
use Rattle.mp_clauses.proofs.links.widen.Given as goal

abbrev pub invariant-widen : goal.invariant-widen
invariant-widen l = record {
  len : length l.initial.lists.items ≤ length l.lists.items;
  most : length l.lists.items ≤ length l.initial.lists.items + (l.len - length l.initial.lists.items);
  same : (p : ℕ) → room_at l.lists.items p ≡ room_at l.initial.lists.items p;
}

abbrev pub decreases-widen : goal.decreases-widen
decreases-widen l = l.len - length l.lists.items
