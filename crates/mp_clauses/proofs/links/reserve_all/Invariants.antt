use Rattle.std.proofs.Common.{◌≡◌, ◌≤◌, ◌+◌, ℕ, length, drop}
use Rattle.mp_clauses.specs.Tables.{uses, at, spare_at}
use Rattle.mp_clauses.proofs.links.reserve_all.Given as goal

abbrev pub invariant-loop-clause : goal.invariant-loop-clause
invariant-loop-clause l = record {
  len : length l.lists.items ≡ length l.initial.lists.items;
  items : (p : ℕ) → at l.lists.items p ≡ at l.initial.lists.items p;
  spare : (p : ℕ) → spare_at l.initial.lists.items p + uses p l.added ≤ spare_at l.lists.items p + uses p (drop l.clause-index l.added);
}
