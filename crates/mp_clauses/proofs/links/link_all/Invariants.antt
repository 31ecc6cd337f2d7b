use Rattle.std.proofs.Common.{◌≡◌, ◌+◌, ◌≤◌, ℕ, ◌++◌, length, drop}
use Rattle.std.specs.Prelude.{map}
use Rattle.mp_clauses.specs.Tables.{uses, at, spare_at, ids_from, alive}
use Rattle.mp_clauses.proofs.links.link_all.Given as goal

abbrev pub invariant-loop-clause : goal.invariant-loop-clause
invariant-loop-clause l = record {
  id : l.id ≡ l.first + l.clause-index;
  len : length l.lists.items ≡ length l.initial.lists.items;
  room : (p : ℕ) → uses p (drop l.clause-index l.added) ≤ spare_at l.lists.items p;
  items : (p : ℕ) → at l.lists.items p ++ ids_from p l.id (map alive (drop l.clause-index l.added)) ≡ at l.initial.lists.items p ++ ids_from p l.first (map alive l.added);
}
