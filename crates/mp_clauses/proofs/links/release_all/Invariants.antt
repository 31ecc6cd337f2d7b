use Rattle.std.proofs.Common.{◌≡◌, ℕ, length, take, cond}
use Rattle.std.specs.List.{list_any}
use Rattle.mp_clauses.specs.Places.{has}
use Rattle.mp_clauses.specs.Tables.{at, spare_at}
use Rattle.mp_clauses.proofs.links.release_all.Given as goal

abbrev pub invariant-loop-clause : goal.invariant-loop-clause
invariant-loop-clause l = record {
  len : length l.lists.items ≡ length l.initial.lists.items;
  items : (p : ℕ) → at l.lists.items p ≡ at l.initial.lists.items p;
  spare : (p : ℕ) → spare_at l.lists.items p ≡ cond (list_any (λ c. has p c) (take l.clause-index l.added)) 0 (spare_at l.initial.lists.items p);
}
