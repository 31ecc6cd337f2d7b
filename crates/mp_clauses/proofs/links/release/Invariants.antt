use Rattle.std.proofs.Common.{◌≡◌, ℕ, length, take, cond}
use Rattle.mp_clauses.specs.Places.{has}
use Rattle.mp_clauses.specs.Tables.{at, spare_at}
use Rattle.mp_clauses.proofs.links.release.Given as goal

abbrev pub invariant-loop-lit : goal.invariant-loop-lit
invariant-loop-lit l = record {
  len : length l.lists.items ≡ length l.initial.lists.items;
  items : (p : ℕ) → at l.lists.items p ≡ at l.initial.lists.items p;
  spare : (p : ℕ) → spare_at l.lists.items p ≡ cond (has p (take l.lit-index l.clause)) 0 (spare_at l.initial.lists.items p);
}
