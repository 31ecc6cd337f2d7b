use Rattle.std.proofs.Common.{◌≡◌, ◌<◌, ℕ, [], length}
use Rattle.mp_clauses.specs.Tables.{at}
use Rattle.mp_clauses.proofs.links.clear_every.Given as goal

abbrev pub invariant-loop-place : goal.invariant-loop-place
invariant-loop-place l = record {
  len : length l.lists.items ≡ length l.initial.lists.items;
  items : (p : ℕ) → p < l.place → at l.lists.items p ≡ [];
}
