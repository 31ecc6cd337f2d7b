use Rattle.std.proofs.Common.{◌≡◌, ◌<◌, ℕ, false, length}
use Rattle.mp_clauses.specs.Tables.{clause_at, live_in}
use Rattle.mp_clauses.proofs.rows.kill_every.Given as goal

abbrev pub invariant-loop-id : goal.invariant-loop-id
invariant-loop-id l = record {
  len : length l.rows.rows ≡ length l.initial.rows.rows;
  free : l.rows.free ≡ l.initial.rows.free;
  same : (k : ℕ) → clause_at l.rows.rows k ≡ clause_at l.initial.rows.rows k;
  dead : (k : ℕ) → k < l.id → live_in l.rows.rows k ≡ false;
}
