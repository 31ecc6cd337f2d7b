use Rattle.std.proofs.Common.{◌≡◌, ℕ, length, take, cond, not}
use Rattle.std.specs.Prelude.{◌&&◌}
use Rattle.std.specs.List.{filter}
use Rattle.mp_clauses.specs.Places.{has}
use Rattle.mp_clauses.specs.Tables.{at, spare_at, marked, live_in}
use Rattle.mp_clauses.proofs.links.sweep.Given as goal

abbrev pub invariant-loop-lit : goal.invariant-loop-lit
invariant-loop-lit l = record {
  len : length l.lists.items ≡ length l.initial.lists.items;
  marks_len : length l.marks.items ≡ length l.initial.marks.items;
  each : (p : ℕ) → (marked l.marks.items p ≡ (marked l.initial.marks.items p && not (has p (take l.lit-index l.clause))))
      × (at l.lists.items p ≡ cond (marked l.initial.marks.items p && has p (take l.lit-index l.clause)) (filter (live_in l.rows.rows) (at l.initial.lists.items p)) (at l.initial.lists.items p))
      × (spare_at l.lists.items p ≡ spare_at l.initial.lists.items p);
}
