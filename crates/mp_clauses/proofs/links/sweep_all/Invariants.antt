use Rattle.std.proofs.Common.{◌≡◌, ℕ, length, take, cond, not}
use Rattle.std.specs.Prelude.{◌&&◌}
use Rattle.std.specs.List.{filter}
use Rattle.mp_clauses.specs.Tables.{touched, at, spare_at, marked, live_in}
use Rattle.mp_clauses.proofs.links.sweep_all.Given as goal

abbrev pub invariant-loop-id : goal.invariant-loop-id
invariant-loop-id l = record {
  len : length l.lists.items ≡ length l.initial.lists.items;
  marks_len : length l.marks.items ≡ length l.initial.marks.items;
  each : (p : ℕ) → (marked l.marks.items p ≡ (marked l.initial.marks.items p && not (touched p (take l.id-index l.gone) l.rows.rows)))
      × (at l.lists.items p ≡ cond (marked l.initial.marks.items p && touched p (take l.id-index l.gone) l.rows.rows) (filter (live_in l.rows.rows) (at l.initial.lists.items p)) (at l.initial.lists.items p))
      × (spare_at l.lists.items p ≡ spare_at l.initial.lists.items p);
}
