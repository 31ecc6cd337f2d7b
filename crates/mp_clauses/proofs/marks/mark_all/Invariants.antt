use Rattle.std.proofs.Common.{◌≡◌, ℕ, length, take}
use Rattle.std.specs.Prelude.{◌||◌}
use Rattle.mp_clauses.specs.Tables.{touched, marked}
use Rattle.mp_clauses.proofs.marks.mark_all.Given as goal

abbrev pub invariant-loop-id : goal.invariant-loop-id
invariant-loop-id l = record {
  len : length l.marks.items ≡ length l.initial.marks.items;
  marks : (p : ℕ) → marked l.marks.items p ≡ (marked l.initial.marks.items p || touched p (take l.id-index l.gone) l.rows.rows);
}
