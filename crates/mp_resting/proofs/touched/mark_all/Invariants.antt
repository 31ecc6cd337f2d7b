use Rattle.std.proofs.Common.{◌≡◌, ◌<◌, ℕ, true, get_or, length}
use Rattle.mp_resting.specs.Resting.{is_touched}
use Rattle.mp_resting.proofs.touched.mark_all.Given as goal

abbrev pub invariant-loop-id : goal.invariant-loop-id
invariant-loop-id l = record {
  len : length l.marks.items ≡ length l.fn.marks.items;
  before : (i : ℕ) → is_touched l.fn.marks.items i ≡ true → is_touched l.marks.items i ≡ true;
  own : (k : ℕ) → k < l.id-index → is_touched l.marks.items (get_or l.ids k 0) ≡ true;
}
