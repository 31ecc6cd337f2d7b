use Rattle.std.proofs.Common.{◌≡◌, ◌<◌, ℕ, true, length}
use Rattle.mp_resting.specs.Resting.{is_touched}
use Rattle.t_subsume.specs.Nearness.{AreTouched, AreWalked}
use Rattle.t_subsume.specs.Shortening.{lit_at}
use Rattle.t_subsume.proofs.near.touch_clause.Given as goal

abbrev pub invariant-loop-lit : goal.invariant-loop-lit
invariant-loop-lit l = record {
  len : length l.touched ≡ length l.fn.touched;
  walked : AreWalked l.walked.items l.touched l.store.slots;
  before : (i : ℕ) → is_touched l.fn.touched i ≡ true → is_touched l.touched i ≡ true;
  own : (k : ℕ) → k < l.lit-index → AreTouched (lit_at l.clause k).variable l.touched l.store.slots;
}
