use Rattle.std.proofs.Common.{◌≡◌, ◌≤◌, length}
use Rattle.mp_logic.specs.Literal.{Literal}
use Rattle.t_blocked.proofs.Untouched.{IsCovered}
use Rattle.t_blocked.proofs.touched.touched_since.Given as goal

abbrev pub invariant-loop-earlier : goal.invariant-loop-earlier
invariant-loop-earlier l = record {
  within : l.earlier ≤ l.store.vars;
  len : length l.touched ≡ l.seen.mark;
  covered : (k : Literal) → 1 ≤ k.variable → k.variable ≤ l.earlier → IsCovered k l.kept l.touched l.store.slots;
}
