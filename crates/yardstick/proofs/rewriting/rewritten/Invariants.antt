use Rattle.std.proofs.Common.{◌≡◌, ◌≤◌, false}
use Rattle.yardstick.specs.Drawn.{variables_for}
use Rattle.yardstick.proofs.rewriting.rewritten.Given as goal

abbrev pub invariant-turns : goal.invariant-turns
invariant-turns l = record {
  vars : l.store.vars ≡ variables_for l.clauses;
  unrefuted : l.store.refuted ≡ false;
  applied : l.applied ≤ l.turn;
}
