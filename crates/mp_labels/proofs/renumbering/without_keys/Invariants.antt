use Rattle.std.proofs.Common.{◌≡◌}
use Rattle.mp_labels.proofs.renumbering.without_keys.Given as goal

abbrev pub invariant-loop-entry : goal.invariant-loop-entry
invariant-loop-entry l = l.made.items ≡ l.yielded
