use Rattle.std.proofs.Common.{◌≡◌, take, sum_by, min}
use Rattle.mp_labels.proofs.charges.cancelled.Given as goal

abbrev pub invariant-loop-charge : goal.invariant-loop-charge
invariant-loop-charge l = l.total ≡ sum_by (λ e. min e.1.when_true e.1.when_false) (take l.charge-index l.entries)
