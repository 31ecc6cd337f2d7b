use Rattle.std.proofs.Common.{◌≡◌, drop}
use Rattle.mp_clauses.specs.Weighing.{weight_in}
use Rattle.t_amo.specs.Choosing.{least_of}
use Rattle.t_amo.proofs.joining.least_of.Given as goal

abbrev pub invariant-loop-lit : goal.invariant-loop-lit
invariant-loop-lit l = least_of (weight_in l.store.weights) l.least (drop l.lit-index l.lits) ≡ least_of (weight_in l.store.weights) l.most l.lits
