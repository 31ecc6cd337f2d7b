use Rattle.t_equiv.specs.Pooling.{AreCancelled}
use Rattle.t_equiv.proofs.pooling.cancel_all.Given as goal

abbrev pub invariant-loop-variable : goal.invariant-loop-variable
invariant-loop-variable l = AreCancelled l.initial.weights.items l.variable l.weights.items l.shift
