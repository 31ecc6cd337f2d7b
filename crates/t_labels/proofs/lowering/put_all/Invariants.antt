use Rattle.std.proofs.Common.{◌≡◌, ◌++◌, drop}
use Rattle.t_labels.proofs.lowering.put_all.Given as goal

abbrev pub invariant-loop-lit : goal.invariant-loop-lit
invariant-loop-lit l = l.found ++ drop l.lit-index l.lits ≡ l.initial.found ++ l.lits
