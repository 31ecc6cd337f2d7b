use Rattle.std.proofs.Common.{◌≡◌, ◌++◌, take}
use Rattle.t_matching.specs.Joins.{others}
use Rattle.t_matching.proofs.joins.both.Given as goal

abbrev pub invariant-loop-lit : goal.invariant-loop-lit
invariant-loop-lit l = l.made ≡ l.clause ++ others l.dropped (take l.lit-index l.other)
