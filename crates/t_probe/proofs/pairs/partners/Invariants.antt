use Rattle.std.proofs.Common.{◌⊎◌, Contains, take}
use Rattle.mp_logic.specs.Literal.{Literal}
use Rattle.mp_logic.specs.Sets.{Among}
use Rattle.t_probe.specs.Underway.{AreAnswered}
use Rattle.t_probe.proofs.pairs.partners.Given as goal

abbrev pub invariant-loop-model : goal.invariant-loop-model
invariant-loop-model l = record {
  from : Among l.made.items l.behind;
  others : (m : Literal) → Contains l.behind m → Contains l.made.items m ⊎ AreAnswered (take l.model-index l.models) l.lit m;
}
