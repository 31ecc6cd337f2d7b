use Rattle.std.proofs.Common.{◌≡◌, take, map}
use Rattle.mp_clauses.specs.Places.{place_of}
use Rattle.t_failed.proofs.labels.places.Given as goal

abbrev pub invariant-loop-lit : goal.invariant-loop-lit
invariant-loop-lit l = l.made ≡ map place_of (take l.lit-index l.lits)
