use Rattle.std.proofs.Common.{◌≡◌, take, map}
use Rattle.t_failed.specs.Partners.{pair_clause}
use Rattle.t_failed.proofs.pairing.add_pairs.Given as goal

abbrev pub invariant-loop-other : goal.invariant-loop-other
invariant-loop-other l = l.added ≡ map (pair_clause l.lit) (take l.other-index l.partners)
