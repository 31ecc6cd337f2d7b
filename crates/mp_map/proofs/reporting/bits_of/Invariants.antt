use Rattle.std.proofs.Common.{◌≡◌, map, take, nat_eq}
use Rattle.mp_map.proofs.reporting.bits_of.Given as goal

abbrev pub invariant-loop-b : goal.invariant-loop-b
invariant-loop-b l = l.bits ≡ map (λ b. nat_eq b 49) (take l.b-index l.text)
