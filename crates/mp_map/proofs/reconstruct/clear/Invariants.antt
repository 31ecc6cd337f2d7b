use Rattle.std.proofs.Common.{◌≡◌, ◌++◌, false, drop, replicate}
use Rattle.mp_map.proofs.reconstruct.clear.Given as goal

abbrev pub invariant-loop-place : goal.invariant-loop-place
invariant-loop-place l = l.room ≡ replicate l.place false ++ drop l.place l.fn.room
