use Rattle.std.proofs.Common.{◌≡◌, drop, length}
use Rattle.mp_logic.specs.Carrying.{named}
use Rattle.mp_map.proofs.reconstruct.name.Given as goal

abbrev pub invariant-loop-place : goal.invariant-loop-place
invariant-loop-place l = record {
  same : named (drop l.place l.names) (drop l.place l.values) l.room ≡ named l.names l.values l.fn.room;
  len : length l.room ≡ length l.fn.room;
}
