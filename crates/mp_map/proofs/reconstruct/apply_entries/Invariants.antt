use Rattle.std.proofs.Common.{◌≡◌, ◌≤◌, length, drop}
use Rattle.mp_map.specs.Entries.{mended}
use Rattle.mp_map.proofs.reconstruct.apply_entries.Given as goal

abbrev pub invariant-loop-left : goal.invariant-loop-left
invariant-loop-left l = record {
  within : l.left ≤ length l.entries;
  len : length l.room ≡ length l.fn.room;
  value : l.room ≡ mended (drop l.left l.entries) l.fn.room;
}

abbrev pub decreases-loop-left : goal.decreases-loop-left
decreases-loop-left l = l.left
