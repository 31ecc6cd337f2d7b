use Rattle.std.proofs.Common.{◌≡◌, length, fold, take}
use Rattle.mp_logic.specs.Repairs.{made_true}
use Rattle.mp_map.proofs.reconstruct.apply_entry.Given as goal

abbrev pub invariant-loop-lit : goal.invariant-loop-lit
invariant-loop-lit l = record {
  len : length l.room ≡ length l.fn.room;
  value : l.room ≡ fold made_true l.fn.room (take l.lit-index l.lit-items);
}
