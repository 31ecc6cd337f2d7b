use Rattle.std.proofs.Common.{◌≡◌, ◌≤◌, ◌-◌, length, All}
use Rattle.mp_logic.specs.Labelled.{IsProper}
use Rattle.mp_map.specs.Entries.{repairs_of}
use Rattle.mp_map.proofs.Joins.{Fits}
use Rattle.yardstick.proofs.maps.drawn_map.Given as goal

abbrev pub invariant-draws : goal.invariant-draws
invariant-draws l = record {
  proper : All (IsProper l.vars) (repairs_of l.repairs);
  fit : All (Fits 2) l.repairs;
  same : length (repairs_of l.repairs) ≡ length l.repairs;
  many : length l.repairs ≤ l.many;
}

abbrev pub decreases-draws : goal.decreases-draws
decreases-draws l = l.many - length l.repairs
