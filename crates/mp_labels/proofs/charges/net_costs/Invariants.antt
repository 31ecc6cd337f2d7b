use Rattle.std.proofs.Common.{◌≡◌, take}
use Rattle.std.specs.List.{flat_map}
use Rattle.mp_labels.specs.Charges.{net_of}
use Rattle.mp_labels.proofs.charges.net_costs.Given as goal

abbrev pub invariant-loop-entry : goal.invariant-loop-entry
invariant-loop-entry l = l.costs ≡ flat_map net_of (take l.entry-index l.entries)
