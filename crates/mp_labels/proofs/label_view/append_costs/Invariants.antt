use Rattle.std.proofs.Common.{◌≡◌, ◌++◌, take}
use Rattle.mp_labels.proofs.label_view.append_costs.Given as goal

abbrev pub invariant-loop-cost : goal.invariant-loop-cost
invariant-loop-cost l = l.made ≡ l.initial.made ++ take l.cost-index l.cost-items
