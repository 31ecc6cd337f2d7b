use Rattle.std.proofs.Common.{◌≡◌, ◌++◌, take}
use Rattle.mp_labels.proofs.label_view.append_clause.Given as goal

abbrev pub invariant-loop-lit : goal.invariant-loop-lit
invariant-loop-lit l = l.made ≡ l.initial.made ++ take l.lit-index l.lit-items
