use Rattle.std.proofs.Common.{◌≡◌, ◌++◌, drop}
use Rattle.mp_labels.specs.LabelView.{normal_clauses}
use Rattle.mp_labels.proofs.label_view.normal_clauses.Given as goal

abbrev pub invariant-loop-clause : goal.invariant-loop-clause
invariant-loop-clause l = l.made ++ normal_clauses (drop l.clause-index l.clause-items) ≡ normal_clauses l.clause-items
