use Rattle.std.proofs.Common.{◌≡◌, drop}
use Rattle.mp_clauses.specs.Weighing.{weight_in}
use Rattle.t_labels.specs.Grouping.{may_cover_at, covers_greedily, is_covered_by_group}
use Rattle.t_labels.proofs.groups.is_covered_by_group.Given as goal

abbrev pub invariant-loop-clause : goal.invariant-loop-clause
invariant-loop-clause l = covers_greedily (weight_in l.store.weights) (may_cover_at l.store l.lit) (drop l.clause-index l.clauses) l.chosen l.left ≡ is_covered_by_group l.store l.lit l.clauses
