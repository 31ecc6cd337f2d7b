use Rattle.std.proofs.Common.{◌≡◌, ◌≤◌, take, length}
use Rattle.t_failed.specs.Propagating.{IsMarked}
use Rattle.t_failed.proofs.trail.Trail.cut.Given as goal

abbrev pub invariant-cut : goal.invariant-cut
invariant-cut l = record {
  marked : IsMarked l.self-inside.marks.items l.self-inside.lits.items;
  lits : l.self-inside.lits.items ≡ take (length l.self-inside.lits.items) l.initial.self-inside.lits.items;
  more : l.len ≤ length l.self-inside.lits.items;
}

abbrev pub decreases-cut : goal.decreases-cut
decreases-cut l = length l.self-inside.lits.items
