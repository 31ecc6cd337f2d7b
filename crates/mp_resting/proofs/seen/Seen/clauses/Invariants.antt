use Rattle.std.proofs.Common.{◌≡◌, ◌+◌, ◌*◌, length}
use Rattle.mp_resting.specs.Resting.{AreCounts}
use Rattle.mp_resting.proofs.seen.Seen.clauses.Given as goal

abbrev pub invariant-loop-earlier : goal.invariant-loop-earlier
invariant-loop-earlier l = record {
  many : length l.counts.items ≡ 2 * l.earlier + 2;
  counts : AreCounts l.counts.items l.store;
}
