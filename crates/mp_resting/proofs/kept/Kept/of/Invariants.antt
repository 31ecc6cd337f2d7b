use Rattle.std.proofs.Common.{◌≡◌, ◌+◌, ◌*◌, length}
use Rattle.mp_resting.specs.Resting.{AreKeptSince}
use Rattle.mp_resting.proofs.kept.Kept.of.Given as goal

abbrev pub invariant-loop-earlier : goal.invariant-loop-earlier
invariant-loop-earlier l = record {
  many : length l.marks.items ≡ 2 * l.earlier + 2;
  kept : AreKeptSince l.marks.items l.seen l.store;
}
