use Rattle.std.proofs.Common.{◌≡◌, ◌≤◌, length}
use Rattle.t_subsume.specs.Nearness.{AreWalked}
use Rattle.t_subsume.proofs.Nearby.{AreApart}
use Rattle.t_subsume.proofs.near.Near.since.Given as goal

abbrev pub invariant-loop-id : goal.invariant-loop-id
invariant-loop-id l = record {
  within : l.id ≤ length l.store.slots;
  len : length l.touched ≡ l.from;
  walked : AreWalked l.walked.items l.touched l.store.slots;
  apart : AreApart l.from l.id l.touched l.store.slots;
}
