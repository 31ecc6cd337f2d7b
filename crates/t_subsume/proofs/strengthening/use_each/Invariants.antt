use Rattle.std.proofs.Common.{◌≡◌, ◌<◌, ℕ, false}
use Rattle.mp_store.specs.Techniques.{IsRun}
use Rattle.t_subsume.specs.Strengthening.{self_subsumption}
use Rattle.t_subsume.specs.Shortening.{lit_at, IsUseless, IsPart, StrengthensNoneBelow}
use Rattle.t_subsume.proofs.strengthening.use_each.Given as goal

abbrev pub invariant-loop-place : goal.invariant-loop-place
invariant-loop-place l = record {
  run : IsRun self_subsumption.LeavesAlone l.fn.store l.store;
  unrefuted : l.store.refuted ≡ false;
  lits : l.lits ≡ l.fn.lits;
  rested : StrengthensNoneBelow l.least l.store.slots l.fn.lits;
  part : IsPart l.id l.fn.lits l.fn.store l.store l.fn.again l.again l.changed;
  useless : (k : ℕ) → k < l.place → IsUseless l.store.slots l.fn.lits (lit_at l.fn.lits k);
}
