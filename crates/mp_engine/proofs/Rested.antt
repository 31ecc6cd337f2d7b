-- What is remembered goes on to hold, whichever technique runs.
use Rattle.std.proofs.Common.{List}
use Rattle.mp_logic.specs.Keeping.{State}
use Rattle.mp_logic.specs.declared.instances.Repair.{Repair}
use Rattle.mp_store.specs.Held.{Held}
use Rattle.mp_store.specs.Techniques.{IsRun}
use Rattle.mp_resting.specs.declared.seen.Seen.{Seen}
use Rattle.mp_resting.specs.Resting.{IsRested}
use Rattle.mp_resting.proofs.Rested.{rested-run}
use Rattle.t_units.specs.Units.{propagating}
use Rattle.t_subsume.specs.Subsumption.{subsuming}
use Rattle.t_subsume.specs.Strengthening.{strengthening}
use Rattle.t_blocked.specs.BlockedClauses.{blocking}
use Rattle.t_elim.specs.Eliminating.{eliminating}
use Rattle.mp_engine.specs.declared.rests.Rests.{Rests}
use Rattle.mp_engine.specs.Rests.{AreRested}

pub rests-run : (L : State → State → List Repair → Type 0) (rests : Rests) (old new : Held) → AreRested rests old → IsRun L old new → AreRested rests new
rests-run L rests old new r run = record {
  propagated = rested-run propagating.IsIdle L rests.propagated old new r.propagated run;
  subsumed = rested-run subsuming.IsIdle L rests.subsumed old new r.subsumed run;
  strengthened = rested-run strengthening.IsIdle L rests.strengthened old new r.strengthened run;
  blocked = rested-run blocking.IsIdle L rests.blocked old new r.blocked run;
  eliminated = rested-run eliminating.IsIdle L rests.eliminated old new r.eliminated run;
}

-- the same of the rests but one, which the technique made anew
pub rests-propagated : (L : State → State → List Repair → Type 0) (rests : Rests) (seen : Seen) (old new : Held) → AreRested rests old → IsRun L old new → IsRested propagating.IsIdle seen new → AreRested (record rests { propagated = seen }) new
rests-propagated L rests seen old new r run own = let a = rests-run L rests old new r run in record { propagated = own; subsumed = a.subsumed; strengthened = a.strengthened; blocked = a.blocked; eliminated = a.eliminated }

pub rests-subsumed : (L : State → State → List Repair → Type 0) (rests : Rests) (seen : Seen) (old new : Held) → AreRested rests old → IsRun L old new → IsRested subsuming.IsIdle seen new → AreRested (record rests { subsumed = seen }) new
rests-subsumed L rests seen old new r run own = let a = rests-run L rests old new r run in record { propagated = a.propagated; subsumed = own; strengthened = a.strengthened; blocked = a.blocked; eliminated = a.eliminated }

pub rests-strengthened : (L : State → State → List Repair → Type 0) (rests : Rests) (seen : Seen) (old new : Held) → AreRested rests old → IsRun L old new → IsRested strengthening.IsIdle seen new → AreRested (record rests { strengthened = seen }) new
rests-strengthened L rests seen old new r run own = let a = rests-run L rests old new r run in record { propagated = a.propagated; subsumed = a.subsumed; strengthened = own; blocked = a.blocked; eliminated = a.eliminated }

pub rests-blocked : (L : State → State → List Repair → Type 0) (rests : Rests) (seen : Seen) (old new : Held) → AreRested rests old → IsRun L old new → IsRested blocking.IsIdle seen new → AreRested (record rests { blocked = seen }) new
rests-blocked L rests seen old new r run own = let a = rests-run L rests old new r run in record { propagated = a.propagated; subsumed = a.subsumed; strengthened = a.strengthened; blocked = own; eliminated = a.eliminated }

pub rests-eliminated : (L : State → State → List Repair → Type 0) (rests : Rests) (seen : Seen) (old new : Held) → AreRested rests old → IsRun L old new → IsRested eliminating.IsIdle seen new → AreRested (record rests { eliminated = seen }) new
rests-eliminated L rests seen old new r run own = let a = rests-run L rests old new r run in record { propagated = a.propagated; subsumed = a.subsumed; strengthened = a.strengthened; blocked = a.blocked; eliminated = own }
