-- What techniques remember of a store, of each that it left nothing to do in a store before.
use Rattle.mp_store.specs.Held.{Held}
use Rattle.mp_resting.specs.Resting.{IsRested}
use Rattle.t_units.specs.Units.{propagating}
use Rattle.t_subsume.specs.Subsumption.{subsuming}
use Rattle.t_subsume.specs.Strengthening.{strengthening}
use Rattle.t_blocked.specs.BlockedClauses.{blocking}
use Rattle.t_elim.specs.Eliminating.{eliminating}
use Rattle.mp_engine.specs.declared.rests.Rests.{Rests}

pub record AreRested (rests : Rests) (store : Held) : Type 0 where
  pub propagated : IsRested propagating.IsIdle rests.propagated store
  pub subsumed : IsRested subsuming.IsIdle rests.subsumed store
  pub strengthened : IsRested strengthening.IsIdle rests.strengthened store
  pub blocked : IsRested blocking.IsIdle rests.blocked store
  pub eliminated : IsRested eliminating.IsIdle rests.eliminated store
