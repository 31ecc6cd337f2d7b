-- When a literal has the clauses that it had.
use Rattle.std.specs.Prelude.{◌≡◌}
use Rattle.mp_logic.specs.Literal.{Literal}
use Rattle.mp_clauses.specs.Slots.{live_clauses}
use Rattle.mp_store.specs.Held.{Held}
use Rattle.mp_resting.specs.Resting.{IsFree}
use Rattle.t_elim.specs.Eliminating.{having}

-- a literal without a cost, either way, in a store before has the same clauses now, in the same order
pub record HasStayed (l : Literal) (before now : Held) : Type 0 where
  pub free : IsFree l before
  pub clauses : having l (live_clauses now.slots) ≡ having l (live_clauses before.slots)
