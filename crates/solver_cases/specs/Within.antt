-- Clauses that a query may have.
use Rattle.std.specs.Prelude.{ℕ, IsTrue, List, Contains}
use Rattle.mp_logic.specs.Literal.{Literal, IsUpTo}
use Rattle.mp_logic.specs.Normal.{rises}

-- a normal clause of the first variables
pub record IsWithin (vars : ℕ) (c : List Literal) : Type 0 where
  pub normal : IsTrue (rises 0 c)
  pub within : (l : Literal) → Contains c l → IsUpTo vars l
