-- What is drawn.
use Rattle.std.specs.Prelude.{◌≡◌, ℕ, ◌+◌, ◌*◌, ◌/◌, IsTrue, List, All, length}
use Rattle.mp_logic.specs.Literal.{Literal, IsUpTo}
use Rattle.mp_logic.specs.Normal.{rises}

-- a normal clause of three literals of the first n variables
pub record IsDrawn (n : ℕ) (c : List Literal) : Type 0 where
  pub normal : IsTrue (rises 0 c)
  pub within : All (IsUpTo n) c
  pub three : length c ≡ 3

-- how many variables so many clauses have, about a quarter as many
abbrev pub variables_for : ℕ → ℕ
variables_for clauses = 3 * (clauses / 12 + 1)
