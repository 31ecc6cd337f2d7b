-- The number by which clauses are put in order before their literals are read.
use Rattle.std.specs.Prelude.{ℕ, ◌+◌, ◌*◌, cond, List, [], ◌∷◌}
use Rattle.mp_logic.specs.Literal.{Literal}

-- the place of the first literal, two places for each variable and the positive literal first; 0 without literals
abbrev pub first_place : List Literal → ℕ
first_place [] = 0
first_place (l ∷ c) = 2 * l.variable + cond l.negative 1 0
