-- How literals and clauses are written.
use Rattle.std.specs.Prelude.{ℕ, List, [], ◌∷◌, ◌++◌, if◌then◌else◌, map, codes, decimal}
use Rattle.mp_logic.specs.Literal.{Literal}

-- a literal is its variable, with a `-` before it where it is negative
abbrev pub literal_word : Literal → List ℕ
literal_word l = if l.negative then codes "-" ++ decimal l.variable else decimal l.variable

-- the literals of a clause, and 0
abbrev pub clause_words : List Literal → List (List ℕ)
clause_words c = map literal_word c ++ codes "0" ∷ []
