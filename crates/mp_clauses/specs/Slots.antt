-- The clauses by id: the live clause of each id so far.
use Rattle.std.specs.Prelude.{ℕ, ◌==◌, Bool, List, [], ◌∷◌, length, Option, Some, None, is_some, slice_index_or, slice_set}
use Rattle.std.specs.List.{list_any}
use Rattle.mp_logic.specs.Literal.{Literal}

-- the live clause of an id
abbrev pub clause_of : List (Option (List Literal)) → ℕ → Option (List Literal)
clause_of slots id = slice_index_or slots id None

abbrev pub is_live : List (Option (List Literal)) → ℕ → Bool
is_live slots id = is_some (clause_of slots id)

-- the live clauses, in order of id
abbrev pub live_clauses : List (Option (List Literal)) → List (List Literal)
live_clauses [] = []
live_clauses (None ∷ s) = live_clauses s
live_clauses (Some c ∷ s) = c ∷ live_clauses s

-- some clause is empty
abbrev pub has_empty : List (List Literal) → Bool
has_empty cs = list_any (λ c. length c == 0) cs

-- without the clauses of these ids
abbrev pub cleared : List ℕ → List (Option (List Literal)) → List (Option (List Literal))
cleared [] slots = slots
cleared (id ∷ ids) slots = cleared ids (slice_set slots id None)
