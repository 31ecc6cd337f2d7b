-- Inside the test of a literal: the clause that stops it, and what is asked of signatures.
use Rattle.std.specs.Prelude.{ℕ, List, Option, not}
use Rattle.std.specs.List.{find}
use Rattle.mp_logic.specs.Literal.{Literal}
use Rattle.mp_clauses.specs.Slots.{clause_of}
use Rattle.mp_store.specs.Clashing.{slot_clashes}

-- the first of these ids whose clause does not have, on another variable than v, the negation of a literal of c
abbrev pub first_stop : ℕ → List Literal → List (Option (List Literal)) → List ℕ → Option ℕ
first_stop v c slots ids = find (λ id. not (slot_clashes v c (clause_of slots id))) ids
