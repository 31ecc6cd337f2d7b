-- Clauses that clash: some variable stands in the one as it is and in the other negated.
use Rattle.std.specs.Prelude.{ℕ, ◌==◌, Bool, true, not, ◌&&◌, cond, List, [], ◌∷◌, Option, Some, None}
use Rattle.std.specs.List.{list_any, list_all}
use Rattle.mp_logic.specs.Literal.{Literal, negation}
use Rattle.mp_clauses.specs.Places.{place_of, has}
use Rattle.mp_clauses.specs.Slots.{clause_of}

-- on another variable than v, the clause d has the negation of a literal of c
abbrev pub clash_beside : ℕ → List Literal → List Literal → Bool
clash_beside v c d = list_any (λ (m : Literal). not (m.variable == v) && has (place_of (negation m)) c) d

abbrev pub slot_clashes : ℕ → List Literal → Option (List Literal) → Bool
slot_clashes v c None = true
slot_clashes v c (Some d) = clash_beside v c d

-- each live clause of these ids clashes so
abbrev pub all_clash : ℕ → List Literal → List (Option (List Literal)) → List ℕ → Bool
all_clash v c slots ids = list_all (λ id. slot_clashes v c (clause_of slots id)) ids

-- the negations of the literals on other variables than v
abbrev pub negations_beside : ℕ → List Literal → List Literal
negations_beside v [] = []
negations_beside v (m ∷ c) = cond (m.variable == v) (negations_beside v c) (negation m ∷ negations_beside v c)
