-- The labels of a store: which literals of clauses have costs.
use Rattle.std.specs.Prelude.{◌==◌, ℕ, List, [], ◌∷◌, ◌++◌, Option, Some, None, Contains, if◌then◌else◌}
use Rattle.std.specs.List.{filter}
use Rattle.mp_logic.specs.Literal.{Literal, negation}
use Rattle.mp_clauses.specs.Places.{place_of}
use Rattle.mp_clauses.specs.Slots.{clause_of}
use Rattle.mp_clauses.specs.Weighing.{weight_in}

-- the literals of a weight in a clause
abbrev pub labels_of : List ℕ → ℕ → List Literal → List Literal
labels_of weights w c = filter (λ k. weight_in weights k == w) c

-- the place of a literal with a cost
abbrev pub cost_place : List ℕ → Literal → List ℕ
cost_place weights k = if weight_in weights k == 0 then [] else (place_of k ∷ [])

-- the places of the cost literals on the variables of a clause, and of the clauses of some ids
abbrev pub places_on : List ℕ → List Literal → List ℕ
places_on weights [] = []
places_on weights (k ∷ c) = (cost_place weights k ++ cost_place weights (negation k)) ++ places_on weights c

abbrev pub slot_places : List ℕ → Option (List Literal) → List ℕ
slot_places weights None = []
slot_places weights (Some c) = places_on weights c

abbrev pub places_at : List ℕ → List (Option (List Literal)) → List ℕ → List ℕ
places_at weights slots [] = []
places_at weights slots (id ∷ ids) = slot_places weights (clause_of slots id) ++ places_at weights slots ids

-- no clause has the literal
abbrev pub IsUnused : Literal → List (List Literal) → Type 0
IsUnused l cs = (c : List Literal) → Contains cs c → Contains c l → ⊥
