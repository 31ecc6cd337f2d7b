-- Inside the technique: the labels near a label that became false, as they are gathered.
use Rattle.std.specs.Prelude.{ℕ, ◌==◌, List, [], ◌++◌, ◌∷◌, Option, Some, None, if◌then◌else◌}
use Rattle.mp_logic.specs.Literal.{Literal, negation}
use Rattle.mp_clauses.specs.Places.{place_of}
use Rattle.mp_clauses.specs.Slots.{clause_of, live_clauses}
use Rattle.mp_clauses.specs.Weighing.{weight_in}
use Rattle.mp_clauses.specs.Occurrences.{ids_with}
use Rattle.mp_store.specs.Held.{Held}
use Rattle.t_labels.specs.Labels.{is_plain, place_in}

-- the literals of the clauses of these ids
abbrev pub slot_literals : Option (List Literal) → List Literal
slot_literals None = []
slot_literals (Some c) = c

abbrev pub literals_at : List (Option (List Literal)) → List ℕ → List Literal
literals_at slots [] = []
literals_at slots (id ∷ ids) = slot_literals (clause_of slots id) ++ literals_at slots ids

-- the places of the labels among some literals
abbrev pub places_in : List ℕ → List Literal → List ℕ
places_in w [] = []
places_in w (k ∷ ks) = place_in w k ++ places_in w ks

-- and in the clauses of these ids
abbrev pub places_at : List ℕ → List (Option (List Literal)) → List ℕ → List ℕ
places_at w slots [] = []
places_at w slots (id ∷ ids) = places_in w (slot_literals (clause_of slots id)) ++ places_at w slots ids

-- the places of the labels in clauses with b, where b is a plain label
abbrev pub places_with : Held → Literal → List ℕ
places_with h b = if weight_in h.weights b == 0 then [] else (if is_plain (live_clauses h.slots) b then places_at h.weights h.slots (ids_with (place_of b) h.slots) else [])

-- the same for the negation of each of these literals
abbrev pub places_freed : Held → List Literal → List ℕ
places_freed h [] = []
places_freed h (k ∷ ks) = places_with h (negation k) ++ places_freed h ks
