-- Which clauses of two labels conflict, and where a partner may be found.
use Rattle.std.specs.Prelude.{◌≡◌, ◌⊎◌, ◌≤◌, ℕ, Bool, true, List, [], ◌∷◌, ◌++◌, Option, Some, None, MatchOption, Contains, nat_le, if◌then◌else◌}
use Rattle.std.specs.List.{list_all}
use Rattle.mp_logic.specs.Literal.{Literal, negation}
use Rattle.mp_logic.specs.Keeping.{State}
use Rattle.mp_clauses.specs.Places.{place_of}
use Rattle.mp_clauses.specs.Slots.{clause_of}
use Rattle.mp_clauses.specs.Occurrences.{ids_with}
use Rattle.mp_store.specs.Fixing.{clashes}
use Rattle.t_matching.specs.Labels.{labels_of, IsUnused}
use Rattle.t_matching.specs.Matching.{AreMatching}

-- a clause clashes with the clause of the slot, where there is one
abbrev pub slot_clashes : List Literal → Option (List Literal) → Bool
slot_clashes c None = true
slot_clashes c (Some d) = clashes d c

abbrev pub clashes_each : List (Option (List Literal)) → List ℕ → List Literal → Bool
clashes_each slots ids c = list_all (λ id. slot_clashes c (clause_of slots id)) ids

abbrev pub slot_conflicts : List (Option (List Literal)) → List ℕ → Option (List Literal) → Bool
slot_conflicts slots ids None = true
slot_conflicts slots ids (Some c) = clashes_each slots ids c

-- each clause with l clashes with each clause with m
abbrev pub AllClash : Literal → Literal → List (List Literal) → Type 0
AllClash l m cs = (c d : List Literal) → Contains cs c → Contains cs d → Contains c l → Contains d m → clashes d c ≡ true

-- the literals of a weight in a clause, in clauses, and in the clauses that clash with a clause
abbrev pub labels_in : List ℕ → ℕ → Option (List Literal) → List Literal
labels_in weights w None = []
labels_in weights w (Some c) = labels_of weights w c

abbrev pub labels_at : List ℕ → ℕ → List (Option (List Literal)) → List ℕ → List Literal
labels_at weights w slots [] = []
labels_at weights w slots (id ∷ ids) = labels_in weights w (clause_of slots id) ++ labels_at weights w slots ids

abbrev pub labels_near : List ℕ → ℕ → List (Option (List Literal)) → List Literal → List Literal
labels_near weights w slots [] = []
labels_near weights w slots (k ∷ c) = labels_at weights w slots (ids_with (place_of (negation k)) slots) ++ labels_near weights w slots c

-- the labels match, and one of them is in no clause
abbrev pub AreFreelyMatching : Literal → Literal → State → Type 0
AreFreelyMatching l m s = AreMatching l m s × (IsUnused l s.hard ⊎ IsUnused m s.hard)

-- of the labels that match so the lowest one, or that there is none
abbrev pub IsFreePartner : Literal → State → Option Literal → Type 0
IsFreePartner l s free = MatchOption free ((m : Literal) → AreFreelyMatching l m s → ⊥) (λ m. AreMatching l m s × ((k : Literal) → AreFreelyMatching l k s → m.variable ≤ k.variable))

-- the lower of two literals
abbrev pub lower_of : Option Literal → Option Literal → Option Literal
lower_of None b = b
lower_of (Some a) None = Some a
lower_of (Some a) (Some b) = Some (if nat_le a.variable b.variable then a else b)
