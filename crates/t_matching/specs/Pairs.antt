-- Clauses that two labels share.
use Rattle.std.specs.Prelude.{◌≡◌, ◌==◌, ◌+◌, ◌*◌, ◌≤◌, ℕ, List, [], ◌∷◌, ◌++◌, Option, Some, None, Contains, length, if◌then◌else◌}
use Rattle.std.specs.List.{filter, count_by}
use Rattle.mp_logic.specs.Literal.{Literal}
use Rattle.mp_clauses.specs.Places.{place_of}
use Rattle.mp_clauses.specs.Slots.{clause_of}
use Rattle.mp_clauses.specs.Occurrences.{slot_has}
use Rattle.t_matching.specs.Labels.{labels_of}
use Rattle.t_matching.specs.Cores.{has_both, clauses_with}

-- those of the ids whose clause has the literal
abbrev pub shared_ids : Literal → List (Option (List Literal)) → List ℕ → List ℕ
shared_ids l slots ids = filter (λ id. slot_has (place_of l) (clause_of slots id)) ids

-- the one number of a list
abbrev pub lone_of : List ℕ → Option ℕ
lone_of [] = None
lone_of (x ∷ []) = Some x
lone_of (x ∷ (y ∷ xs)) = None

-- the literals of a weight in a clause of two literals, and in those of some ids
abbrev pub pair_labels_in : List ℕ → ℕ → Option (List Literal) → List Literal
pair_labels_in weights w None = []
pair_labels_in weights w (Some c) = if length c == 2 then labels_of weights w c else []

abbrev pub pair_labels : List ℕ → ℕ → List (Option (List Literal)) → List ℕ → List Literal
pair_labels weights w slots [] = []
pair_labels weights w slots (id ∷ ids) = pair_labels_in weights w (clause_of slots id) ++ pair_labels weights w slots ids

-- the literals are a clause, no other clause has both, and joining their clauses makes no more of them
pub record AreSmallPair (l m : Literal) (cs : List (List Literal)) : Type 0 where
  pub pair : (p : List Literal) × Contains cs p × Contains p l × Contains p m × (length p ≡ 2)
  pub one : count_by (has_both l m) cs ≡ 1
  pub small : (p : ℕ) × (q : ℕ) × (clauses_with l cs ≡ p + 1) × (clauses_with m cs ≡ q + 1) × (p * q ≤ p + q)

-- there is one id, and its clause has two literals
abbrev pub HasLonePair : List (Option (List Literal)) → List ℕ → Type 0
HasLonePair slots ids = (id : ℕ) × (c : List Literal) × (lone_of ids ≡ Some id) × (clause_of slots id ≡ Some c) × (length c ≡ 2)

-- the clause of the id has both literals
pub record HasPairAt (l m : Literal) (slots : List (Option (List Literal))) (id : ℕ) : Type 0 where
  pub pair : List Literal
  pub at : clause_of slots id ≡ Some pair
  pub has_l : Contains pair l
  pub has_m : Contains pair m
