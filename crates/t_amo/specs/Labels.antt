-- Labels, the literals that cost: as candidates, and which two of them are a clause.
use Rattle.std.specs.Prelude.{◌≡◌, ◌≢◌, ℕ, ◌+◌, ◌==◌, Bool, true, ◌&&◌, List, [], ◌∷◌, map, length, Contains, if◌then◌else◌}
use Rattle.std.specs.List.{list_any, count_by}
use Rattle.mp_logic.specs.Literal.{Literal}
use Rattle.mp_logic.specs.Keeping.{State}
use Rattle.mp_logic.specs.declared.instances.Cost.{Cost}
use Rattle.mp_clauses.specs.Places.{place_of, has}
use Rattle.mp_clauses.specs.Weighing.{weight_in}

-- the cost literals by their places, rising
abbrev pub label_places : State → List ℕ
label_places s = map (λ (p : Cost). place_of p.lit) s.costs

-- the place of a literal, if it has a weight
abbrev pub place_in : List ℕ → Literal → List ℕ
place_in w k = if weight_in w k == 0 then [] else (place_of k ∷ [])

-- the clause has both literals, and two in all
abbrev pub is_pair_of : Literal → Literal → List Literal → Bool
is_pair_of a b c = (length c == 2) && (has (place_of a) c && has (place_of b) c)

-- some clause consists of the two literals
abbrev pub are_clause : List (List Literal) → Literal → Literal → Bool
are_clause cs a b = list_any (is_pair_of a b) cs

-- the label is a hard clause with another label
abbrev pub IsPaired : Cost → State → Type 0
IsPaired p s = (q : Cost) × Contains s.costs q × (q.lit ≢ p.lit) × (are_clause s.hard p.lit q.lit ≡ true)

-- how many pairs of these cost literals pass a test
abbrev pub pairs_of : (Literal → Literal → Bool) → List Cost → ℕ
pairs_of test [] = 0
pairs_of test (p ∷ ps) = count_by (λ (q : Cost). test p.lit q.lit) ps + pairs_of test ps
