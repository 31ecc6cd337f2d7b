-- Labels, the literals that cost: as candidates, which are plain, and what techniques on labels leave alone.
use Rattle.std.specs.Prelude.{◌≡◌, ℕ, ◌==◌, Bool, not, ◌&&◌, List, [], ◌∷◌, map, if◌then◌else◌}
use Rattle.std.specs.List.{list_any}
use Rattle.mp_logic.specs.Literal.{Literal, negation}
use Rattle.mp_logic.specs.Keeping.{State}
use Rattle.mp_logic.specs.Sets.{Among}
use Rattle.mp_logic.specs.declared.instances.Cost.{Cost}
use Rattle.mp_logic.specs.declared.instances.Repair.{Repair}
use Rattle.mp_clauses.specs.Places.{place_of, has}
use Rattle.mp_clauses.specs.Weighing.{weight_in}

-- the cost literals by their places, rising
abbrev pub label_places : State → List ℕ
label_places s = map (λ (p : Cost). place_of p.lit) s.costs

-- variables and the offset stay, and each cost is one that there was
pub record LeavesOffset (s t : State) (added : List Repair) : Type 0 where
  pub vars : t.vars ≡ s.vars
  pub offset : t.offset ≡ s.offset
  pub costs : Among t.costs s.costs

-- no clause has the negation of the literal
abbrev pub is_plain : List (List Literal) → Literal → Bool
is_plain cs k = not (list_any (has (place_of (negation k))) cs)

-- another plain literal that costs something, at these prices
abbrev pub may_cover : (Literal → ℕ) → List (List Literal) → Literal → Literal → Bool
may_cover price cs l k = not (price k == 0) && (not (place_of k == place_of l) && is_plain cs k)

-- the place of a literal, if it has a weight
abbrev pub place_in : List ℕ → Literal → List ℕ
place_in w k = if weight_in w k == 0 then [] else (place_of k ∷ [])
