-- Weights by literal, and the costs that they stand for.
use Rattle.std.specs.Prelude.{ℕ, ◌+◌, ◌==◌, List, [], ◌∷◌, slice_index, slice_set, if◌then◌else◌}
use Rattle.mp_logic.specs.Literal.{Literal}
use Rattle.mp_logic.specs.declared.instances.Cost.{Cost}
use Rattle.mp_clauses.specs.Places.{place_of, literal_at}

-- the costs of the places from i on, in order of variable
abbrev pub costs_from : ℕ → List ℕ → List Cost
costs_from i [] = []
costs_from i (w ∷ ws) = if w == 0 then costs_from (i + 1) ws else (record { lit = literal_at i; weight = w } ∷ costs_from (i + 1) ws)

abbrev pub costs_of : List ℕ → List Cost
costs_of weights = costs_from 0 weights

-- the weight of a literal, 0 where it has no cost
abbrev pub weight_in : List ℕ → Literal → ℕ
weight_in weights l = slice_index weights (place_of l)

-- with these weights put in
abbrev pub weighted : List Cost → List ℕ → List ℕ
weighted [] w = w
weighted (c ∷ cs) w = weighted cs (slice_set w (place_of c.lit) c.weight)
