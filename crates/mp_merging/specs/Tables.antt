-- What private functions say of their tables; no public clause cites these.
use Rattle.std.specs.Prelude.{◌≡◌, ℕ, ◌+◌, ◌-◌, Bool, false, ◌&&◌, List, [], ◌∷◌, length, map, count_by, min, take, drop, slice_index, slice_index_or, slice_set, nat_eq, nat_le, nat_lt, if◌then◌else◌}
use Rattle.std.specs.List.{find, flat_map}
use Rattle.std.specs.List.Sorted.{IsPermutation, IsNonDecreasingBy}
use Rattle.std.specs.Option.{option_to_list}
use Rattle.mp_logic.specs.Literal.{Literal, IsUpTo, negation}
use Rattle.mp_logic.specs.Formula.{Formula}
use Rattle.mp_logic.specs.Keeping.{State}
use Rattle.mp_logic.specs.declared.instances.Cost.{Cost}
use Rattle.mp_logic.specs.declared.instances.Repair.{Repair}
use Rattle.mp_logic.specs.declared.instances.Soft.{Soft}
use Rattle.mp_labels.specs.Tables.{by_number}
use Rattle.mp_clauses.specs.Places.{place_of, has, width}
use Rattle.mp_merging.specs.MergedForm.{is_mergeable, soft_clause, merging_repairs, home_of, merged_instance}

-- one more, up to two
abbrev pub one_more : ℕ → ℕ
one_more n = if nat_lt n 2 then n + 1 else n

-- the table has for each literal's place how many of the clauses have it, up to two
pub record AreUses (vars : ℕ) (cs : List (List Literal)) (uses : List ℕ) : Type 0 where
  pub long : length uses ≡ width vars
  pub each : (p : ℕ) → slice_index uses p ≡ min 2 (count_by (has p) cs)

-- by the table of uses, one clause has the literal and none has its negation
abbrev pub is_sole : List ℕ → Literal → Bool
is_sole uses l = nat_eq (slice_index uses (place_of l)) 1 && nat_eq (slice_index uses (place_of (negation l))) 0

abbrev pub is_marked : List Bool → Literal → Bool
is_marked marks l = slice_index_or marks (place_of l) false

-- the marked literals of the state's variables are those that may be merged
pub record AreMarks (s : State) (marks : List Bool) : Type 0 where
  pub long : length marks ≡ width s.vars
  pub each : (l : Literal) → IsUpTo s.vars l → is_marked marks l ≡ is_mergeable s l

-- the first marked literal of a clause with at least two
abbrev pub marked_in : List Bool → List Literal → List Literal
marked_in marks c = if nat_le 2 (length c) then option_to_list (find (is_marked marks) c) else []

abbrev pub is_kept : List Bool → List Literal → Bool
is_kept marks c = nat_eq (length (marked_in marks c)) 0

-- with this number at the place of the literal's variable
abbrev pub housed : ℕ → List Literal → List ℕ → List ℕ
housed number [] homes = homes
housed number (l ∷ ls) homes = slice_set homes (l.variable - 1) number

-- with the numbers of the clauses, counted from after k, at the places of the variables that are merged into them
abbrev pub all_housed : List Bool → ℕ → List (List Literal) → List ℕ → List ℕ
all_housed marks k [] homes = homes
all_housed marks k (c ∷ cs) homes = all_housed marks (k + 1) cs (housed (k + 1) (marked_in marks c) homes)

-- the clause of a number, counted from 1; none for 0
abbrev pub clause_at : List (List Literal) → ℕ → List (List Literal)
clause_at cs number = if nat_eq number 0 then [] else take 1 (drop (number - 1) cs)

-- the clause that the table has for the literal
abbrev pub home_in : List ℕ → List (List Literal) → Literal → List (List Literal)
home_in homes cs l = clause_at cs (slice_index homes (l.variable - 1))

abbrev pub soft_by : List ℕ → List (List Literal) → Cost → Soft
soft_by homes cs p = record { weight = p.weight; clause = soft_clause p.lit (home_in homes cs p.lit) }

abbrev pub repairs_by : List ℕ → List (List Literal) → Cost → List Repair
repairs_by homes cs p = merging_repairs p.lit (home_in homes cs p.lit)

-- the instance over the state's own variables, and its repairs, with the costs in order of variable
pub record IsMerging (s : State) (f : Formula) (rs : List Repair) : Type 0 where
  pub costs : List Cost
  pub costs_moved : IsPermutation s.costs costs
  pub costs_in_order : IsNonDecreasingBy (λ p. p.lit.variable) costs
  pub whole : f ≡ merged_instance s costs
  pub repairs : rs ≡ flat_map (λ p. merging_repairs p.lit (home_of s p.lit)) costs

abbrev pub soft_by_number : List ℕ → Soft → Soft
soft_by_number numbers t = record { weight = t.weight; clause = map (by_number numbers) t.clause }
