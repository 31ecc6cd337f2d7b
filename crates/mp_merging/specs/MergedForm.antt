-- The merged written form of a labelled state: where a label stands in one hard clause alone, that clause without the label
-- becomes the soft clause of the label's cost.
use Rattle.std.specs.Prelude.{◌≡◌, ℕ, Bool, not, ◌&&◌, ◌||◌, List, [], ◌∷◌, Contains, filter, map, length, count_by, nat_eq, nat_le, if◌then◌else◌}
use Rattle.std.specs.List.{list_any, find, flat_map, range_with_len}
use Rattle.std.specs.List.Sorted.{IsPermutation, IsSorted, IsNonDecreasingBy}
use Rattle.std.specs.Option.{option_to_list}
use Rattle.std.specs.Ordering.{is_eq}
use Rattle.std.specs.Cmp.Lexicographic.{slice_cmp}
use Rattle.mp_logic.specs.Literal.{Literal, negation}
use Rattle.mp_logic.specs.Formula.{Formula}
use Rattle.mp_logic.specs.Keeping.{State}
use Rattle.mp_logic.specs.Carrying.{WrittenForm}
use Rattle.mp_logic.specs.Normal.{lit_cmp}
use Rattle.mp_logic.specs.Rewrites.{set_repair}
use Rattle.mp_logic.specs.declared.instances.Cost.{Cost}
use Rattle.mp_logic.specs.declared.instances.Repair.{Repair}
use Rattle.mp_logic.specs.declared.instances.Soft.{Soft}
use Rattle.mp_labels.specs.UnitForm.{has_variable, renamed, refuted_form}

-- the clause has the literal
abbrev pub has_literal : Literal → List Literal → Bool
has_literal l c = list_any (λ k. is_eq (lit_cmp k l)) c

-- how many of the clauses have the literal
abbrev pub uses_of : Literal → List (List Literal) → ℕ
uses_of l cs = count_by (has_literal l) cs

-- one of the costs is on the literal
abbrev pub is_cost : List Cost → Literal → Bool
is_cost ps l = list_any (λ p. is_eq (lit_cmp p.lit l)) ps

-- a cost literal that exactly one hard clause has, and whose negation no hard clause has
abbrev pub is_mergeable : State → Literal → Bool
is_mergeable s l = is_cost s.costs l && (nat_eq (uses_of l s.hard) 1 && nat_eq (uses_of (negation l) s.hard) 0)

-- the label that is merged into a hard clause, if any: where the clause has at least two literals, the first that may be,
-- which in a normal clause is the one of the lowest variable
abbrev pub merged_in : State → List Literal → List Literal
merged_in s c = if nat_le 2 (length c) then option_to_list (find (is_mergeable s) c) else []

-- the hard clauses that stay hard: no label is merged into them
abbrev pub kept_clauses : State → List (List Literal)
kept_clauses s = filter (λ c. nat_eq (length (merged_in s c)) 0) s.hard

-- the hard clause into which the literal is merged, if any
abbrev pub home_of : State → Literal → List (List Literal)
home_of s l = filter (λ c. has_literal l (merged_in s c)) s.hard

-- the clause without the literal
abbrev pub without : Literal → List Literal → List Literal
without l c = filter (λ k. not (is_eq (lit_cmp k l))) c

-- the soft clause of a cost literal: the hard clause into which it is merged, without it, or else its negation alone
abbrev pub soft_clause : Literal → List (List Literal) → List Literal
soft_clause l [] = negation l ∷ []
soft_clause l (c ∷ cs) = without l c

-- the soft clause with the weight of the cost
abbrev pub merged_soft : State → Cost → Soft
merged_soft s p = record { weight = p.weight; clause = soft_clause p.lit (home_of s p.lit) }

-- what brings back the value of a merged label, which has no name and so begins as a false variable: it is made true where the
-- rest of its clause is false, after a negative label was made false
abbrev pub merging_repairs : Literal → List (List Literal) → List Repair
merging_repairs l [] = []
merging_repairs l (c ∷ cs) = set_repair l c ∷ (if l.negative then set_repair (negation l) (negation l ∷ []) ∷ [] else [])

-- the state with its costs in an order, as an instance over its own variables
abbrev pub merged_instance : State → List Cost → Formula
merged_instance s ps = record { vars = s.vars; hard = kept_clauses s; soft = map (merged_soft s) ps }

-- the variable stands in a hard or in a soft clause
abbrev pub stands_in : Formula → ℕ → Bool
stands_in f v = list_any (has_variable v) f.hard || list_any (λ t. has_variable v t.clause) f.soft

-- the variables that stand in a clause, rising
abbrev pub variables_of : Formula → List ℕ
variables_of f = filter (stands_in f) (range_with_len 1 f.vars)

-- a soft clause under the numbers of its variables
abbrev pub renamed_soft : List ℕ → Soft → Soft
renamed_soft names t = record { weight = t.weight; clause = map (renamed names) t.clause }

-- g is f under the numbers of the variables that stand in it, with the hard clauses in the order of clauses, repeats kept
pub record IsRenumbered (f : Formula) (ns : List ℕ) (g : Formula) : Type 0 where
  pub names : ns ≡ variables_of f
  pub vars : g.vars ≡ length (variables_of f)
  pub hard : IsPermutation (map (map (renamed (variables_of f))) f.hard) g.hard
  pub hard_sorted : IsSorted (slice_cmp lit_cmp) g.hard
  pub soft : g.soft ≡ map (renamed_soft (variables_of f)) f.soft

-- the merged form: the clauses that stay hard, a soft clause for each cost in order of variable, under the numbers of their
-- variables; the offset; and the repairs of the merged labels in order of variable
pub record IsMergedForm (s : State) (w : WrittenForm) : Type 0 where
  pub costs : List Cost
  pub costs_moved : IsPermutation s.costs costs
  pub costs_in_order : IsNonDecreasingBy (λ p. p.lit.variable) costs
  pub numbered : IsRenumbered (merged_instance s costs) w.names w.«instance»
  pub inner : w.inner ≡ s.vars
  pub offset : w.offset ≡ s.offset
  pub repairs : w.repairs ≡ flat_map (λ p. merging_repairs p.lit (home_of s p.lit)) costs

-- the refuted form where a hard clause is empty, else the merged form
pub record IsMergingForm (s : State) (w : WrittenForm) : Type 0 where
  pub refuted : Contains s.hard [] → w ≡ refuted_form s.vars
  pub otherwise : (Contains s.hard [] → ⊥) → IsMergedForm s w
