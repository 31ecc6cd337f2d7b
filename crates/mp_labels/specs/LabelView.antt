-- The label view of an instance: its clauses in normal form, a label in each long soft clause, and what is paid for each literal.
use Rattle.std.specs.Prelude.{ℕ, ◌+◌, ◌-◌, Bool, false, ◌&&◌, List, [], ◌∷◌, ◌++◌, filter, map, length, sum_by, min, nat_eq, nat_lt, nat_le, if◌then◌else◌}
use Rattle.std.specs.List.{flat_map, range_with_len}
use Rattle.std.specs.Ordering.{is_lt, is_eq}
use Rattle.mp_logic.specs.Literal.{Literal, negation}
use Rattle.mp_logic.specs.Formula.{Formula}
use Rattle.mp_logic.specs.Keeping.{State}
use Rattle.mp_logic.specs.Normal.{lit_cmp, rises}
use Rattle.mp_logic.specs.declared.instances.Cost.{Cost}
use Rattle.mp_logic.specs.declared.instances.Soft.{Soft}

-- a literal put in its place among rising literals, where it is not there yet
abbrev pub inserted : Literal → List Literal → List Literal
inserted l [] = l ∷ []
inserted l (k ∷ ks) = if is_lt (lit_cmp l k) then l ∷ (k ∷ ks) else (if is_lt (lit_cmp k l) then k ∷ inserted l ks else k ∷ ks)

-- the literals of a clause in their order, each once
abbrev pub normal_form : List Literal → List Literal
normal_form [] = []
normal_form (l ∷ c) = inserted l (normal_form c)

-- the normal forms of the clauses, those left out in which a variable has both signs: there variables do not rise strictly
abbrev pub normal_clauses : List (List Literal) → List (List Literal)
normal_clauses cs = filter (rises 0) (map normal_form cs)

-- a soft clause with its clause in normal form
abbrev pub normal_soft : Soft → Soft
normal_soft s = record s { clause = normal_form s.clause }

-- the soft clauses that can cost something, in normal form: their weight is not 0, and no variable has both signs
abbrev pub payable : List Soft → List Soft
payable ss = filter (λ s. nat_lt 0 s.weight && rises 0 s.clause) (map normal_soft ss)

-- those with at least two literals, each of which gets a label
abbrev pub long_softs : List Soft → List Soft
long_softs ss = filter (λ s. nat_le 2 (length s.clause)) (payable ss)

-- the positive literal of a variable
abbrev pub positive : ℕ → Literal
positive v = record { variable = v; negative = false }

-- each clause with its label, which are the variables after n in turn
abbrev pub label_clauses : ℕ → List Soft → List (List Literal)
label_clauses n [] = []
label_clauses n (s ∷ ss) = (s.clause ++ positive (n + 1) ∷ []) ∷ label_clauses (n + 1) ss

-- each label with the weight of its clause
abbrev pub label_costs : ℕ → List Soft → List Cost
label_costs n [] = []
label_costs n (s ∷ ss) = record { lit = positive (n + 1); weight = s.weight } ∷ label_costs (n + 1) ss

-- the clause is the one literal
abbrev pub is_unit_of : Literal → List Literal → Bool
is_unit_of l [] = false
is_unit_of l (k ∷ []) = is_eq (lit_cmp k l)
is_unit_of l (k ∷ (j ∷ c)) = false

-- what the unit soft clauses cost where the literal is true: the weights of those of its negation
abbrev pub charge_on : List Soft → Literal → ℕ
charge_on ss l = sum_by (λ s. if is_unit_of (negation l) s.clause then s.weight else 0) (payable ss)

-- the literal with what is charged on it beyond what is charged on its negation, where that is something
abbrev pub net_cost : List Soft → Literal → List Cost
net_cost ss l = if nat_lt (charge_on ss (negation l)) (charge_on ss l) then record { lit = l; weight = charge_on ss l - charge_on ss (negation l) } ∷ [] else []

-- the same for the literals of the variables from 1 to n
abbrev pub net_costs : List Soft → ℕ → List Cost
net_costs ss n = flat_map (λ v. net_cost ss (positive v) ++ net_cost ss (negation (positive v))) (range_with_len 1 n)

-- what is paid on the variables from 1 to n whatever their values are
abbrev pub cancelled : List Soft → ℕ → ℕ
cancelled ss n = sum_by (λ v. min (charge_on ss (positive v)) (charge_on ss (negation (positive v)))) (range_with_len 1 n)

-- the weights of the soft clauses without literals
abbrev pub empty_weight : List Soft → ℕ
empty_weight ss = sum_by (λ s. if nat_eq (length s.clause) 0 then s.weight else 0) (payable ss)

-- the label view of an instance: its clauses and its long soft clauses with labels, then what is paid for each literal of its
-- variables and for each label, and what is paid in any case
abbrev pub label_view : Formula → State
label_view f = record {
  vars = f.vars + length (long_softs f.soft);
  hard = normal_clauses f.hard ++ label_clauses f.vars (long_softs f.soft);
  costs = net_costs f.soft f.vars ++ label_costs f.vars (long_softs f.soft);
  offset = empty_weight f.soft + cancelled f.soft f.vars;
}
