-- Resolvents, in the order in which they are made.
use Rattle.std.specs.Prelude.{ℕ, ◌==◌, not, cond, List, [], ◌∷◌, ◌++◌, map, Option, Some, None, nat_lt}
use Rattle.std.specs.List.{filter}
use Rattle.mp_logic.specs.Literal.{Literal}
use Rattle.mp_clauses.specs.Slots.{clause_of}
use Rattle.mp_store.specs.Clashing.{clash_beside}

-- the literals before the first whose variable is not below v, and the others
abbrev pub below : ℕ → List Literal → List Literal
below v [] = []
below v (b ∷ d) = cond (nat_lt b.variable v) (b ∷ below v d) []

abbrev pub from : ℕ → List Literal → List Literal
from v [] = []
from v (b ∷ d) = cond (nat_lt b.variable v) (from v d) (b ∷ d)

-- without the first literal, where it is on the variable
abbrev pub past : ℕ → List Literal → List Literal
past v [] = []
past v (b ∷ d) = cond (b.variable == v) d (b ∷ d)

-- the literals of two clauses in order, that of the first clause where both have one on a variable
abbrev pub merged : List Literal → List Literal → List Literal
merged [] d = d
merged (a ∷ c) d = below a.variable d ++ a ∷ merged c (past a.variable (from a.variable d))

abbrev pub without_variable : ℕ → List Literal → List Literal
without_variable v c = filter (λ (l : Literal). not (l.variable == v)) c

-- the resolvent of two clauses on a variable, where they clash on no other
abbrev pub resolvent : ℕ → List Literal → List Literal → List Literal
resolvent v c d = without_variable v (merged c d)

-- the resolvent with the clause of a slot, none where that is a tautology
abbrev pub slot_resolvent : ℕ → List Literal → Option (List Literal) → List (List Literal)
slot_resolvent v c None = []
slot_resolvent v c (Some d) = cond (clash_beside v c d) [] (resolvent v c d ∷ [])

-- the resolvents of a clause with those of these ids
abbrev pub resolvents_with : ℕ → List Literal → List (Option (List Literal)) → List ℕ → List (List Literal)
resolvents_with v c slots [] = []
resolvents_with v c slots (j ∷ js) = slot_resolvent v c (clause_of slots j) ++ resolvents_with v c slots js

abbrev pub slot_resolvents : ℕ → Option (List Literal) → List (Option (List Literal)) → List ℕ → List (List Literal)
slot_resolvents v None slots js = []
slot_resolvents v (Some c) slots js = resolvents_with v c slots js

-- the resolvents of the clauses of some ids with those of others
abbrev pub resolvents_of : ℕ → List (Option (List Literal)) → List ℕ → List ℕ → List (List Literal)
resolvents_of v slots [] js = []
resolvents_of v slots (i ∷ is) js = slot_resolvents v (clause_of slots i) slots js ++ resolvents_of v slots is js

-- the clauses of these ids, in order
abbrev pub slot_clauses : Option (List Literal) → List (List Literal)
slot_clauses None = []
slot_clauses (Some c) = c ∷ []

abbrev pub clauses_at : List (Option (List Literal)) → List ℕ → List (List Literal)
clauses_at slots [] = []
clauses_at slots (id ∷ ids) = slot_clauses (clause_of slots id) ++ clauses_at slots ids

-- the variables of the clauses of these ids
abbrev pub slot_variables : Option (List Literal) → List ℕ
slot_variables None = []
slot_variables (Some c) = map (λ (l : Literal). l.variable) c

abbrev pub variables_at : List (Option (List Literal)) → List ℕ → List ℕ
variables_at slots [] = []
variables_at slots (id ∷ ids) = slot_variables (clause_of slots id) ++ variables_at slots ids
