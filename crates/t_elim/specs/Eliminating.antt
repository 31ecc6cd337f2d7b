-- When a variable is eliminated, and what the technique promises.
use Rattle.std.specs.Prelude.{◌≡◌, ◌≢◌, ◌≤◌, ◌+◌, ◌*◌, ℕ, true, false, not, List, length, Contains, sum_by, ⊤}
use Rattle.std.specs.List.{count_by, filter, range_with_len}
use Rattle.mp_logic.specs.Literal.{Literal}
use Rattle.mp_logic.specs.Keeping.{State}
use Rattle.mp_logic.specs.declared.instances.Cost.{Cost}
use Rattle.mp_clauses.specs.Places.{place_of, has}
use Rattle.mp_store.specs.Held.{labelled_of}
use Rattle.mp_store.specs.Clashing.{clash_beside}
use Rattle.mp_store.specs.Measures.{occurs, occurring}
use Rattle.mp_store.specs.Techniques.{Technique}
use Rattle.mp_turns.specs.Turning.{Turning}
use Rattle.mp_turns.specs.Leaving.{LeavesCosts}

abbrev pub positive : ℕ → Literal
positive v = record { variable = v; negative = false }

abbrev pub negative_of : ℕ → Literal
negative_of v = record { variable = v; negative = true }

-- the clauses with a literal
abbrev pub having : Literal → List (List Literal) → List (List Literal)
having l cs = filter (has (place_of l)) cs

-- of how many pairs of clauses the resolvent on v is no tautology: they clash on no other variable
abbrev pub resolvents : ℕ → List (List Literal) → List (List Literal) → ℕ
resolvents v cs ds = sum_by (λ c. count_by (λ d. not (clash_beside v c d)) ds) cs

-- at most 256 pairs, and no more resolvents than clauses
abbrev pub PaysOff : ℕ → List (List Literal) → List (List Literal) → Type 0
PaysOff v cs ds = (length cs * length ds ≤ 256) × (resolvents v cs ds ≤ length cs + length ds)

-- no cost speaks of the variable
abbrev pub HasNoCost : ℕ → List Cost → Type 0
HasNoCost v ps = (p : Cost) → Contains ps p → p.lit.variable ≢ v

-- the variable does not occur, has a cost, or its elimination does not pay off
abbrev pub IsIdleVariable : State → ℕ → Type 0
IsIdleVariable s v = occurs v s.hard ≡ true → HasNoCost v s.costs → PaysOff v (having (positive v) s.hard) (having (negative_of v) s.hard) → ⊥

-- no variable without cost that occurs pays off
abbrev pub NoEliminable : State → Type 0
NoEliminable s = (v : ℕ) → IsIdleVariable s v

-- the variables that occur, rising
abbrev pub occurring_variables : State → List ℕ
occurring_variables s = filter (λ v. occurs v s.hard) (range_with_len 1 s.vars)

-- the candidates are the variables that occur, and each change lowers their number
abbrev pub variable_elimination : Technique
variable_elimination = record {
  HasEndState = NoEliminable;
  candidates = occurring_variables;
  size = λ s. occurring s.vars s.hard;
  IsIdle = IsIdleVariable;
  LeavesAlone = LeavesCosts;
  WantsRoom = λ s. ⊥;
}

-- the technique by turns, over variables
abbrev pub eliminating : Turning
eliminating = record {
  technique = variable_elimination;
  candidates = λ h. occurring_variables (labelled_of h);
  IsIdle = λ h v. 1 ≤ v → v ≤ h.vars → IsIdleVariable (labelled_of h) v;
  stays = λ n h k. ⊤;
}
