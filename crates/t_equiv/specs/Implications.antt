-- Steps from literal to literal by clauses of two literals, and numbers for the literals that reach each other.
use Rattle.std.specs.Prelude.{◌≡◌, ◌⊎◌, ◌↔◌, ℕ, ◌+◌, ◌-◌, ◌*◌, ◌≤◌, cond, List, [], ◌∷◌, length, Contains, slice_index}
use Rattle.mp_logic.specs.Literal.{Literal, negation, IsUpTo}

-- a clause a or b leads from the negation of a to b, and from the negation of b to a
pub record IsStep (cs : List (List Literal)) (x y : Literal) : Type 0 where
  pub a : Literal
  pub b : Literal
  pub clause : Contains cs (a ∷ b ∷ [])
  pub either : ((x ≡ negation a) × (y ≡ b)) ⊎ ((x ≡ negation b) × (y ≡ a))

-- steps through the literals of the list in between
abbrev pub IsTrail : List (List Literal) → List Literal → Literal → Literal → Type 0
IsTrail cs [] x y = IsStep cs x y
IsTrail cs (z ∷ zs) x y = IsStep cs x z × IsTrail cs zs z y

-- one or more steps lead from x to y
pub record Reaches (cs : List (List Literal)) (x y : Literal) : Type 0 where
  pub between : List Literal
  pub trail : IsTrail cs between x y

-- two literals are equal or reach each other
abbrev pub AreEquivalent : List (List Literal) → Literal → Literal → Type 0
AreEquivalent cs x y = (x ≡ y) ⊎ (Reaches cs x y × Reaches cs y x)

-- where the number of a literal stands: two places for each variable, the positive literal first
abbrev pub number_place : Literal → ℕ
number_place l = 2 * (l.variable - 1) + cond l.negative 1 0

abbrev pub number_in : List ℕ → Literal → ℕ
number_in numbers l = slice_index numbers (number_place l)

-- two literals of the first vars variables have one number exactly where they are equivalent, and no step leads to a higher
-- number
pub record AreNumbers (vars : ℕ) (cs : List (List Literal)) (numbers : List ℕ) : Type 0 where
  pub many : length numbers ≡ 2 * vars
  pub falls : (x y : Literal) → IsStep cs x y → number_in numbers y ≤ number_in numbers x
  pub same : (x y : Literal) → IsUpTo vars x → IsUpTo vars y → (number_in numbers x ≡ number_in numbers y) ↔ AreEquivalent cs x y
