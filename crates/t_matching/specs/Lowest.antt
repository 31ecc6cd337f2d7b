-- The lowest literal that passes a test.
use Rattle.std.specs.Prelude.{◌≤◌, Option, MatchOption}
use Rattle.mp_logic.specs.Literal.{Literal}

-- of some literals, the lowest one that passes, or that none does
abbrev pub IsLowestAmong : (Literal → Type 0) → (Literal → Type 0) → Option Literal → Type 0
IsLowestAmong P Has found = MatchOption found ((m : Literal) → Has m → P m → ⊥) (λ m. P m × ((k : Literal) → Has k → P k → m.variable ≤ k.variable))
