-- How many numbers have a property.
use Rattle.std.specs.Prelude.{◌≡◌, ℕ, List, IsTrue, Contains, length}
use Rattle.mp_clauses.specs.Places.{no_repeats}

-- so many different numbers have it
pub record HasMany (P : ℕ → Type 0) (n : ℕ) : Type 0 where
  pub numbers : List ℕ
  pub once : IsTrue (no_repeats numbers)
  pub many : length numbers ≡ n
  pub each : (i : ℕ) → Contains numbers i → P i
