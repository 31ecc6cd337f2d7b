-- Inside a cost table: each place has the number of its weight in a list whose first is 0.
use Rattle.std.specs.Prelude.{◌≡◌, ◌⊎◌, ℕ, ◌^◌, ◌<◌, ◌≤◌, List, length, map, All, slice_index}

-- the weight of each place
abbrev pub numbered : List ℕ → List ℕ → List ℕ
numbered weights numbers = map (λ k. slice_index weights k) numbers

-- each number is that of a weight, and no two places have one, but for the weight 0 that is first
pub record AreNumbered (numbers weights : List ℕ) : Type 0 where
  pub some : 1 ≤ length weights
  pub few : length weights ≤ 2 ^ 32
  pub none : slice_index weights 0 ≡ 0
  pub within : All (λ k. k < length weights) numbers
  pub own : (p q : ℕ) → slice_index numbers p ≡ slice_index numbers q → (slice_index numbers p ≡ 0) ⊎ (p ≡ q)
