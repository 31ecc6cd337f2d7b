-- Weights that move to the images of their literals, and cancel.
use Rattle.std.specs.Prelude.{◌≡◌, ◌⊎◌, ℕ, ◌+◌, ◌-◌, ◌*◌, ◌<◌, ◌≤◌, Bool, true, not, cond, List, [], ◌∷◌, length, map, take, All, IsTrue, slice_index, slice_set}
use Rattle.mp_logic.specs.Literal.{Literal, IsUpTo}
use Rattle.mp_logic.specs.declared.instances.Cost.{Cost}
use Rattle.mp_clauses.specs.Places.{place_of, literal_at, no_repeats, width}
use Rattle.mp_clauses.specs.Weighing.{weighted}
use Rattle.t_equiv.specs.Images.{image_in}

-- what the weights of a table come to whose places, counted from i, pass a test
abbrev pub worth : (ℕ → Bool) → ℕ → List ℕ → ℕ
worth b i [] = 0
worth b i (w ∷ ws) = cond (b i) w 0 + worth b (i + 1) ws

-- the place of the image of the literal of a place
abbrev pub image_place : List Literal → ℕ → ℕ
image_place images p = place_of (image_in images (literal_at p))

-- the weights of the first places, moved to the places of the images
pub record AreMoved (images : List Literal) (weights : List ℕ) (places : ℕ) (moved : List ℕ) : Type 0 where
  pub many : length moved ≡ length weights
  pub same : (b : ℕ → Bool) → worth b 0 moved ≡ worth (λ p. b (image_place images p)) 0 (take places weights)
  pub none : (q : ℕ) → q < 2 → slice_index moved q ≡ 0

-- a test of the literals that is true of exactly one of each variable
abbrev pub IsOpposite : (ℕ → Bool) → Type 0
IsOpposite b = (v : ℕ) → b (2 * v + 1) ≡ not (b (2 * v))

-- the lower of the two weights of a variable is taken from both
pub record IsLowered (old : List ℕ) (v : ℕ) (new : List ℕ) (low : ℕ) : Type 0 where
  pub first : low ≤ slice_index old (2 * v)
  pub second : low ≤ slice_index old (2 * v + 1)
  pub one : (low ≡ slice_index old (2 * v)) ⊎ (low ≡ slice_index old (2 * v + 1))
  pub is : new ≡ slice_set (slice_set old (2 * v) (slice_index old (2 * v) - low)) (2 * v + 1) (slice_index old (2 * v + 1) - low)

-- the same for the first variables, in all so much from each side
pub record AreCancelled (moved : List ℕ) (variables : ℕ) (now : List ℕ) (shift : ℕ) : Type 0 where
  pub many : length now ≡ length moved
  pub same : (b : ℕ → Bool) → IsOpposite b → shift + worth b 0 now ≡ worth b 0 moved
  pub most : (q : ℕ) → slice_index now q ≤ slice_index moved q
  pub total : shift + worth (λ p. true) 0 now ≤ worth (λ p. true) 0 moved
  pub apart : (v : ℕ) → v < variables → (slice_index now (2 * v) ≡ 0) ⊎ (slice_index now (2 * v + 1) ≡ 0)

-- the costs whose weights differ in the first places
pub record AreNoted (vars : ℕ) (weights now : List ℕ) (places : ℕ) (costs : List Cost) : Type 0 where
  pub done : (q : ℕ) → q < places → slice_index (weighted costs weights) q ≡ slice_index now q
  pub rest : (q : ℕ) → places ≤ q → slice_index (weighted costs weights) q ≡ slice_index weights q
  pub within : All (λ c. IsUpTo vars c.lit) costs
  pub below : All (λ c. place_of c.lit < places) costs
  pub once : IsTrue (no_repeats (map (λ c. place_of c.lit) costs))

-- each weight is moved to the image of its literal, opposite weights are cancelled, and the costs are those that differ
pub record ArePooled (images : List Literal) (vars : ℕ) (weights : List ℕ) (costs : List Cost) (shift : ℕ) : Type 0 where
  pub moved : List ℕ
  pub now : List ℕ
  pub is_moved : AreMoved images weights (length weights) moved
  pub is_cancelled : AreCancelled moved (vars + 1) now shift
  pub is_noted : AreNoted vars weights now (width vars) costs
