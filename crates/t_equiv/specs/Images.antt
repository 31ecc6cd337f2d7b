-- For each literal the first that is equivalent to it: its image.
use Rattle.std.specs.Prelude.{◌≡◌, ◌≢◌, ◌⊎◌, ℕ, ◌<◌, ◌≤◌, List, length, Contains, All, slice_index, slice_index_or}
use Rattle.mp_logic.specs.Literal.{Literal, negation, IsUpTo}
use Rattle.t_equiv.specs.Implications.{number_place, number_in}
use Rattle.t_equiv.specs.Substituting.{positive}

-- the first place with the number of the place p
pub record IsFirst (numbers : List ℕ) (p first : ℕ) : Type 0 where
  pub below : first ≤ p
  pub alike : slice_index numbers first ≡ slice_index numbers p
  pub least : (q : ℕ) → q < first → slice_index numbers q ≢ slice_index numbers p

-- the image of a literal, by a table with a place for each number; a literal past the table is its own
abbrev pub image_in : List Literal → Literal → Literal
image_in images l = slice_index_or images (number_place l) l

-- at each place stands the first literal with the number of the place
pub record AreImages (numbers : List ℕ) (images : List Literal) : Type 0 where
  pub many : length images ≡ length numbers
  pub known : All (λ (l : Literal). 1 ≤ l.variable) images
  pub first : (p : ℕ) (l : Literal) → p < length numbers → IsFirst numbers p (number_place (slice_index_or images p l))

-- the head of a number, given the places below p: the first that has it, or the number of all places where none has it
abbrev pub IsHead : List ℕ → ℕ → ℕ → ℕ → Type 0
IsHead numbers p number head =
    ((head < p) × (slice_index numbers head ≡ number) × ((q : ℕ) → q < head → slice_index numbers q ≢ number)) ⊎ ((head ≡ length numbers) × ((q : ℕ) → q < p → slice_index numbers q ≢ number))

-- the heads of the numbers from 0 on
pub record AreHeads (numbers : List ℕ) (p : ℕ) (heads : List ℕ) : Type 0 where
  pub each : (number : ℕ) → number < length heads → IsHead numbers p number (slice_index heads number)

-- some literal has the number of its negation
abbrev pub HasOpposite : ℕ → List ℕ → Type 0
HasOpposite vars numbers = (l : Literal) × IsUpTo vars l × (number_in numbers l ≡ number_in numbers (negation l))

-- no literal has the number of its negation
abbrev pub NoneOpposite : ℕ → List ℕ → Type 0
NoneOpposite vars numbers = (l : Literal) → IsUpTo vars l → number_in numbers l ≢ number_in numbers (negation l)

-- the variable is one of the first vars, and its image is of another
pub record IsReplaced (vars : ℕ) (images : List Literal) (v : ℕ) : Type 0 where
  pub up : IsUpTo vars (positive v)
  pub moved : (image_in images (positive v)).variable ≢ v

-- exactly the variables that are replaced
pub record AreReplaced (vars : ℕ) (images : List Literal) (vs : List ℕ) : Type 0 where
  pub each : (v : ℕ) → IsReplaced vars images v → Contains vs v
  pub only : (v : ℕ) → Contains vs v → IsReplaced vars images v

-- images are of the first vars variables
abbrev pub StaysKnown : ℕ → List Literal → Type 0
StaysKnown vars images = (l : Literal) → IsUpTo vars l → IsUpTo vars (image_in images l)
