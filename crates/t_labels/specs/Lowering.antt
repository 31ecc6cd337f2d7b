-- What making a label false leaves, and which labels are near it.
use Rattle.std.specs.Prelude.{◌≡◌, ◌≢◌, ◌⊎◌, ℕ, List, [], ◌∷◌, Contains}
use Rattle.std.specs.List.Sorted.{IsStrictlyIncreasing}
use Rattle.mp_logic.specs.Literal.{Literal, negation}
use Rattle.mp_logic.specs.SubsumedLabels.{IsPlain}
use Rattle.mp_clauses.specs.Places.{place_of}
use Rattle.mp_clauses.specs.Slots.{live_clauses}
use Rattle.mp_clauses.specs.Weighing.{weight_in}
use Rattle.mp_store.specs.Held.{Held, IsUntouched}
use Rattle.mp_store.specs.Rewriting.{after}
use Rattle.mp_store.specs.Fixing.{fixing_of}

-- a label is false for good
abbrev pub IsLowered : Literal → Held → Held → Type 0
IsLowered l old new = IsUntouched (after (fixing_of (negation l ∷ []) old) old) new

-- some clause has both literals
abbrev pub StandsWith : Literal → Literal → List (List Literal) → Type 0
StandsWith m k cs = (c : List Literal) × Contains cs c × Contains c m × Contains c k

-- exactly the literals of the clauses with m
pub record AreWith (m : Literal) (cs : List (List Literal)) (ks : List Literal) : Type 0 where
  pub each : (k : Literal) → StandsWith m k cs → Contains ks k
  pub only : (k : Literal) → Contains ks k → StandsWith m k cs

-- a label whose negation is among these literals is plain
pub record IsFreed (gone : List Literal) (h : Held) (b : Literal) : Type 0 where
  pub label : weight_in h.weights b ≢ 0
  pub was : Contains gone (negation b)
  pub plain : IsPlain b (live_clauses h.slots)

-- among these literals, those of clauses that went and those of clauses that were shortened, or in a clause with a label that
-- became plain
abbrev pub IsBeside : List Literal → List Literal → Held → Literal → Type 0
IsBeside gone cut h k = Contains gone k ⊎ (Contains cut k ⊎ ((b : Literal) × IsFreed gone h b × StandsWith b k (live_clauses h.slots)))

-- exactly the places of such labels, rising
pub record AreNear (gone cut : List Literal) (h : Held) (near : List ℕ) : Type 0 where
  pub rising : IsStrictlyIncreasing near
  pub each : (k : Literal) → weight_in h.weights k ≢ 0 → IsBeside gone cut h k → Contains near (place_of k)
  pub only : (i : ℕ) → Contains near i → (k : Literal) × (i ≡ place_of k) × (weight_in h.weights k ≢ 0) × IsBeside gone cut h k
