-- Inside the technique: which unit clauses wait.
use Rattle.std.specs.Prelude.{◌≡◌, ◌⊎◌, ℕ, ◌<◌, List, [], ◌∷◌, Option, Some, Contains}
use Rattle.mp_logic.specs.Literal.{Literal}
use Rattle.mp_clauses.specs.Slots.{clause_of}

-- each unit clause of an id below a number waits
abbrev pub AreWaiting : List (Option (List Literal)) → ℕ → List ℕ → Type 0
AreWaiting slots seen waiting = (id : ℕ) (l : Literal) → id < seen → clause_of slots id ≡ Some (l ∷ []) → Contains waiting id

-- each unit clause waits
abbrev pub AreAllWaiting : List (Option (List Literal)) → List ℕ → Type 0
AreAllWaiting slots waiting = (id : ℕ) (l : Literal) → clause_of slots id ≡ Some (l ∷ []) → Contains waiting id

-- each waits but those of one literal
abbrev pub OthersAreWaiting : Literal → List (Option (List Literal)) → List ℕ → Type 0
OthersAreWaiting l slots waiting = (id : ℕ) (k : Literal) → clause_of slots id ≡ Some (k ∷ []) → Contains waiting id ⊎ (k ≡ l)

-- the slot has no unit clause
abbrev pub IsNoUnit : Option (List Literal) → Type 0
IsNoUnit slot = (l : Literal) → slot ≡ Some (l ∷ []) → ⊥

-- no slot has a unit clause
abbrev pub HasNoUnit : List (Option (List Literal)) → Type 0
HasNoUnit slots = (id : ℕ) → IsNoUnit (clause_of slots id)
