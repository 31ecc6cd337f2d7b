-- Inside the techniques: where unit propagation stands.
use Rattle.std.specs.Prelude.{◌≡◌, ◌⊎◌, ℕ, ◌<◌, ◌≤◌, Bool, true, cond, IsTrue, List, ◌++◌, Option, Some, Contains, length, drop, map, slice_index_or}
use Rattle.mp_logic.specs.Literal.{Literal, negation, IsUpTo}
use Rattle.mp_logic.specs.Learning.{IsConsistent, IsAtRest, MakesFalse, IsPropagated}
use Rattle.mp_logic.specs.Truth.{literal_value, IsSatisfied}
use Rattle.mp_clauses.specs.Places.{place_of, has, no_repeats}
use Rattle.mp_clauses.specs.Slots.{clause_of, live_clauses}
use Rattle.mp_clauses.specs.Tables.{marked}
use Rattle.mp_store.specs.Held.{Held}
use Rattle.mp_store.specs.Measures.{occurs}
use Rattle.t_failed.specs.Failed.{IsUnfailed}
use Rattle.t_failed.specs.declared.propagation.Looked.{Looked}
use Rattle.t_failed.specs.declared.propagation.Looked.TheVariants.{AtRest, Unit, Conflict}

-- the table marks the literals of the list, of which none comes twice or with its negation
pub record IsMarked (marks : List Bool) (lits : List Literal) : Type 0 where
  pub each : (p : ℕ) → marked marks p ≡ has p lits
  pub once : IsTrue (no_repeats (map place_of lits))
  pub consistent : IsConsistent lits

-- the literals are of variables from 1 to a number
abbrev pub AreUpTo : ℕ → List Literal → Type 0
AreUpTo vars p = (l : Literal) → Contains p l → IsUpTo vars l

-- the list has the negation of each literal of the clause but one
abbrev pub OthersAreFalse : List Literal → List Literal → Literal → Type 0
OthersAreFalse p c l = (k : Literal) → Contains c k → (k ≡ l) ⊎ Contains p (negation k)

-- the list leaves the clause as it is, has the negations of all its literals but one, or of all
abbrev pub IsLooked : List Literal → List Literal → Looked → Type 0
IsLooked p c AtRest = IsAtRest p c
IsLooked p c (Unit l) = Contains c l × (Contains p l → ⊥) × (Contains p (negation l) → ⊥) × OthersAreFalse p c l
IsLooked p c Conflict = MakesFalse p c

-- the literals of the clause at places from one number to another are false
abbrev pub AreFalseFrom : List Literal → List Literal → ℕ → ℕ → Type 0
AreFalseFrom p c from end = (k : ℕ) (l : Literal) → from ≤ k → k < end → k < length c → slice_index_or c k l ≡ l → Contains p (negation l)

-- the first literal of the clause from a place on that is not false
pub record IsNextOpen (p c : List Literal) (from found : ℕ) : Type 0 where
  pub least : from ≤ found
  pub within : found < length c
  pub before : AreFalseFrom p c from found
  pub not_false : (l : Literal) → slice_index_or c found l ≡ l → Contains p (negation l) → ⊥

-- the clause is at rest, or a literal of it became false at the position or later
abbrev pub IsSettled : List Literal → ℕ → List Literal → Type 0
IsSettled p n c = IsAtRest p c ⊎ ((k : Literal) × Contains c k × Contains (drop n p) (negation k))

abbrev pub AreSettled : List (List Literal) → List Literal → ℕ → Type 0
AreSettled cs p n = (c : List Literal) → Contains cs c → IsSettled p n c

-- the assignment makes the literals true whose variables occur
abbrev pub Agrees : List (List Literal) → List Bool → List Literal → Type 0
Agrees cs a p = (l : Literal) → Contains p l → occurs l.variable cs ≡ true → literal_value a l ≡ true

-- no model makes the literals true
abbrev pub IsRefuted : List (List Literal) → List Literal → Type 0
IsRefuted cs p = (a : List Bool) → IsSatisfied a cs → Agrees cs a p → ⊥

-- the list grew by literals that occur in the clauses and that these force
pub record IsExtended (vars : ℕ) (cs : List (List Literal)) (old new : List Literal) : Type 0 where
  pub more : List Literal
  pub is : new ≡ old ++ more
  pub within : AreUpTo vars old → AreUpTo vars new
  pub occur : (l : Literal) → Contains more l → occurs l.variable cs ≡ true
  pub forced : (a : List Bool) → IsSatisfied a cs → Agrees cs a old → Agrees cs a new

-- propagation of all clauses without a literal to begin with: it ended in a conflict, or here
pub record IsRoot (h : Held) (p : List Literal) (refuted : Bool) : Type 0 where
  pub within : AreUpTo h.vars p
  pub implied : (a : List Bool) → IsSatisfied a (live_clauses h.slots) → Agrees (live_clauses h.slots) a p
  pub state : cond refuted ((a : List Bool) → IsSatisfied a (live_clauses h.slots) → ⊥) (IsPropagated p (live_clauses h.slots))

-- the clauses of ids below a number are settled
abbrev pub AreSettledBelow : List (Option (List Literal)) → ℕ → List Literal → ℕ → Type 0
AreSettledBelow slots least p n = (id : ℕ) (c : List Literal) → id < least → clause_of slots id ≡ Some c → IsSettled p n c

-- the same, of the clauses of ids below a number alone
pub record IsRootBelow (h : Held) (least : ℕ) (p : List Literal) (refuted : Bool) : Type 0 where
  pub within : AreUpTo h.vars p
  pub implied : (a : List Bool) → IsSatisfied a (live_clauses h.slots) → Agrees (live_clauses h.slots) a p
  pub state : cond refuted ((a : List Bool) → IsSatisfied a (live_clauses h.slots) → ⊥) (AreSettledBelow h.slots least p (length p))

-- the literals do not fail
abbrev pub AreKnown : List (List Literal) → List Literal → Type 0
AreKnown cs known = (l : Literal) → Contains known l → IsUnfailed cs l

-- the variables of the literals occur
abbrev pub IsMentioned : List (List Literal) → List Literal → Type 0
IsMentioned cs p = (l : Literal) → Contains p l → occurs l.variable cs ≡ true

-- the list grew at its end
abbrev pub IsGrown : List Literal → List Literal → Type 0
IsGrown old new = (more : List Literal) × (new ≡ old ++ more)

-- no model makes the literal true
abbrev pub IsFailed : List (List Literal) → Literal → Type 0
IsFailed cs l = (a : List Bool) → IsSatisfied a cs → literal_value a l ≡ true → ⊥

-- a literal was made true and what follows from it, without a conflict
pub record IsProbed (h : Held) (old : List Literal) (l : Literal) (p : List Literal) : Type 0 where
  pub propagated : IsPropagated p (live_clauses h.slots)
  pub own : Contains p l
  pub within : AreUpTo h.vars p
  pub forced : (a : List Bool) → IsSatisfied a (live_clauses h.slots) → literal_value a l ≡ true → Agrees (live_clauses h.slots) a p
  pub occur : IsMentioned (live_clauses h.slots) old → (k : Literal) → Contains p k → (k ≡ l) ⊎ (occurs k.variable (live_clauses h.slots) ≡ true)
