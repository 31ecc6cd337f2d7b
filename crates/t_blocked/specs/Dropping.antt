-- Inside the technique: the test of a clause, its rewrite, and the clauses near it.
use Rattle.std.specs.Prelude.{◌≡◌, ◌==◌, ◌&&◌, ℕ, Bool, List, [], ◌∷◌, ◌++◌, Option, Some, Contains}
use Rattle.std.specs.List.Sorted.{IsStrictlyIncreasing}
use Rattle.mp_logic.specs.Literal.{Literal, negation}
use Rattle.mp_logic.specs.Blocking.{IsBlocked, IsNear}
use Rattle.mp_logic.specs.Rewrites.{set_repair, IsNoCost}
use Rattle.mp_store.specs.declared.rewrite.Rewrite.{Rewrite}
use Rattle.mp_clauses.specs.Places.{place_of}
use Rattle.mp_store.specs.Held.{Held, IsUntouched}
use Rattle.mp_clauses.specs.Slots.{clause_of, live_clauses}
use Rattle.mp_clauses.specs.Weighing.{costs_of, weight_in}
use Rattle.mp_store.specs.Clashing.{all_clash}
use Rattle.mp_clauses.specs.Occurrences.{ids_with}
use Rattle.mp_store.specs.Rewriting.{after}
use Rattle.mp_turns.specs.Clauses.{replacing}

-- the literal has no cost, and each clause with its negation clashes with c on another variable
abbrev pub blocks : Held → List Literal → Literal → Bool
blocks h c l = (weight_in h.weights l == 0) && all_clash l.variable c h.slots (ids_with (place_of (negation l)) h.slots)

-- the rewrite that drops a clause for being blocked
abbrev pub dropping_of : ℕ → Literal → List Literal → Rewrite
dropping_of id l c = replacing (id ∷ []) [] (set_repair l c ∷ [])

-- the ids of the clauses with the negation of a literal, literal by literal
abbrev pub near_in : List (Option (List Literal)) → List Literal → List ℕ
near_in slots [] = []
near_in slots (l ∷ c) = ids_with (place_of (negation l)) slots ++ near_in slots c

-- exactly the ids of the live clauses with the negation of a literal of c, rising
pub record AreNear (c : List Literal) (slots : List (Option (List Literal))) (ids : List ℕ) : Type 0 where
  pub rising : IsStrictlyIncreasing ids
  pub each : (id : ℕ) (d : List Literal) → clause_of slots id ≡ Some d → IsNear c d → Contains ids id
  pub only : (id : ℕ) → Contains ids id → (d : List Literal) × (clause_of slots id ≡ Some d) × IsNear c d

-- a clause is dropped that was blocked on a literal without cost, and the clauses near it are named
pub record IsDropped (id : ℕ) (old new : Held) (near : List ℕ) : Type 0 where
  pub clause : List Literal
  pub lit : Literal
  pub live : clause_of old.slots id ≡ Some clause
  pub has : Contains clause lit
  pub free : IsNoCost lit (costs_of old.weights)
  pub blocked : IsBlocked lit clause (live_clauses old.slots)
  pub is : IsUntouched (after (dropping_of id lit clause) old) new
  pub named : AreNear clause old.slots near
