-- The rewrite that eliminates a variable, and what a turn leaves.
use Rattle.std.specs.Prelude.{◌≡◌, ◌==◌, ◌&&◌, ℕ, Bool, true, List, ◌++◌, Option, Some, Contains, nat_lt, nat_le}
use Rattle.std.specs.Cmp.Lexicographic.{slice_cmp}
use Rattle.std.specs.List.Sorted.{IsStrictlyIncreasing, IsPermutation, IsSortedByKey}
use Rattle.mp_logic.specs.Literal.{Literal}
use Rattle.mp_logic.specs.Normal.{lit_cmp}
use Rattle.mp_logic.specs.Eliminating.{elimination_repairs}
use Rattle.mp_logic.specs.Sets.{IsWithList}
use Rattle.mp_logic.specs.declared.instances.Repair.{Repair}
use Rattle.mp_store.specs.declared.rewrite.Rewrite.{Rewrite}
use Rattle.mp_clauses.specs.Places.{place_of}
use Rattle.mp_store.specs.Held.{Held}
use Rattle.mp_clauses.specs.Slots.{clause_of, live_clauses}
use Rattle.mp_clauses.specs.Weighing.{weight_in}
use Rattle.mp_clauses.specs.Occurrences.{ids_with}
use Rattle.mp_store.specs.Rewriting.{after}
use Rattle.mp_store.specs.Measures.{occurs}
use Rattle.mp_store.specs.Held.{IsUntouched}
use Rattle.mp_turns.specs.Clauses.{replacing}
use Rattle.t_elim.specs.Resolving.{resolvents_of}
use Rattle.t_elim.specs.Eliminating.{positive, negative_of, having, PaysOff}

-- the variable is one of the store, has no cost and occurs
unfoldable pub is_candidate : Held → ℕ → Bool
is_candidate h v = ((nat_lt 0 v && nat_le v h.vars) && ((weight_in h.weights (positive v) == 0) && (weight_in h.weights (negative_of v) == 0))) && occurs v (live_clauses h.slots)

-- the ids of the clauses with a variable, those with its positive literal first
abbrev pub ids_on : ℕ → List (Option (List Literal)) → List ℕ
ids_on v slots = ids_with (place_of (positive v)) slots ++ ids_with (place_of (negative_of v)) slots

-- the rewrite that eliminates a variable, given the clauses with its positive literal in the order of their repairs
abbrev pub elimination_of : ℕ → List (List Literal) → Held → Rewrite
elimination_of v ws h =
    replacing (ids_on v h.slots) (resolvents_of v h.slots (ids_with (place_of (positive v)) h.slots) (ids_with (place_of (negative_of v)) h.slots)) (elimination_repairs (positive v) ws)

-- the repairs are for the clauses with the literal, in the order of clauses
abbrev pub AreRepairs : Literal → List (List Literal) → List Repair → Type 0
AreRepairs l cs rs = (ws : List (List Literal)) × IsPermutation cs ws × IsSortedByKey (λ (c : List Literal). c) (slice_cmp lit_cmp) ws × (rs ≡ elimination_repairs l ws)

-- the rewrite eliminates a variable
abbrev pub Eliminates : ℕ → Held → Rewrite → Type 0
Eliminates v h r = (ws : List (List Literal)) × IsWithList (positive v) (live_clauses h.slots) ws × (r ≡ elimination_of v ws h)

-- a variable is eliminated from one store to the next
abbrev pub AreEliminated : ℕ → Held → Held → Type 0
AreEliminated v old new = (ws : List (List Literal)) × IsWithList (positive v) (live_clauses old.slots) ws × IsUntouched (after (elimination_of v ws old) old) new

-- a variable u stands in a clause with the variable v
abbrev pub StandsBeside : ℕ → List (Option (List Literal)) → ℕ → Type 0
StandsBeside v slots u = (id : ℕ) × (c : List Literal) × (k : Literal) × Contains (ids_on v slots) id × (clause_of slots id ≡ Some c) × Contains c k × (k.variable ≡ u)

-- exactly the variables of the clauses with a variable, rising
pub record AreBeside (v : ℕ) (slots : List (Option (List Literal))) (near : List ℕ) : Type 0 where
  pub rising : IsStrictlyIncreasing near
  pub each : (u : ℕ) → StandsBeside v slots u → Contains near u
  pub only : (u : ℕ) → Contains near u → StandsBeside v slots u

-- exactly the variables that stood in a clause that went and are candidates now, rising
pub record AreNear (v : ℕ) (old new : Held) (near : List ℕ) : Type 0 where
  pub rising : IsStrictlyIncreasing near
  pub each : (u : ℕ) → StandsBeside v old.slots u → is_candidate new u ≡ true → Contains near u
  pub only : (u : ℕ) → Contains near u → StandsBeside v old.slots u × (is_candidate new u ≡ true)

-- a variable without cost that occurs and pays off is eliminated, and the variables near it are named
pub record IsEliminatedAt (v : ℕ) (old new : Held) (near : List ℕ) : Type 0 where
  pub candidate : is_candidate old v ≡ true
  pub pays : PaysOff v (having (positive v) (live_clauses old.slots)) (having (negative_of v) (live_clauses old.slots))
  pub repaired : List (List Literal)
  pub repaired_with : IsWithList (positive v) (live_clauses old.slots) repaired
  pub is : IsUntouched (after (elimination_of v repaired old) old) new
  pub named : AreNear v old new near
