-- Rewrites that replace clauses and leave all costs as they are.
use Rattle.std.specs.Prelude.{◌≡◌, ◌≢◌, ◌⊎◌, ℕ, ◌+◌, ◌<◌, ◌≤◌, true, false, List, [], ◌++◌, length, map, Option, Some, None, sum_by, All, IsTrue, Contains}
use Rattle.mp_logic.specs.Literal.{Literal, IsUpTo}
use Rattle.mp_logic.specs.Labelled.{IsProper}
use Rattle.mp_logic.specs.Normal.{rises}
use Rattle.mp_logic.specs.Sets.{Among, with_hard}
use Rattle.mp_logic.specs.Rewrites.{IsNoCost}
use Rattle.mp_logic.specs.declared.instances.Cost.{Cost}
use Rattle.mp_store.specs.declared.rewrite.Rewrite.{Rewrite}
use Rattle.mp_clauses.specs.Places.{is_in, no_repeats}
use Rattle.mp_store.specs.Held.{Held, labelled_of}
use Rattle.mp_clauses.specs.Slots.{clause_of, is_live, live_clauses}
use Rattle.mp_clauses.specs.Slots.{cleared}
use Rattle.mp_store.specs.Rewriting.{changed_by, IsValid}
use Rattle.mp_store.specs.Soundness.{IsStore}
use Rattle.mp_store.specs.Measures.{occurring, is_covered, IsSmaller}

-- nothing but clauses and repairs change
pub record KeepsCosts (r : Rewrite) : Type 0 where
  pub costs : r.costs ≡ []
  pub shift : r.shift ≡ 0
  pub fresh : r.fresh ≡ 0

-- the slots once the clauses of these ids went and the others came
abbrev pub replaced : List ℕ → List (List Literal) → List (Option (List Literal)) → List (Option (List Literal))
replaced gone added slots = cleared gone slots ++ map Some added

-- the live clauses after a rewrite
abbrev pub clauses_after : Rewrite → Held → List (List Literal)
clauses_after r h = live_clauses (replaced r.gone r.added h.slots)

-- the law: such a rewrite leaves the labelled state with other clauses
abbrev pub ReplacingLeaves : Type 0
ReplacingLeaves = (r : Rewrite) (h : Held) → KeepsCosts r → labelled_of (changed_by r h) ≡ with_hard (labelled_of h) (clauses_after r h)

-- as a set, the clauses ds are those of the slots without the ones of the ids that went, and with the added ones
pub record AreReplaced (gone : List ℕ) (added : List (List Literal)) (slots : List (Option (List Literal))) (ds : List (List Literal)) : Type 0 where
  pub kept : (id : ℕ) (c : List Literal) → clause_of slots id ≡ Some c → is_in id gone ≡ false → Contains ds c
  pub come : (c : List Literal) → Contains added c → Contains ds c
  pub only : (c : List Literal) → Contains ds c → ((id : ℕ) × (clause_of slots id ≡ Some c) × (is_in id gone ≡ false)) ⊎ Contains added c

abbrev pub ReplacedClauses : Type 0
ReplacedClauses = (gone : List ℕ) (added : List (List Literal)) (slots : List (Option (List Literal))) → AreReplaced gone added slots (live_clauses (replaced gone added slots))

-- by id: what went is gone, what stays is as it was, and what came has the next ids in order
pub record AreReplacedById (gone : List ℕ) (added : List (List Literal)) (slots new : List (Option (List Literal))) : Type 0 where
  pub gone_ids : (id : ℕ) → is_in id gone ≡ true → id < length slots → clause_of new id ≡ None
  pub kept_ids : (id : ℕ) → is_in id gone ≡ false → id < length slots → clause_of new id ≡ clause_of slots id
  pub new_ids : (k : ℕ) (c : List Literal) → clause_of new (length slots + k) ≡ Some c → Contains added c
  pub len : length new ≡ length slots + length added

abbrev pub ReplacedIds : Type 0
ReplacedIds = (gone : List ℕ) (added : List (List Literal)) (slots : List (Option (List Literal))) → AreReplacedById gone added slots (replaced gone added slots)

-- what a clause that may be gone comes to
abbrev pub slot_worth : (List Literal → ℕ) → Option (List Literal) → ℕ
slot_worth f None = 0
slot_worth f (Some c) = f c

-- what the clauses of these ids come to
abbrev pub worth_of : (List Literal → ℕ) → List (Option (List Literal)) → List ℕ → ℕ
worth_of f slots ids = sum_by (λ id. slot_worth f (clause_of slots id)) ids

-- the law: each sum over clauses changes by what goes and what comes
abbrev pub ReplacedSums : Type 0
ReplacedSums = (f : List Literal → ℕ) (gone : List ℕ) (added : List (List Literal)) (slots : List (Option (List Literal))) → IsTrue (no_repeats gone)
    → sum_by f (live_clauses (replaced gone added slots)) + worth_of f slots gone ≡ sum_by f (live_clauses slots) + sum_by f added

-- the law: so does the number of clauses
abbrev pub ReplacedCount : Type 0
ReplacedCount = (gone : List ℕ) (added : List (List Literal)) (slots : List (Option (List Literal))) → All (λ id. is_live slots id ≡ true) gone → IsTrue (no_repeats gone)
    → length (live_clauses (replaced gone added slots)) + length gone ≡ length (live_clauses slots) + length added

-- the rewrite may be applied: what goes is live and named once, what comes is normal and within, repairs are proper
pub record IsReplacement (r : Rewrite) (h : Held) : Type 0 where
  pub keeps_costs : KeepsCosts r
  pub gone_live : All (λ id. is_live h.slots id ≡ true) r.gone
  pub gone_distinct : IsTrue (no_repeats r.gone)
  pub added_normal : All (λ c. IsTrue (rises 0 c)) r.added
  pub added_within : All (All (IsUpTo h.vars)) r.added
  pub repairs_proper : All (IsProper h.vars) r.repairs

abbrev pub ReplacementIsValid : Type 0
ReplacementIsValid = (r : Rewrite) (h : Held) → IsStore h → IsReplacement r h → IsValid r h

-- each clause that goes has a literal without cost, or has all literals of a clause that is there afterwards: so no pair of
-- cost literals is uncovered
abbrev pub CoversStay : List Cost → List (Option (List Literal)) → List ℕ → List (List Literal) → Type 0
CoversStay ps slots gone ds = (id : ℕ) (c : List Literal) → is_in id gone ≡ true → clause_of slots id ≡ Some c → ((l : Literal) × Contains c l × IsNoCost l ps) ⊎ ((d : List Literal) × Contains ds d × Among d c)

-- fewer clauses come than go; or as many, and fewer variables occur; or as many, and what comes has fewer literals
abbrev pub GetFewer : Rewrite → Held → Type 0
GetFewer r h = (length r.added < length r.gone) ⊎ ((length r.added ≡ length r.gone) × ((occurring h.vars (clauses_after r h) < occurring h.vars (live_clauses h.slots)) ⊎ ((occurring h.vars (clauses_after r h) ≤ occurring h.vars (live_clauses h.slots)) × (sum_by length r.added < worth_of length h.slots r.gone))))

-- the law: then the state gets smaller
abbrev pub ReplacingIsSmaller : Type 0
ReplacingIsSmaller = (r : Rewrite) (h : Held) → IsReplacement r h → CoversStay (labelled_of h).costs h.slots r.gone (clauses_after r h) → GetFewer r h → IsSmaller (labelled_of (changed_by r h)) (labelled_of h)

-- the law: where no clause goes and a pair of cost literals gets covered, the state gets smaller
abbrev pub CoveringIsSmaller : Type 0
CoveringIsSmaller = (r : Rewrite) (h : Held) (p q : Cost) → KeepsCosts r → r.gone ≡ [] → Contains (labelled_of h).costs p → Contains (labelled_of h).costs q → p.lit ≢ q.lit
    → is_covered (live_clauses h.slots) p.lit q.lit ≡ false → is_covered (live_clauses h.slots) q.lit p.lit ≡ false
    → is_covered (clauses_after r h) p.lit q.lit ≡ true → is_covered (clauses_after r h) q.lit p.lit ≡ true
    → IsSmaller (labelled_of (changed_by r h)) (labelled_of h)
