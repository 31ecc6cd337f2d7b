-- Binary cores: when two labels form one, what the rewrite is, and what the technique promises.
use Rattle.std.specs.Prelude.{◌≡◌, ◌≢◌, ◌⊎◌, ◌==◌, ◌&&◌, ◌+◌, ◌*◌, ◌<◌, ◌≤◌, ℕ, Bool, true, false, not, List, [], ◌∷◌, ◌++◌, Contains, length, Some}
use Rattle.std.specs.List.{filter, count_by}
use Rattle.std.specs.List.Sorted.{IsStrictlyIncreasing}
use Rattle.mp_logic.specs.Literal.{Literal}
use Rattle.mp_logic.specs.Keeping.{State}
use Rattle.mp_logic.specs.SubsumedLabels.{IsPlain}
use Rattle.mp_logic.specs.Rewrites.{set_repair}
use Rattle.mp_logic.specs.declared.instances.Cost.{Cost}
use Rattle.mp_logic.specs.declared.instances.Repair.{Repair}
use Rattle.mp_store.specs.declared.rewrite.Rewrite.{Rewrite}
use Rattle.mp_clauses.specs.Places.{place_of, literal_at, has}
use Rattle.mp_store.specs.Held.{Held, labelled_of, IsUntouched}
use Rattle.mp_clauses.specs.Slots.{clause_of, live_clauses}
use Rattle.mp_clauses.specs.Weighing.{weight_in}
use Rattle.mp_clauses.specs.Occurrences.{ids_with}
use Rattle.mp_store.specs.Measures.{IsSmaller}
use Rattle.mp_store.specs.Techniques.{Technique, IsRun}
use Rattle.t_matching.specs.Joins.{clauses_at, AreAllJoins, SplitRepairsFollow}
use Rattle.t_matching.specs.LabelPairs.{InNoPair, NoPair, on_pairs}

-- the clause has both literals
abbrev pub has_both : Literal → Literal → List Literal → Bool
has_both l m c = has (place_of l) c && has (place_of m) c

-- how many clauses have the literal
abbrev pub clauses_with : Literal → List (List Literal) → ℕ
clauses_with l cs = count_by (has (place_of l)) cs

-- two plain labels of one weight are a clause, no other clause has both, and with p and q further clauses p * q is at most p + q
pub record AreCore (l m : Literal) (s : State) : Type 0 where
  pub weight : (w : ℕ) × Contains s.costs (record { lit = l; weight = w }) × Contains s.costs (record { lit = m; weight = w })
  pub names : l.variable ≢ m.variable
  pub plain_l : IsPlain l s.hard
  pub plain_m : IsPlain m s.hard
  pub pair : (p : List Literal) × Contains s.hard p × Contains p l × Contains p m × (length p ≡ 2)
  pub one : count_by (has_both l m) s.hard ≡ 1
  pub small : (p : ℕ) × (q : ℕ) × (clauses_with l s.hard ≡ p + 1) × (clauses_with m s.hard ≡ q + 1) × (p * q ≤ p + q)

-- no label forms a core with this one; no two labels form one
abbrev pub HasNoCore : Literal → State → Type 0
HasNoCore l s = InNoPair AreCore l s

abbrev pub NoBinaryCore : State → Type 0
NoBinaryCore s = NoPair AreCore s

-- the lowest label that forms a core with this one
pub record IsLowestCore (l m : Literal) (s : State) : Type 0 where
  pub core : AreCore l m s
  pub lowest : (k : Literal) → AreCore l k s → m.variable ≤ k.variable

-- variables stay, and each cost is one that there was
pub record LeavesVariables (s t : State) (added : List Repair) : Type 0 where
  pub vars : t.vars ≡ s.vars
  pub costs : (c : Cost) → Contains t.costs c → Contains s.costs c

-- the technique: its end state is `NoBinaryCore`
abbrev pub binary_core_removal : Technique
binary_core_removal = on_pairs AreCore LeavesVariables

-- the ids but one
abbrev pub other_ids : ℕ → List ℕ → List ℕ
other_ids id ids = filter (λ x. not (x == id)) ids

-- the clauses with l or m go, those with one of them are joined, one weight is sure, and the cost of m goes
abbrev pub core_rewrite : Literal → Literal → ℕ → ℕ → Held → List (List Literal) → List Repair → Rewrite
core_rewrite l m w id h added repairs = record {
  gone = ids_with (place_of l) h.slots ++ other_ids id (ids_with (place_of m) h.slots);
  added = added;
  costs = record { lit = m; weight = 0 } ∷ [];
  shift = w;
  repairs = repairs;
  fresh = 0;
}

pub record IsCoreRewrite (l m : Literal) (h : Held) (r : Rewrite) : Type 0 where
  pub id : ℕ
  pub pair : List Literal
  pub at : clause_of h.slots id ≡ Some pair
  pub has_l : Contains pair l
  pub has_m : Contains pair m
  pub added : List (List Literal)
  pub repairs : List Repair
  pub is : r ≡ core_rewrite l m (weight_in h.weights l) id h added repairs
  pub joins : AreAllJoins (clauses_at h.slots (other_ids id (ids_with (place_of l) h.slots))) m (clauses_at h.slots (other_ids id (ids_with (place_of m) h.slots))) added
  pub split : SplitRepairsFollow l m (clauses_at h.slots (other_ids id (ids_with (place_of l) h.slots))) (clauses_at h.slots (other_ids id (ids_with (place_of m) h.slots))) (set_repair l pair ∷ []) repairs

-- no clause with one of the two literals has the variable
abbrev pub IsFarFrom : Literal → Literal → ℕ → List (List Literal) → Type 0
IsFarFrom l m v cs = (c : List Literal) → Contains cs c → Contains c l ⊎ Contains c m → (k : Literal) → Contains c k → k.variable ≢ v

-- what a rewrite of a core leaves: a smaller state, in which labels form a core only if they did before or one of their
-- variables stood in a clause that went
pub record IsCoreStep (l m : Literal) (old new : Held) : Type 0 where
  pub run : IsRun LeavesVariables old new
  pub standing : new.refuted ≡ false
  pub smaller : IsSmaller (labelled_of new) (labelled_of old)
  pub size : length (labelled_of new).costs + 1 ≡ length (labelled_of old).costs
  pub costs : (c : Cost) → Contains (labelled_of new).costs c → Contains (labelled_of old).costs c
  pub stays : (a b : Literal) → IsFarFrom l m a.variable (live_clauses old.slots) → IsFarFrom l m b.variable (live_clauses old.slots) → AreCore a b (labelled_of new) → AreCore a b (labelled_of old)

-- exactly the places of labels whose variable stands in a clause with one of the two literals, rising
pub record AreNear (l m : Literal) (h : Held) (near : List ℕ) : Type 0 where
  pub rising : IsStrictlyIncreasing near
  pub each : (a : Literal) → weight_in h.weights a ≢ 0 → Contains near (place_of a) ⊎ IsFarFrom l m a.variable (live_clauses h.slots)

-- the label with the lowest one that forms a core with it gave way to the lower of both
abbrev pub IsCoreOf : Literal → List ℕ → Held → Held → Type 0
IsCoreOf l near old new = (m : Literal) × IsLowestCore l m (labelled_of old) × AreNear l m old near × (((l.variable < m.variable) × IsCoreStep l m old new) ⊎ ((m.variable < l.variable) × IsCoreStep m l old new))

-- what a turn leaves: nothing changed, since the label forms no core; or it gave way with its partner
abbrev pub IsCoreTurn : ℕ → List ℕ → Held → Held → Bool → Type 0
IsCoreTurn item near old new false = IsUntouched old new × HasNoCore (literal_at item) (labelled_of old)
IsCoreTurn item near old new true = IsCoreOf (literal_at item) near old new

-- those of the places whose literals have a cost
abbrev pub labels_left : List ℕ → List ℕ → List ℕ
labels_left weights ps = filter (λ p. not (weight_in weights (literal_at p) == 0)) ps
