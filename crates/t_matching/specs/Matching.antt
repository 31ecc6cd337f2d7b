-- Label matching: when two labels match, what the rewrite is, and what the technique promises.
use Rattle.std.specs.Prelude.{◌≡◌, ◌≢◌, ◌⊎◌, ◌+◌, ◌<◌, ◌≤◌, ℕ, Bool, true, false, List, [], ◌∷◌, Contains, length}
use Rattle.mp_logic.specs.Literal.{Literal}
use Rattle.mp_logic.specs.Keeping.{State}
use Rattle.mp_logic.specs.SubsumedLabels.{IsPlain}
use Rattle.mp_logic.specs.LabelMatching.{Conflict}
use Rattle.mp_logic.specs.declared.instances.Cost.{Cost}
use Rattle.mp_logic.specs.declared.instances.Repair.{Repair}
use Rattle.mp_store.specs.declared.rewrite.Rewrite.{Rewrite}
use Rattle.mp_clauses.specs.Places.{place_of, literal_at}
use Rattle.mp_clauses.specs.Slots.{live_clauses}
use Rattle.mp_store.specs.Held.{Held, labelled_of, IsUntouched}
use Rattle.mp_clauses.specs.Weighing.{weight_in}
use Rattle.mp_clauses.specs.Occurrences.{ids_with}
use Rattle.mp_store.specs.Measures.{IsSmaller}
use Rattle.mp_store.specs.Techniques.{Technique, IsRun}
use Rattle.t_matching.specs.LabelPairs.{InNoPair, NoPair, on_pairs}
use Rattle.t_matching.specs.Labels.{IsUnused}
use Rattle.t_matching.specs.Joins.{clauses_at, AreJoinsOf, SplitRepairsFollow}

-- two plain labels of one weight such that no clause has both, and each clause with the one conflicts with each with the other
pub record AreMatching (l m : Literal) (s : State) : Type 0 where
  pub weight : (w : ℕ) × Contains s.costs (record { lit = l; weight = w }) × Contains s.costs (record { lit = m; weight = w })
  pub names : l.variable ≢ m.variable
  pub plain_l : IsPlain l s.hard
  pub plain_m : IsPlain m s.hard
  pub apart : (c : List Literal) → Contains s.hard c → Contains c l → Contains c m → ⊥
  pub conflict : (c d : List Literal) → Contains s.hard c → Contains s.hard d → Contains c l → Contains d m → Conflict l m c d

-- no label matches this one; no two labels match
abbrev pub HasNoMatch : Literal → State → Type 0
HasNoMatch l s = InNoPair AreMatching l s

abbrev pub NoMatching : State → Type 0
NoMatching s = NoPair AreMatching s

-- the lowest label that matches
pub record IsLowestMatch (l m : Literal) (s : State) : Type 0 where
  pub matching : AreMatching l m s
  pub lowest : (k : Literal) → AreMatching l k s → m.variable ≤ k.variable

-- variables and the offset stay, and each cost is one that there was
pub record LeavesOffset (s t : State) (added : List Repair) : Type 0 where
  pub vars : t.vars ≡ s.vars
  pub offset : t.offset ≡ s.offset
  pub costs : (c : Cost) → Contains t.costs c → Contains s.costs c

-- the technique: its end state is `NoMatching`
abbrev pub label_matching : Technique
label_matching = on_pairs AreMatching LeavesOffset

-- in the clauses with m, l stands in its place, and the cost of m goes
abbrev pub matching_rewrite : Literal → Held → List (List Literal) → List Repair → Rewrite
matching_rewrite m h added repairs = record { gone = ids_with (place_of m) h.slots; added = added; costs = record { lit = m; weight = 0 } ∷ []; shift = 0; repairs = repairs; fresh = 0 }

pub record IsMatchingRewrite (l m : Literal) (h : Held) (r : Rewrite) : Type 0 where
  pub added : List (List Literal)
  pub repairs : List Repair
  pub is : r ≡ matching_rewrite m h added repairs
  pub joins : AreJoinsOf (l ∷ []) m (clauses_at h.slots (ids_with (place_of m) h.slots)) added
  pub split : SplitRepairsFollow l m (clauses_at h.slots (ids_with (place_of l) h.slots)) (clauses_at h.slots (ids_with (place_of m) h.slots)) [] repairs

-- what a rewrite of two labels that match leaves: a smaller state, in which no two labels match, no label is plain and none
-- is in no clause that was not so before
pub record IsMatchStep (l m : Literal) (old new : Held) : Type 0 where
  pub run : IsRun LeavesOffset old new
  pub standing : new.refuted ≡ false
  pub smaller : IsSmaller (labelled_of new) (labelled_of old)
  pub size : length (labelled_of new).costs + 1 ≡ length (labelled_of old).costs
  pub costs : (c : Cost) → Contains (labelled_of new).costs c → Contains (labelled_of old).costs c
  pub lost : weight_in new.weights m ≡ 0
  pub fewer : (a b : Literal) → AreMatching a b (labelled_of new) → AreMatching a b (labelled_of old)
  pub plain : (a : Literal) → weight_in new.weights a ≢ 0 → IsPlain a (live_clauses new.slots) → IsPlain a (live_clauses old.slots)
  pub unused : (a : Literal) → weight_in new.weights a ≢ 0 → IsUnused a (live_clauses new.slots) → IsUnused a (live_clauses old.slots)

-- the label and the lowest one that matches it became one, the lower of both
abbrev pub IsMatchOf : Literal → Held → Held → Type 0
IsMatchOf l old new = (m : Literal) × IsLowestMatch l m (labelled_of old) × (((l.variable < m.variable) × IsMatchStep l m old new) ⊎ ((m.variable < l.variable) × IsMatchStep m l old new))

-- what a turn leaves: nothing changed, since no label matches this one; or it became one with its partner
abbrev pub IsMatchTurn : ℕ → Held → Held → Bool → Type 0
IsMatchTurn item old new false = IsUntouched old new × HasNoMatch (literal_at item) (labelled_of old)
IsMatchTurn item old new true = IsMatchOf (literal_at item) old new
