-- Inside the techniques: where a call stands between its questions, and what a question came to.
use Rattle.std.specs.Prelude.{◌≡◌, ◌⊎◌, ◌<◌, ◌+◌, ◌==◌, ◌||◌, ℕ, Bool, true, false, List, [], ◌∷◌, Contains, drop, map, Option, Some, None, slice_index_or}
use Rattle.std.specs.List.{list_all, list_any}
use Rattle.mp_logic.specs.Literal.{Literal, negation}
use Rattle.mp_logic.specs.Truth.{literal_value, IsSatisfied}
use Rattle.mp_logic.specs.Keeping.{State}
use Rattle.mp_logic.specs.Sets.{Among, Entails}
use Rattle.mp_logic.specs.declared.instances.Cost.{Cost}
use Rattle.mp_logic.specs.declared.instances.Repair.{Repair}
use Rattle.mp_clauses.specs.Places.{place_of}
use Rattle.mp_clauses.specs.Slots.{clause_of, live_clauses}
use Rattle.mp_clauses.specs.Weighing.{costs_of, weight_in}
use Rattle.mp_store.specs.Held.{Held, labelled_of}
use Rattle.mp_store.specs.Measures.{is_covered, IsSmaller}
use Rattle.mp_store.specs.Techniques.{IsRun, IsChange}
use Rattle.core_solver.specs.declared.query.Query.{Query}
use Rattle.core_solver.specs.declared.query.Verdict.{Verdict}
use Rattle.t_probe.specs.Asking.{Asking, IsUnanswered}
use Rattle.t_probe.specs.Trimming.{CanBeFalse, trimming}
use Rattle.t_probe.specs.PairCores.{CanBothBeFalse, IsSettled, pair_core_search}
use Rattle.t_probe.specs.declared.pairs.Row.{Row}
use Rattle.t_probe.specs.declared.questions.Asked.{Asked}
use Rattle.t_probe.specs.declared.questions.Asked.TheVariants.{Found, Changed, Unknown}

-- the query is about the store, apart from what it assumes
pub record IsAbout (h : Held) (q : Query) : Type 0 where
  pub vars : q.vars ≡ h.vars
  pub hard : q.hard ≡ live_clauses h.slots

abbrev pub literals_of : List Cost → List Literal
literals_of costs = map (λ p. p.lit) costs

-- a call so far
pub record IsProbing (asking : Asking) (old now : Held) (changed : Bool) : Type 0 where
  pub run : IsRun asking.LeavesAlone old now
  pub change : IsChange changed old now
  pub unrefuted : now.refuted ≡ false

-- a change: the store is refuted, or smaller, and keeps all models
pub record IsProbeStep (asking : Asking) (old new : Held) : Type 0 where
  pub run : IsRun asking.LeavesAlone old new
  pub smaller : (new.refuted ≡ true) ⊎ IsSmaller (labelled_of new) (labelled_of old)
  pub entails : new.refuted ≡ false → Entails (live_clauses old.slots) (live_clauses new.slots)

-- the label is paid for, unless the store is refuted
pub record IsTrimStep (l : Literal) (old new : Held) : Type 0 where
  pub step : IsProbeStep trimming old new
  pub lost : new.refuted ≡ false → weight_in new.weights l ≡ 0

-- what the question whether a label can be false came to
abbrev pub IsTrimTurn : (Query → Verdict → Type 0) → Literal → Held → Held → Query → Asked → Type 0
IsTrimTurn Answers l old new q (Found a) = (new ≡ old) × IsAbout new q × IsSatisfied a (live_clauses new.slots) × (literal_value a l ≡ false)
IsTrimTurn Answers l old new q Changed = IsTrimStep l old new × (new.refuted ≡ false → IsAbout new q)
IsTrimTurn Answers l old new q (Unknown learnt) = (new ≡ old) × IsUnanswered trimming Answers q.budget (labelled_of new) q learnt

-- each label is one that waits, or can be false
pub record IsTrimming (old now : Held) (changed : Bool) (q : Query) (budget : ℕ) (waiting : List Literal) : Type 0 where
  pub probing : IsProbing trimming old now changed
  pub about : IsAbout now q
  pub given : q.budget ≡ budget
  pub labels : (p : Cost) → Contains (costs_of now.weights) p → Contains waiting p.lit ⊎ CanBeFalse p.lit (live_clauses now.slots)

-- the literal has a cost
abbrev pub IsLabel : Held → Literal → Type 0
IsLabel h l = (p : Cost) × Contains (costs_of h.weights) p × (p.lit ≡ l)

-- the pair is covered, unless the store is refuted
pub record IsPairStep (l m : Literal) (old new : Held) : Type 0 where
  pub step : IsProbeStep pair_core_search old new
  pub covered : new.refuted ≡ false → is_covered (live_clauses new.slots) l m ≡ true

-- what the question whether two labels can be false together came to
abbrev pub IsPairTurn : (Query → Verdict → Type 0) → Literal → Literal → Held → Held → Query → Asked → Type 0
IsPairTurn Answers l m old new q (Found a) = (new ≡ old) × IsAbout new q × IsSatisfied a (live_clauses new.slots) × (literal_value a l ≡ false) × (literal_value a m ≡ false)
IsPairTurn Answers l m old new q Changed = IsPairStep l m old new × (new.refuted ≡ false → IsAbout new q)
IsPairTurn Answers l m old new q (Unknown learnt) = (new ≡ old) × IsUnanswered pair_core_search Answers q.budget (labelled_of new) q learnt

-- one of the models makes both literals false
abbrev pub AreAnswered : List (List Bool) → Literal → Literal → Type 0
AreAnswered models l m = (a : List Bool) × Contains models a × (literal_value a l ≡ false) × (literal_value a m ≡ false)

-- each of the assignments is a model of the store
abbrev pub AreModels : List (List Bool) → Held → Type 0
AreModels models h = (a : List Bool) → Contains models a → IsSatisfied a (live_clauses h.slots)

-- each literal of the clause is one of the two
abbrev pub is_within : Literal → Literal → List Literal → Bool
is_within l m c = list_all (λ k. (place_of k == place_of l) || (place_of k == place_of m)) c

-- the slot has such a clause
abbrev pub slot_within : Literal → Literal → Option (List Literal) → Bool
slot_within l m None = false
slot_within l m (Some c) = is_within l m c

-- one of these ids has such a clause
abbrev pub has_within : List (Option (List Literal)) → List ℕ → Literal → Literal → Bool
has_within slots ids l m = list_any (λ id. slot_within l m (clause_of slots id)) ids

-- the labels that wait are among those behind the first one, and the others are settled with it
pub record IsRowWaiting (l : Literal) (behind waiting : List Literal) (h : Held) : Type 0 where
  pub from : Among waiting behind
  pub others : (m : Literal) → Contains behind m → Contains waiting m ⊎ IsSettled (live_clauses h.slots) l m

-- how a row ended: the store is refuted or each label is settled with the first one, or a query was not answered
abbrev pub IsRowEnd : (Query → Verdict → Type 0) → Literal → List Literal → Held → Query → Option (List (List Literal)) → Type 0
IsRowEnd Answers l behind new q None = (new.refuted ≡ true) ⊎ ((m : Literal) → Contains behind m → IsSettled (live_clauses new.slots) l m)
IsRowEnd Answers l behind new q (Some learnt) = IsUnanswered pair_core_search Answers q.budget (labelled_of new) q learnt

-- what the questions about a label and those behind it came to
pub record IsRow (Answers : Query → Verdict → Type 0) (l : Literal) (behind : List Literal) (old new : Held) (q : Query) (models : List (List Bool)) (row : Row) : Type 0 where
  pub change : IsChange row.changed old new
  pub models_are : new.refuted ≡ false → AreModels models new
  pub about : new.refuted ≡ false → IsAbout new q
  pub entails : new.refuted ≡ false → Entails (live_clauses old.slots) (live_clauses new.slots)
  pub ends : IsRowEnd Answers l behind new q row.unknown

-- a row so far
pub record IsRowUnderway (l : Literal) (behind waiting : List Literal) (old now : Held) (changed : Bool) (q : Query) (budget : ℕ) (models : List (List Bool)) : Type 0 where
  pub probing : IsProbing pair_core_search old now changed
  pub about : IsAbout now q
  pub given : q.budget ≡ budget
  pub models_are : AreModels models now
  pub entails : Entails (live_clauses old.slots) (live_clauses now.slots)
  pub row : IsRowWaiting l behind waiting now

-- the rows of the labels before a place are settled
pub record IsPairing (labels : List Literal) (place : ℕ) (old now : Held) (changed : Bool) (q : Query) (budget : ℕ) (models : List (List Bool)) : Type 0 where
  pub probing : IsProbing pair_core_search old now changed
  pub about : IsAbout now q
  pub given : q.budget ≡ budget
  pub models_are : AreModels models now
  pub rows : (k : ℕ) (d m : Literal) → k < place → Contains (drop (k + 1) labels) m → IsSettled (live_clauses now.slots) (slice_index_or labels k d) m
