-- The analysis of a conflict: resolution backwards along the trail.
use Rattle.std.specs.Prelude.{◌≡◌, ◌≢◌, ◌⊎◌, ◌<◌, ◌≤◌, ℕ, Bool, true, false, List, [], ◌∷◌, ◌++◌, Contains, length, slice_index, slice_index_or}
use Rattle.mp_logic.specs.Literal.{Literal, negation}
use Rattle.mp_logic.specs.Sets.{Among}
use Rattle.mp_logic.specs.Learning.{IsPropagated, MakesFalse, IsRup}
use Rattle.core_solver.specs.declared.conflicts.Analysis.{Analysis}
use Rattle.core_solver.specs.Trails.{Assigned, IsPositionOf}
use Rattle.core_solver.specs.History.{clause_of, no_reason, IsLiteralOf}

-- the positions marked, the literals of lower levels, and the lowest position that was marked
pub record Noted : Type 0 where
  pub seen : List Bool
  pub learnt : List Literal
  pub lowest : ℕ

abbrev pub noted : Analysis → Noted
noted a = record { seen = a.seen.items; learnt = a.learnt; lowest = a.lowest }

abbrev pub is_seen : Noted → ℕ → Bool
is_seen a j = slice_index_or a.seen j false

-- a literal of the clause whose negation stands at the position
abbrev pub IsFalseAt : List Literal → List Literal → Literal → ℕ → Type 0
IsFalseAt lits c k j = Contains c k × IsPositionOf lits (negation k) j

-- the false literals of a clause are put in: those below the mark as they are, the others by their positions
pub record IsAbsorbed (lits : List Literal) (mark : ℕ) (c : List Literal) (a b : Noted) : Type 0 where
  pub size : length b.seen ≡ length a.seen
  pub learnt_kept : Among a.learnt b.learnt
  pub seen_kept : (j : ℕ) → is_seen a j ≡ true → is_seen b j ≡ true
  pub low : (k : Literal) (j : ℕ) → IsFalseAt lits c k j → j < mark → Contains b.learnt k
  pub high : (k : Literal) (j : ℕ) → IsFalseAt lits c k j → mark ≤ j → is_seen b j ≡ true
  pub learnt_from : (k : Literal) → Contains b.learnt k → Contains a.learnt k ⊎ ((j : ℕ) × IsFalseAt lits c k j × (j < mark))
  pub seen_from : (j : ℕ) → is_seen b j ≡ true → (is_seen a j ≡ true) ⊎ ((k : Literal) × IsFalseAt lits c k j × (mark ≤ j) × (b.lowest ≤ j))
  pub lower : b.lowest ≤ a.lowest
  pub lowest_from : (b.lowest ≡ a.lowest) ⊎ (is_seen b b.lowest ≡ true)

-- a literal of a lower level is put in, unless it is there
abbrev pub IsNotedLow : Literal → Noted → Noted → Type 0
IsNotedLow l a b = ((b ≡ a) × Contains a.learnt l) ⊎ (b ≡ record a { learnt = a.learnt ++ l ∷ [] })

-- a propagated list that makes the noted literals false runs into the conflict
abbrev pub RunsIn : List (List Literal) → List Literal → ℕ → Noted → Type 0
RunsIn cs lits i a = (p : List Literal) → IsPropagated p cs → MakesFalse p a.learnt
    → ((j : ℕ) (l : Literal) → j < i → is_seen a j ≡ true → IsPositionOf lits l j → Contains p l) → ⊥

-- the analysis, once it has come down to a position
pub record IsAnalysis (cs : List (List Literal)) (lits : List Literal) (mark i : ℕ) (a : Noted) : Type 0 where
  pub runs_in : RunsIn cs lits i a
  pub low : (k : Literal) → Contains a.learnt k → (j : ℕ) × IsPositionOf lits (negation k) j × (j < mark)
  pub low_known : (k : Literal) → Contains a.learnt k → IsLiteralOf cs k
  pub seen_below : (j : ℕ) → is_seen a j ≡ true → j < i
  pub seen_above : (j : ℕ) → is_seen a j ≡ true → mark ≤ j
  pub seen_least : (j : ℕ) → is_seen a j ≡ true → a.lowest ≤ j
  pub seen_known : (j : ℕ) (l : Literal) → is_seen a j ≡ true → IsPositionOf lits l j → IsLiteralOf cs (negation l)
  pub least : is_seen a a.lowest ≡ true
  pub within : i ≤ length lits

-- the clause that the conflict teaches: a literal of the last level, and others that were false below it
pub record IsTaught (cs : List (List Literal)) (lits : List Literal) (mark : ℕ) (c : List Literal) (u : Literal) (at : ℕ) : Type 0 where
  pub rup : IsRup cs c
  pub known : (k : Literal) → Contains c k → IsLiteralOf cs k
  pub own : Contains c u
  pub last : IsPositionOf lits (negation u) at
  pub above : mark ≤ at
  pub others : (k : Literal) → Contains c k → (k ≡ u) ⊎ ((j : ℕ) × IsPositionOf lits (negation k) j × (j < mark))

-- the literal stands in the clause, or was false before the first decision
abbrev pub IsKnown : List Literal → List Literal → ℕ → Literal → Type 0
IsKnown lits c base k = Contains c k ⊎ ((j : ℕ) × IsPositionOf lits (negation k) j × (j < base))

-- the literal became false by a clause whose others are known
pub record IsRedundant (cs : List (List Literal)) (t : Assigned) (c : List Literal) (base : ℕ) (l : Literal) : Type 0 where
  pub at : ℕ
  pub there : IsPositionOf t.lits (negation l) at
  pub undecided : slice_index t.reasons at ≢ no_reason
  pub others : (k : Literal) → Contains (clause_of cs (slice_index t.reasons at)) k → (k ≡ negation l) ⊎ IsKnown t.lits c base k

-- what is left of the front of a clause: the literal u, and all that isn't redundant
pub record IsMinimised (cs : List (List Literal)) (t : Assigned) (c : List Literal) (base : ℕ) (u : Literal) (front left : List Literal) : Type 0 where
  pub from : Among left front
  pub own : Contains front u → Contains left u
  pub cover : (k : Literal) → Contains front k → Contains left k ⊎ IsRedundant cs t c base k

-- no propagated list has all literals of the core, which are the literal and decisions
pub record IsExplained (cs : List (List Literal)) (t : Assigned) (l : Literal) (core : List Literal) : Type 0 where
  pub refuted : (p : List Literal) → IsPropagated p cs → Among core p → ⊥
  pub from : (k : Literal) → Contains core k → (k ≡ l) ⊎ ((m : ℕ) × Contains t.marks m × IsPositionOf t.lits k m)

-- the explanation of a false assumption, once it has come down to a position
pub record IsExplaining (cs : List (List Literal)) (t : Assigned) (l : Literal) (core : List Literal) (i : ℕ) (a : Noted) : Type 0 where
  pub runs_in : (p : List Literal) → IsPropagated p cs → Among core p → ((j : ℕ) (x : Literal) → j < i → is_seen a j ≡ true → IsPositionOf t.lits x j → Contains p x) → ⊥
  pub from : (k : Literal) → Contains core k → (k ≡ l) ⊎ ((m : ℕ) × Contains t.marks m × IsPositionOf t.lits k m)
  pub within : i ≤ length t.lits
