-- Unit propagation, and the clauses that a conflict teaches: reverse unit propagation (Goldberg, Novikov 2003) and
-- empowerment (Pipatsrisawat, Darwiche 2009).
use Rattle.std.specs.Prelude.{◌≡◌, ◌≢◌, ◌<◌, ◌⊎◌, ◌++◌, ◌∷◌, [], ℕ, IsTrue, List, Contains, length, take, slice_index_or}
use Rattle.mp_logic.specs.Literal.{Literal, negation}
use Rattle.mp_logic.specs.Normal.{rises}
use Rattle.mp_logic.specs.Sets.{Among, Implies}

-- no variable stands there with both signs
abbrev pub IsConsistent : List Literal → Type 0
IsConsistent p = (l : Literal) → Contains p l → Contains p (negation l) → ⊥

-- two literals of the clause are not made false
pub record AreOpen (p c : List Literal) (k l : Literal) : Type 0 where
  pub first : Contains c k
  pub second : Contains c l
  pub apart : k ≢ l
  pub first_open : Contains p (negation k) → ⊥
  pub second_open : Contains p (negation l) → ⊥

-- a literal of the clause is made true, or at least two are not made false
abbrev pub IsAtRest : List Literal → List Literal → Type 0
IsAtRest p c = ((l : Literal) × Contains c l × Contains p l) ⊎ ((k : Literal) × (l : Literal) × AreOpen p c k l)

-- a consistent list of literals that unit propagation leaves as it is, without a conflict
pub record IsPropagated (p : List Literal) (cs : List (List Literal)) : Type 0 where
  pub consistent : IsConsistent p
  pub at_rest : (c : List Literal) → Contains cs c → IsAtRest p c

-- the list makes every literal of the clause false
abbrev pub MakesFalse : List Literal → List Literal → Type 0
MakesFalse p c = (l : Literal) → Contains c l → Contains p (negation l)

-- propagation from the negations of the literals of the clause ends in a conflict
abbrev pub IsRup : List (List Literal) → List Literal → Type 0
IsRup cs c = (p : List Literal) → IsPropagated p cs → MakesFalse p c → ⊥

-- a propagated list makes all literals of the clause but u false, and leaves u open
pub record LeavesOpen (cs : List (List Literal)) (c : List Literal) (u : Literal) (p : List Literal) : Type 0 where
  pub own : Contains c u
  pub propagated : IsPropagated p cs
  pub others : (l : Literal) → Contains c l → (l ≡ u) ⊎ Contains p (negation l)
  pub not_true : Contains p u → ⊥
  pub not_false : Contains p (negation u) → ⊥

-- the clause lets propagation find what it could not find before
abbrev pub IsEmpowering : List (List Literal) → List Literal → Type 0
IsEmpowering cs c = (u : Literal) × (p : List Literal) × LeavesOpen cs c u p

-- each variable of the clause stands in one of the clauses
abbrev pub IsOver : List (List Literal) → List Literal → Type 0
IsOver cs c = (l : Literal) → Contains c l → (d : List Literal) × Contains cs d × ((k : Literal) × Contains d k × (k.variable ≡ l.variable))

-- a clause that a conflict teaches, with the clauses known before it
pub record IsLesson (hard before : List (List Literal)) (c : List Literal) : Type 0 where
  pub normal : IsTrue (rises 0 c)
  pub over : IsOver hard c
  pub rup : IsRup before c
  pub empowering : IsEmpowering before c

-- each clause is a lesson of the hard clauses and the clauses before it
abbrev pub AreLessons : List (List Literal) → List (List Literal) → Type 0
AreLessons hard ls = (k : ℕ) → k < length ls → IsLesson hard (hard ++ take k ls) (slice_index_or ls k [])

-- lessons, with one further lesson for which there was no room
abbrev pub IsLearnt : List (List Literal) → List (List Literal) → Type 0
IsLearnt hard ls = (n : List Literal) × AreLessons hard (ls ++ n ∷ [])

-- the law: each lesson is true in every model of the hard clauses
abbrev pub LessonsAreImplied : Type 0
LessonsAreImplied = (hard ls : List (List Literal)) → AreLessons hard ls → (c : List Literal) → Contains ls c → Implies hard c

-- the law: no lesson contains a clause that was known before it
abbrev pub LessonsAreNew : Type 0
LessonsAreNew = (hard ls : List (List Literal)) → AreLessons hard ls → (k : ℕ) → k < length ls
    → (d : List Literal) → Contains (hard ++ take k ls) d → Among d (slice_index_or ls k []) → ⊥
