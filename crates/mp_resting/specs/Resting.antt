-- When candidates need no look: in a store before, none admitted a change, and nothing has touched these since.
use Rattle.std.specs.Prelude.{◌≡◌, ◌⊎◌, ℕ, ◌<◌, ◌≤◌, Bool, true, List, suc, length, Contains, Some, slice_index_or}
use Rattle.mp_logic.specs.Literal.{Literal, negation, IsUpTo}
use Rattle.mp_clauses.specs.Places.{place_of}
use Rattle.mp_clauses.specs.Slots.{clause_of}
use Rattle.mp_clauses.specs.Tables.{marked}
use Rattle.mp_clauses.specs.Occurrences.{ids_with}
use Rattle.mp_clauses.specs.Weighing.{weight_in}
use Rattle.mp_store.specs.Held.{Held}
use Rattle.mp_resting.specs.declared.seen.Seen.{Seen}

-- one store comes before another: an id has its clause for good, so of the ids that were given some clauses went and none came
pub record IsBefore (before now : Held) : Type 0 where
  pub next : length before.slots ≤ length now.slots
  pub ids : (id : ℕ) (c : List Literal) → id < length before.slots → clause_of now.slots id ≡ Some c → clause_of before.slots id ≡ Some c

-- the literal is one of the store's, and neither it nor its negation has a cost
pub record IsFree (l : Literal) (h : Held) : Type 0 where
  pub within : IsUpTo h.vars l
  pub own : weight_in h.weights l ≡ 0
  pub turned : weight_in h.weights (negation l) ≡ 0

-- one more than the number of clauses with a literal that is free; or 0
abbrev pub IsCount : Literal → Held → ℕ → Type 0
IsCount l h n = (m : ℕ) → n ≡ suc m → (m ≡ length (ids_with (place_of l) h.slots)) × IsFree l h

-- the same of each literal, by place
abbrev pub AreCounts : List ℕ → Held → Type 0
AreCounts counts h = (l : Literal) → IsCount l h (slice_index_or counts (place_of l) 0)

-- what was remembered when the store was as it was before
pub record IsSeen (seen : Seen) (before now : Held) : Type 0 where
  pub mark : seen.mark ≡ length before.slots
  pub counts : AreCounts seen.counts before
  pub before_is : IsBefore before now

-- each clause that had the literal is still there, and its variable had no cost
pub record HasKept (before now : Held) (l : Literal) : Type 0 where
  pub clauses : (id : ℕ) (c : List Literal) → clause_of before.slots id ≡ Some c → Contains c l → clause_of now.slots id ≡ Some c
  pub free : IsFree l before

-- nothing is remembered, or a store before in which all were idle
abbrev pub IsRested : (Held → ℕ → Type 0) → Seen → Held → Type 0
IsRested IsIdle seen now = (seen.mark ≡ 0) ⊎ ((before : Held) × IsSeen seen before now × ((i : ℕ) → IsIdle before i))

-- the marked literals have kept their clauses
abbrev pub AreKept : List Bool → Held → Held → Type 0
AreKept marks before now = (l : Literal) → marked marks (place_of l) ≡ true → HasKept before now l

-- the same, whatever store is remembered
abbrev pub AreKeptSince : List Bool → Seen → Held → Type 0
AreKeptSince marks seen now = (before : Held) → IsSeen seen before now → AreKept marks before now

-- nothing is remembered, or a store before in which all were idle and since which the marked literals have kept their clauses
abbrev pub IsRestedBy : (Held → ℕ → Type 0) → Seen → List Bool → Held → Type 0
IsRestedBy IsIdle seen marks now = (seen.mark ≡ 0) ⊎ ((before : Held) × IsSeen seen before now × ((i : ℕ) → IsIdle before i) × AreKept marks before now)

-- whether an id is touched, by marks of those below a mark
abbrev pub is_touched : List Bool → ℕ → Bool
is_touched marks id = slice_index_or marks id true
