-- Clauses with all literals of another.
use Rattle.std.specs.Prelude.{◌≡◌, ◌≢◌, ℕ, ◌<◌, ◌≤◌, ◌==◌, ◌&&◌, Bool, true, false, not, cond, List, [], ◌∷◌, Option, Some, None, IsTrue, Contains, length, drop, nat_lt, nat_eq, slice_index_or}
use Rattle.std.specs.Bool.{beq}
use Rattle.mp_logic.specs.Literal.{Literal}
use Rattle.mp_logic.specs.Sets.{Among}
use Rattle.mp_clauses.specs.Places.{no_repeats}
use Rattle.mp_clauses.specs.Slots.{clause_of}

abbrev pub same_literal : Literal → Literal → Bool
same_literal a b = nat_eq a.variable b.variable && beq a.negative b.negative

-- all literals of the first clause are found in the second, both being in order of variable
abbrev pub embeds : List Literal → List Literal → Bool
embeds [] [] = true
embeds (x ∷ c) [] = false
embeds [] (y ∷ d) = true
embeds (x ∷ c) (y ∷ d) = cond (nat_lt x.variable y.variable) false (cond (same_literal x y) (embeds c d) (embeds (x ∷ c) d))

abbrev pub slot_embeds : List Literal → Option (List Literal) → Bool
slot_embeds c None = false
slot_embeds c (Some d) = embeds c d

-- an id other than one has a clause with all these literals
abbrev pub holds : List (Option (List Literal)) → List Literal → ℕ → ℕ → Bool
holds slots c own id = not (id == own) && slot_embeds c (clause_of slots id)

-- exactly the ids, but one, of the clauses with all these literals, each once
pub record AreHolders (slots : List (Option (List Literal))) (c : List Literal) (own : ℕ) (ids : List ℕ) : Type 0 where
  pub once : IsTrue (no_repeats ids)
  pub each : (j : ℕ) → Contains ids j → (d : List Literal) × (clause_of slots j ≡ Some d) × (j ≢ own) × Among c d
  pub all : (j : ℕ) (d : List Literal) → clause_of slots j ≡ Some d → j ≢ own → Among c d → Contains ids j

-- no id below one, but its own, has a clause with all these literals
abbrev pub HasNoHolderBelow : ℕ → List (Option (List Literal)) → List Literal → ℕ → Type 0
HasNoHolderBelow least slots c own = (j : ℕ) (d : List Literal) → j < least → clause_of slots j ≡ Some d → j ≢ own → Among c d → ⊥

-- of ids that rise, those from one on
pub record AreFrom (least : ℕ) (all ids : List ℕ) : Type 0 where
  pub passed : ℕ
  pub rest : ids ≡ drop passed all
  pub below : (i : ℕ) → i < passed → slice_index_or all i 0 < least
  pub above : (i : ℕ) → passed ≤ i → i < length all → least ≤ slice_index_or all i 0

-- of the clauses with ids below a mark, none has all literals of another
pub record NoneHeldBelow (mark : ℕ) (slots : List (Option (List Literal))) : Type 0 where
  pub within : mark ≤ length slots
  pub none : (id : ℕ) (c : List Literal) → id < mark → clause_of slots id ≡ Some c → HasNoHolderBelow mark slots c id
