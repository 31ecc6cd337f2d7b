-- Inside the technique: clauses without a literal, and where a turn stands between the literals of its clause.
use Rattle.std.specs.Prelude.{◌≡◌, ◌≢◌, ◌⊎◌, IsTrue, ℕ, ◌+◌, ◌<◌, ◌≤◌, Bool, true, false, not, List, [], Option, Some, None, Contains, length, map, slice_index_or, sum_by}
use Rattle.std.specs.List.{filter}
use Rattle.mp_logic.specs.Literal.{Literal}
use Rattle.mp_logic.specs.Normal.{rises}
use Rattle.mp_logic.specs.Sets.{Among}
use Rattle.mp_clauses.specs.Places.{no_repeats}
use Rattle.mp_store.specs.Held.{Held, labelled_of, IsUntouched}
use Rattle.mp_clauses.specs.Slots.{clause_of, live_clauses}
use Rattle.mp_store.specs.Measures.{IsSmaller}
use Rattle.t_subsume.specs.Containment.{same_literal}
use Rattle.t_subsume.specs.Strengthening.{Strengthens, IsNotStrengthening}

-- the clause without a literal
abbrev pub without_literal : Literal → List Literal → List Literal
without_literal l c = filter (λ k. not (same_literal l k)) c

abbrev pub left_at : Literal → Option (List Literal) → List Literal
left_at l None = []
left_at l (Some c) = without_literal l c

-- the clauses of these ids without a literal
abbrev pub shortened_by : Literal → List (Option (List Literal)) → List ℕ → List (List Literal)
shortened_by l slots ids = map (λ id. left_at l (clause_of slots id)) ids

abbrev pub lit_at : List Literal → ℕ → Literal
lit_at c k = slice_index_or c k (record { variable = 0; negative = false })

-- the ids from one on, below another, are put last
pub record AreAgain (first last : ℕ) (old new : List ℕ) : Type 0 where
  pub each : (i : ℕ) → first ≤ i → i < last → Contains new i
  pub rest : Among old new
  pub many : length new + first ≡ length old + last

-- no clause is strengthened by this one with this literal
abbrev pub IsUseless : List (Option (List Literal)) → List Literal → Literal → Type 0
IsUseless slots c l = (d : List Literal) → Contains (live_clauses slots) d → Strengthens l c d → ⊥

-- the clauses of these ids, and no others, are strengthened by a clause with a literal
pub record AreStrengthened (h : Held) (id : ℕ) (c : List Literal) (l : Literal) (gone : List ℕ) : Type 0 where
  pub own : clause_of h.slots id ≡ Some c
  pub has : Contains c l
  pub normal : IsTrue (rises 0 c)
  pub once : IsTrue (no_repeats gone)
  pub each : (j : ℕ) → Contains gone j → (d : List Literal) × (clause_of h.slots j ≡ Some d) × (j ≢ id) × Strengthens l c d
  pub all : (j : ℕ) (d : List Literal) → clause_of h.slots j ≡ Some d → Strengthens l c d → Contains gone j

-- what the changes with some of the literals of a clause leave, where the store is not refuted
pub record IsPart (id : ℕ) (c : List Literal) (old new : Held) (before again : List ℕ) (changed : Bool) : Type 0 where
  pub own : clause_of new.slots id ≡ Some c
  pub rest : Among before again
  pub kept : (i : ℕ) → IsNotStrengthening old.slots i → Contains again i ⊎ IsNotStrengthening new.slots i
  pub useless : (l : Literal) → IsUseless old.slots c l → IsUseless new.slots c l
  pub few : length again + sum_by length (live_clauses new.slots) ≤ length before + sum_by length (live_clauses old.slots)
  pub number : length (live_clauses new.slots) ≡ length (live_clauses old.slots)
  pub same : changed ≡ false → IsUntouched old new × (again ≡ before)
  pub smaller : changed ≡ true → IsSmaller (labelled_of new) (labelled_of old)

-- the clause strengthens none with an id below one
pub record StrengthensNoneBelow (least : ℕ) (slots : List (Option (List Literal))) (c : List Literal) : Type 0 where
  pub within : least ≤ length slots
  pub none : (j : ℕ) (d : List Literal) (l : Literal) → j < least → clause_of slots j ≡ Some d → Contains c l → Strengthens l c d → ⊥

-- of the clauses with ids below a mark, none strengthens another
pub record NoneStrengthenedBelow (mark : ℕ) (slots : List (Option (List Literal))) : Type 0 where
  pub within : mark ≤ length slots
  pub none : (id : ℕ) (c : List Literal) → id < mark → clause_of slots id ≡ Some c → StrengthensNoneBelow mark slots c
