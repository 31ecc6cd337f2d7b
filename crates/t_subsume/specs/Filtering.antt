-- What the tables of a filter tell of clauses.
use Rattle.std.specs.Prelude.{◌≡◌, ◌≢◌, ℕ, ◌+◌, ◌*◌, ◌%◌, ◌^◌, ◌<◌, ◌≤◌, Bool, cond, List, Option, Some, Contains, length, slice_index_or, bit_or}
use Rattle.mp_logic.specs.Literal.{Literal}
use Rattle.mp_clauses.specs.Places.{place_of}
use Rattle.mp_clauses.specs.Signatures.{signature_of}
use Rattle.mp_clauses.specs.Slots.{clause_of}
use Rattle.t_subsume.specs.Shortening.{lit_at}
use Rattle.t_subsume.specs.declared.filter.Filter.{Filter}

-- all these bits are set at a place, where the table has it
abbrev pub CoversAt : List ℕ → ℕ → ℕ → Type 0
CoversAt wide p bits = p < length wide → bit_or bits (slice_index_or wide p 0) ≡ slice_index_or wide p 0

-- the slot of a pair among so many
abbrev pub slot_of : ℕ → List Literal → ℕ
slot_of n c = (place_of (lit_at c 0) * 1540483477 % 2 ^ 64 + place_of (lit_at c 1)) % 2 ^ 64 % n

-- the clause of an id is among those told of
pub record IsTold (from upto : ℕ) (slots : List (Option (List Literal))) (id : ℕ) (c : List Literal) : Type 0 where
  pub low : from ≤ id
  pub high : id < upto
  pub clause : clause_of slots id ≡ Some c

-- each clause of three literals and more has its bits at each of its literals; and each pair is counted in its slot, equal
-- ones as two
pub record Tell (from upto : ℕ) (masks counts : List ℕ) (slots : List (Option (List Literal))) : Type 0 where
  pub within : upto ≤ length slots
  pub room : 0 < length counts
  pub wide : (id : ℕ) (c : List Literal) → IsTold from upto slots id c → 3 ≤ length c → (l : Literal) → Contains c l → CoversAt masks (place_of l) (signature_of c)
  pub pairs : (id : ℕ) (c : List Literal) → IsTold from upto slots id c → length c ≡ 2 → 1 ≤ slice_index_or counts (slot_of (length counts) c) 0
  pub twins : (i j : ℕ) (c : List Literal) → IsTold from upto slots i c → IsTold from upto slots j c → i ≢ j → length c ≡ 2 → 2 ≤ slice_index_or counts (slot_of (length counts) c) 0

abbrev pub Tells : Filter → List (Option (List Literal)) → Type 0
Tells f slots = Tell f.from f.upto f.wide.items f.pairs.items slots

-- no clause of three literals and more has all these, and of pairs no more fall into their slot than one that is counted
pub record IsCleared (wide pairs : List ℕ) (c : List Literal) (is_counted : Bool) : Type 0 where
  pub many : 2 ≤ length c
  pub hidden : (l : Literal) × Contains c l × (CoversAt wide (place_of l) (signature_of c) → ⊥)
  pub pair : length c ≡ 2 → slice_index_or pairs (slot_of (length pairs) c) 0 ≤ cond is_counted 1 0
