-- Clauses that lie in one list of literals, the arena.
use Rattle.std.specs.Prelude.{◌≡◌, ◌≢◌, ◌⊎◌, ℕ, ◌+◌, ◌*◌, ◌≤◌, List, length, Option, Some, sum_by, slice_index, take, drop}
use Rattle.mp_logic.specs.Literal.{Literal}
use Rattle.mp_clauses.specs.Slots.{clause_of, live_clauses}

-- the part of the arena that begins at a place is this clause
pub record IsPart (arena : List Literal) (place : ℕ) (c : List Literal) : Type 0 where
  pub within : place + length c ≤ length arena
  pub is : take (length c) (drop place arena) ≡ c

-- each live clause is the part that begins at its place, and the parts of two of them lie apart
pub record ArePlaced (slots : List (Option (List Literal))) (arena : List Literal) (places : List ℕ) : Type 0 where
  pub len : length places ≡ length slots
  pub part : (id : ℕ) (c : List Literal) → clause_of slots id ≡ Some c → IsPart arena (slice_index places id) c
  pub apart : (i j : ℕ) (c d : List Literal) → i ≢ j → clause_of slots i ≡ Some c → clause_of slots j ≡ Some d
      → (slice_index places i + length c ≤ slice_index places j) ⊎ (slice_index places j + length d ≤ slice_index places i)

-- so many literals may lie in the arena once the memory for a rewrite is taken
abbrev pub arena_bound : List (Option (List Literal)) → ℕ
arena_bound slots = 2 * sum_by length (live_clauses slots) + 1024
