-- Inside the technique: the labels that are a clause with one, and what a choice among them is.
use Rattle.std.specs.Prelude.{◌≡◌, ◌≢◌, ◌==◌, ◌&&◌, ◌+◌, ◌≤◌, ℕ, Bool, true, not, List, [], ◌∷◌, ◌++◌, Option, Some, None, map, IsTrue, Contains, length, nat_lt, if◌then◌else◌}
use Rattle.std.specs.List.{filter}
use Rattle.mp_logic.specs.Literal.{Literal}
use Rattle.mp_clauses.specs.Places.{place_of, has, no_repeats}
use Rattle.mp_clauses.specs.Slots.{clause_of, live_clauses}
use Rattle.mp_clauses.specs.Weighing.{weight_in}
use Rattle.mp_store.specs.Held.{Held}
use Rattle.t_amo.specs.Labels.{are_clause}

-- another label
abbrev pub is_other : List ℕ → Literal → Literal → Bool
is_other w l k = not (weight_in w k == 0) && not (place_of k == place_of l)

-- the other labels of a clause of two literals
abbrev pub others_in : List ℕ → Literal → Option (List Literal) → List Literal
others_in w l None = []
others_in w l (Some c) = if length c == 2 then filter (is_other w l) c else []

-- the same of the clauses of these ids
abbrev pub others_at : List ℕ → Literal → List (Option (List Literal)) → List ℕ → List Literal
others_at w l slots [] = []
others_at w l slots (id ∷ ids) = others_in w l (clause_of slots id) ++ others_at w l slots ids

-- another label that is a clause with l
pub record IsPartner (h : Held) (l k : Literal) : Type 0 where
  pub label : weight_in h.weights k ≢ 0
  pub other : k ≢ l
  pub clause : are_clause (live_clauses h.slots) l k ≡ true

-- exactly the partners of l
pub record ArePartners (h : Held) (l : Literal) (ks : List Literal) : Type 0 where
  pub each : (k : Literal) → IsPartner h l k → Contains ks k
  pub only : (k : Literal) → Contains ks k → IsPartner h l k

-- different labels, each two of them a clause
pub record AreMutual (h : Held) (bs : List Literal) : Type 0 where
  pub labels : (b : Literal) → Contains bs b → weight_in h.weights b ≢ 0
  pub once : IsTrue (no_repeats (map place_of bs))
  pub paired : (b d : Literal) → Contains bs b → Contains bs d → d ≢ b → IsPartner h b d

-- at least two of them, l among them, and no further label is a clause with each
pub record IsChoice (h : Held) (l : Literal) (bs : List Literal) : Type 0 where
  pub each_two : AreMutual h bs
  pub own : Contains bs l
  pub two : 2 ≤ length bs
  pub most : (k : Literal) → ((b : Literal) → Contains bs b → IsPartner h b k) → ⊥

-- the labels chosen so far, and those left: exactly the labels that are a clause with each
pub record AreChosenSoFar (h : Held) (l : Literal) (chosen left : List Literal) : Type 0 where
  pub each_two : AreMutual h chosen
  pub own : Contains chosen l
  pub some : 1 ≤ length chosen
  pub two : 2 ≤ length chosen + length left
  pub each : (k : Literal) → ((b : Literal) → Contains chosen b → IsPartner h b k) → Contains left k
  pub only : (k : Literal) → Contains left k → (b : Literal) → Contains chosen b → IsPartner h b k

-- the least weight of some literals, at these prices, no more than a number
abbrev pub least_of : (Literal → ℕ) → ℕ → List Literal → ℕ
least_of price m [] = m
least_of price m (b ∷ bs) = least_of price (if nat_lt (price b) m then price b else m) bs

-- of some literals the partners of l are left, in their order
abbrev pub IsKept : Held → Literal → List Literal → List Literal → Type 0
IsKept h l was kept = (ks : List Literal) × ArePartners h l ks × (kept ≡ filter (λ k. has (place_of k) ks) was)
