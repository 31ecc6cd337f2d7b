-- Inside probing of pairs: the cost literals that are to be paired with one.
use Rattle.std.specs.Prelude.{◌≡◌, ◌≢◌, ◌⊎◌, ℕ, Bool, true, false, not, ◌==◌, cond, List, [], ◌∷◌, Option, Contains, map, length, nat_lt, ◌≤◌}
use Rattle.std.specs.List.{filter}
use Rattle.mp_logic.specs.Literal.{Literal, negation}
use Rattle.mp_logic.specs.Learning.{IsPropagated}
use Rattle.mp_logic.specs.Truth.{literal_value, IsSatisfied}
use Rattle.mp_clauses.specs.Places.{place_of}
use Rattle.mp_clauses.specs.Slots.{live_clauses}
use Rattle.mp_clauses.specs.Weighing.{weight_in}
use Rattle.mp_store.specs.Held.{Held, labelled_of}
use Rattle.mp_store.specs.Measures.{is_covered}
use Rattle.t_failed.specs.Pairs.{label_places}

-- another cost literal, whose pair with b is not covered
pub record IsPartner (h : Held) (b l : Literal) : Type 0 where
  pub weighs : weight_in h.weights l ≢ 0
  pub other : l ≢ b
  pub open_pair : is_covered (live_clauses h.slots) b l ≡ false

-- the partners are those among the literals
pub record ArePartnersOf (h : Held) (b : Literal) (lits partners : List Literal) : Type 0 where
  pub each : (l : Literal) → Contains partners l → IsPartner h b l × Contains lits l
  pub all : (l : Literal) → IsPartner h b l → Contains lits l → Contains partners l

-- the set has the literal where it is in a clause of no more than two literals, of which l is one
pub record IsBeside (slots : List (Option (List Literal))) (l : Literal) (beside : List Literal) (k : Literal) : Type 0 where
  pub some : Contains beside k → (c : List Literal) × Contains (live_clauses slots) c × Contains c l × (length c ≤ 2) × Contains c k
  pub all : (c : List Literal) → Contains (live_clauses slots) c → Contains c l → length c ≤ 2 → Contains c k → Contains beside k

-- the literals are those of the costs, in order
abbrev pub AreLabels : Held → List Literal → Type 0
AreLabels h ls = map place_of ls ≡ label_places (labelled_of h)

-- the set has the literals of the unit clauses
pub record AreUnits (h : Held) (units : List Literal) : Type 0 where
  pub some : (l : Literal) → Contains units l → Contains (live_clauses h.slots) (l ∷ [])
  pub all : (l : Literal) → Contains (live_clauses h.slots) (l ∷ []) → Contains units l

-- each model makes b or the other literal true
abbrev pub IsImpliedPair : List (List Literal) → Literal → Literal → Type 0
IsImpliedPair cs b l = (a : List Bool) → IsSatisfied a cs → (literal_value a b ≡ true) ⊎ (literal_value a l ≡ true)

-- the partners are those of the literals that follow from the negation of b, as far as this propagated list goes
pub record AreDerived (h : Held) (b : Literal) (p partners : List Literal) : Type 0 where
  pub propagated : IsPropagated p (live_clauses h.slots)
  pub own : Contains p (negation b)
  pub derived : (l : Literal) → Contains partners l → Contains p l
  pub all : (l : Literal) → IsPartner h b l → Contains p l → Contains partners l

-- they are those that follow, or each cost literal is one where a conflict does
abbrev pub AreAllPartners : Held → Literal → List Literal → Type 0
AreAllPartners h b partners = ((p : List Literal) × AreDerived h b p partners) ⊎ ((l : Literal) → IsPartner h b l → Contains partners l)

-- what is found for b
pub record AreFound (h : Held) (b : Literal) (partners : List Literal) : Type 0 where
  pub each : (l : Literal) → Contains partners l → IsPartner h b l
  pub implied : (l : Literal) → Contains partners l → IsImpliedPair (live_clauses h.slots) b l
  pub all : AreAllPartners h b partners

-- the clause of two literals, the lower variable first
abbrev pub pair_clause : Literal → Literal → List Literal
pair_clause a b = cond (nat_lt a.variable b.variable) (a ∷ (b ∷ [])) (b ∷ (a ∷ []))

-- the places of the labels but one
abbrev pub places_beside : ℕ → List Literal → List ℕ
places_beside item ls = filter (λ p. not (p == item)) (map place_of ls)
