-- What probing of pairs leaves nothing of, and what it promises.
use Rattle.std.specs.Prelude.{◌≡◌, ◌≢◌, ◌⊎◌, ℕ, false, List, [], ◌∷◌, Contains, map, ⊤}
use Rattle.mp_logic.specs.Literal.{Literal, negation}
use Rattle.mp_logic.specs.Learning.{IsPropagated}
use Rattle.mp_logic.specs.Keeping.{State}
use Rattle.mp_logic.specs.Sets.{Among}
use Rattle.mp_logic.specs.declared.instances.Cost.{Cost}
use Rattle.mp_logic.specs.declared.instances.Repair.{Repair}
use Rattle.mp_clauses.specs.Places.{place_of}
use Rattle.mp_store.specs.Held.{labelled_of}
use Rattle.mp_store.specs.Measures.{is_covered, uncovered}
use Rattle.mp_store.specs.Techniques.{Technique}
use Rattle.mp_turns.specs.Leaving.{LeavesCosts}
use Rattle.mp_turns.specs.Turning.{Turning}

-- some consistent list that unit propagation leaves as it is makes b false and lacks the other literal
abbrev pub IsUnderived : List (List Literal) → Literal → Literal → Type 0
IsUnderived cs b other = (p : List Literal) × IsPropagated p cs × Contains p (negation b) × (Contains p other → ⊥)

-- no further cost literal follows from the negation of b, unless a clause covers the pair
abbrev pub IsIdleLabel : State → Literal → Type 0
IsIdleLabel s b = (q : Cost) → Contains s.costs q → q.lit ≢ b → is_covered s.hard b q.lit ≡ false → IsUnderived s.hard b q.lit

-- of no two cost literals whose pair is not covered one follows from the negation of the other
abbrev pub NoImpliedPair : State → Type 0
NoImpliedPair s = (p : Cost) → Contains s.costs p → IsIdleLabel s p.lit

-- the cost literals by their places, rising
abbrev pub label_places : State → List ℕ
label_places s = map (λ (p : Cost). place_of p.lit) s.costs

-- two literals of these costs
abbrev pub IsPairOf : List Cost → List Literal → Type 0
IsPairOf ps c = (k : Cost) × (l : Cost) × Contains ps k × Contains ps l × (c ≡ k.lit ∷ (l.lit ∷ []))

-- costs, offset, variables, repairs and all clauses stay, and each clause that comes is a pair of cost literals
pub record AddsPairs (s t : State) (added : List Repair) : Type 0 where
  pub costs : LeavesCosts s t added
  pub repairs : added ≡ []
  pub stay : Among s.hard t.hard
  pub pairs : (c : List Literal) → Contains t.hard c → Contains s.hard c ⊎ IsPairOf s.costs c

-- the candidates are the cost literals, and each change covers a pair of them
abbrev pub implied_pairs : Technique
implied_pairs = record {
  HasEndState = NoImpliedPair;
  candidates = label_places;
  size = λ s. uncovered s.hard s.costs;
  IsIdle = λ s k. (p : Cost) → Contains s.costs p → place_of p.lit ≡ k → IsIdleLabel s p.lit;
  LeavesAlone = AddsPairs;
  WantsRoom = λ s. ⊥;
}

-- the technique by turns
abbrev pub pair_probing : Turning
pair_probing = record {
  technique = implied_pairs;
  candidates = λ h. label_places (labelled_of h);
  IsIdle = λ h i. implied_pairs.IsIdle (labelled_of h) i;
  stays = λ n h k. ⊤;
}
