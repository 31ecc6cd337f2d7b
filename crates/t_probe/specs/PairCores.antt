-- Pair cores: pairs of labels that no model makes false together.
use Rattle.std.specs.Prelude.{◌≡◌, ◌≢◌, ◌⊎◌, ℕ, Bool, true, false, List, [], ◌∷◌, Contains, length}
use Rattle.mp_logic.specs.Literal.{Literal, negation}
use Rattle.mp_logic.specs.Truth.{literal_value, IsSatisfied}
use Rattle.mp_logic.specs.Keeping.{State}
use Rattle.mp_logic.specs.Sets.{Among}
use Rattle.mp_logic.specs.declared.instances.Cost.{Cost}
use Rattle.mp_logic.specs.declared.instances.Repair.{Repair}
use Rattle.mp_store.specs.Measures.{is_covered}
use Rattle.mp_turns.specs.Leaving.{LeavesCosts}
use Rattle.t_probe.specs.Asking.{Asking}

-- some model makes both literals false
abbrev pub CanBothBeFalse : Literal → Literal → List (List Literal) → Type 0
CanBothBeFalse l m cs = (a : List Bool) × IsSatisfied a cs × (literal_value a l ≡ false) × (literal_value a m ≡ false)

-- some clause has no literal other than the two, or some model makes both false
abbrev pub IsSettled : List (List Literal) → Literal → Literal → Type 0
IsSettled cs l m = (is_covered cs l m ≡ true) ⊎ CanBothBeFalse l m cs

-- every two cost literals whose pair is not covered are both false in some model
abbrev pub NoPairCore : State → Type 0
NoPairCore s = (p q : Cost) → Contains s.costs p → Contains s.costs q → p.lit ≢ q.lit → IsSettled s.hard p.lit q.lit

-- the clause has two literals, both of them cost literals
pub record IsCostPair (costs : List Cost) (c : List Literal) : Type 0 where
  pub two : length c ≡ 2
  pub each : (l : Literal) → Contains c l → (p : Cost) × Contains costs p × (p.lit ≡ l)

-- costs, offset, variables, repairs and all clauses stay, and each new clause is a pair of cost literals
pub record AddsPairs (s t : State) (added : List Repair) : Type 0 where
  pub costs : LeavesCosts s t added
  pub repairs : added ≡ []
  pub stay : Among s.hard t.hard
  pub pairs : (c : List Literal) → Contains t.hard c → Contains s.hard c ⊎ IsCostPair s.costs c

-- the negations of two cost literals whose pair is not covered are assumed, and nothing else
pub record DeniesPair (s : State) (assumptions : List Literal) : Type 0 where
  pub first : Cost
  pub second : Cost
  pub first_costs : Contains s.costs first
  pub second_costs : Contains s.costs second
  pub apart : first.lit ≢ second.lit
  pub uncovered : is_covered s.hard first.lit second.lit ≡ false
  pub are : assumptions ≡ negation first.lit ∷ (negation second.lit ∷ [])

abbrev pub pair_core_search : Asking
pair_core_search = record {
  HasEndState = NoPairCore;
  HasBound = λ u s. ⊥;
  LeavesAlone = AddsPairs;
  Assumes = DeniesPair;
}
