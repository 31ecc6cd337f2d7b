-- Labels that others cover.
use Rattle.std.specs.Prelude.{◌≢◌, ◌≤◌, List, Contains, sum_by}
use Rattle.mp_logic.specs.Literal.{Literal, negation}
use Rattle.mp_logic.specs.declared.instances.Cost.{Cost}
use Rattle.mp_logic.specs.Keeping.{State}
use Rattle.mp_logic.specs.Labelled.{AreApart}
use Rattle.mp_logic.specs.Sets.{HasVariables}
use Rattle.mp_logic.specs.Fixing.{Bends}

-- no hard clause has its negation
abbrev pub IsPlain : Literal → List (List Literal) → Type 0
IsPlain b cs = (c : List Literal) → Contains cs c → (k : Literal) → Contains c k → k ≢ negation b

-- b is in each clause with l
abbrev pub Covers : Literal → Literal → List (List Literal) → Type 0
Covers b l cs = (c : List Literal) → Contains cs c → Contains c l → Contains c b

-- other plain cost literals, of at most the weight of p together, one of which is in each clause with the literal of p
pub record IsGroupCover (p : Cost) (qs : List Cost) (s : State) : Type 0 where
  pub costs : (q : Cost) → Contains qs q → Contains s.costs q
  pub others : (q : Cost) → Contains qs q → q.lit.variable ≢ p.lit.variable
  pub plain : (q : Cost) → Contains qs q → IsPlain q.lit s.hard
  pub meets : (c : List Literal) → Contains s.hard c → Contains c p.lit → (q : Cost) × Contains qs q × Contains c q.lit
  pub weight : sum_by (λ (q : Cost). q.weight) qs ≤ p.weight

-- the law: where a group covers a label, some model of no greater cost makes the label false, for each model
abbrev pub GroupCoverBends : Type 0
GroupCoverBends = (s : State) (p : Cost) (qs : List Cost) → HasVariables s → AreApart s.costs → Contains s.costs p → IsGroupCover p qs s → Bends s (negation p.lit)

-- the law: so it is where one other label, plain and of no greater weight, is in each clause with it
abbrev pub SubsumedLabelBends : Type 0
SubsumedLabelBends = (s : State) (p q : Cost) → HasVariables s → AreApart s.costs → Contains s.costs p → Contains s.costs q
    → q.lit.variable ≢ p.lit.variable → q.weight ≤ p.weight → IsPlain q.lit s.hard → Covers q.lit p.lit s.hard → Bends s (negation p.lit)

-- the law: a label that no clause has may be made false
abbrev pub UnusedLabelBends : Type 0
UnusedLabelBends = (s : State) (p : Cost) → HasVariables s → AreApart s.costs → Contains s.costs p → ((c : List Literal) → Contains s.hard c → Contains c p.lit → ⊥) → Bends s (negation p.lit)
