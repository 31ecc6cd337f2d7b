-- When another label covers a label, and what the technique promises.
use Rattle.std.specs.Prelude.{◌≡◌, ◌≢◌, ◌⊎◌, ◌≤◌, ℕ, ◌+◌, Bool, ◌&&◌, List, Option, Contains, length, nat_le}
use Rattle.std.specs.List.{list_all}
use Rattle.mp_logic.specs.Literal.{Literal}
use Rattle.mp_logic.specs.Keeping.{State}
use Rattle.mp_logic.specs.SubsumedLabels.{IsPlain, Covers}
use Rattle.mp_logic.specs.declared.instances.Cost.{Cost}
use Rattle.mp_clauses.specs.Places.{place_of}
use Rattle.mp_clauses.specs.Slots.{clause_of, live_clauses}
use Rattle.mp_clauses.specs.Weighing.{weight_in}
use Rattle.mp_clauses.specs.Occurrences.{slot_has}
use Rattle.mp_store.specs.Held.{Held, labelled_of}
use Rattle.mp_store.specs.Techniques.{Technique}
use Rattle.mp_turns.specs.Turning.{Turning}
use Rattle.t_labels.specs.Labels.{label_places, LeavesOffset, may_cover}

-- no hard clause has the literal
abbrev pub IsUnused : Literal → List (List Literal) → Type 0
IsUnused l cs = (c : List Literal) → Contains cs c → Contains c l → ⊥

-- another cost literal, plain and of at most the weight of this one, is in each hard clause with it
pub record IsCoveredBy (p q : Cost) (s : State) : Type 0 where
  pub cost : Contains s.costs q
  pub other : q.lit ≢ p.lit
  pub plain : IsPlain q.lit s.hard
  pub weight : q.weight ≤ p.weight
  pub covers : Covers q.lit p.lit s.hard

-- no hard clause has the label, or another one covers it
abbrev pub IsCovered : Cost → State → Type 0
IsCovered p s = IsUnused p.lit s.hard ⊎ ((q : Cost) × IsCoveredBy p q s)

abbrev pub IsUncovered : Cost → State → Type 0
IsUncovered p s = IsCovered p s → ⊥

-- each cost literal is in a hard clause, and no other one covers it
abbrev pub NoCovered : State → Type 0
NoCovered s = (p : Cost) → Contains s.costs p → IsUncovered p s

-- the candidates are the cost literals, and each change lowers their number
abbrev pub subsumed_labels : Technique
subsumed_labels = record {
  HasEndState = NoCovered;
  candidates = label_places;
  size = λ s. length s.costs;
  IsIdle = λ s k. (p : Cost) → Contains s.costs p → place_of p.lit ≡ k → IsUncovered p s;
  LeavesAlone = LeavesOffset;
  WantsRoom = λ s. ⊥;
}

-- the technique by turns, over places of literals, of which each adds no more than one repair
abbrev pub covering : Turning
covering = record {
  technique = subsumed_labels;
  candidates = λ h. label_places (labelled_of h);
  IsIdle = λ h k. (p : Cost) → Contains (labelled_of h).costs p → place_of p.lit ≡ k → IsUncovered p (labelled_of h);
  stays = λ n h k. length k.repairs ≤ length h.repairs + n;
}

-- the cost of a literal at these weights
abbrev pub cost_in : List ℕ → Literal → Cost
cost_in w l = record { lit = l; weight = weight_in w l }

-- a label that may cover l, of at most its weight
abbrev pub may_pay : Held → Literal → Literal → Bool
may_pay h l k = nat_le (weight_in h.weights k) (weight_in h.weights l) && may_cover (weight_in h.weights) (live_clauses h.slots) l k

-- each of the clauses of these ids has the literal
abbrev pub is_in_each : List (Option (List Literal)) → List ℕ → Literal → Bool
is_in_each slots ids k = list_all (λ id. slot_has (place_of k) (clause_of slots id)) ids
