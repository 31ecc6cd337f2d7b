-- The greedy cover of a label by a group of others, and what the technique promises.
use Rattle.std.specs.Prelude.{◌≡◌, ◌≢◌, ◌⊎◌, ◌<◌, ◌≤◌, ◌+◌, List, [], ◌∷◌, ◌++◌, Contains, length, sum_by}
use Rattle.std.specs.List.{filter}
use Rattle.std.specs.List.Sorted.{IsPermutation, IsSorted}
use Rattle.std.specs.Cmp.Lexicographic.{slice_cmp}
use Rattle.mp_logic.specs.Literal.{Literal}
use Rattle.mp_logic.specs.Normal.{lit_cmp}
use Rattle.mp_logic.specs.Keeping.{State}
use Rattle.mp_logic.specs.SubsumedLabels.{IsPlain}
use Rattle.mp_logic.specs.declared.instances.Cost.{Cost}
use Rattle.mp_clauses.specs.Places.{place_of, has}
use Rattle.mp_store.specs.Held.{labelled_of}
use Rattle.mp_store.specs.Techniques.{Technique}
use Rattle.mp_turns.specs.Turning.{Turning}
use Rattle.t_labels.specs.Labels.{label_places, LeavesOffset}

-- another cost literal that is plain
pub record IsOther (p q : Cost) (s : State) : Type 0 where
  pub cost : Contains s.costs q
  pub other : q.lit ≢ p.lit
  pub plain : IsPlain q.lit s.hard

-- the lightest of them in a clause, of several that of lowest variable
pub record IsLightest (p : Cost) (s : State) (c : List Literal) (q : Cost) : Type 0 where
  pub is : IsOther p q s
  pub inside : Contains c q.lit
  pub least : (r : Cost) → IsOther p r s → Contains c r.lit → (q.weight < r.weight) ⊎ ((q.weight ≡ r.weight) × (q.lit.variable ≤ r.lit.variable))

-- the clause has one of these cost literals
abbrev pub HasOneOf : List Cost → List Literal → Type 0
HasOneOf qs c = (q : Cost) × Contains qs q × Contains c q.lit

-- in a walk over the clauses, the lightest is chosen besides for each that has none of those chosen so far; at the end these are
-- chosen
abbrev pub AreChosen : Cost → State → List (List Literal) → List Cost → List Cost → Type 0
AreChosen p s [] chosen qs = qs ≡ chosen
AreChosen p s (c ∷ cs) chosen qs = (HasOneOf chosen c × AreChosen p s cs chosen qs) ⊎ ((HasOneOf chosen c → ⊥) × ((q : Cost) × IsLightest p s c q × AreChosen p s cs (chosen ++ q ∷ []) qs))

-- the same clauses, in clause order
pub record AreInOrder (cs ds : List (List Literal)) : Type 0 where
  pub moved : IsPermutation cs ds
  pub sorted : IsSorted (slice_cmp lit_cmp) ds

-- no other plain cost literal is in a clause with the label
abbrev pub IsBare : Cost → State → Type 0
IsBare p s = (c : List Literal) × Contains s.hard c × Contains c p.lit × ((q : Cost) → IsOther p q s → Contains c q.lit → ⊥)

-- those chosen for the clauses weigh no more than the label
abbrev pub IsGreedyCover : Cost → State → List (List Literal) → List Cost → Type 0
IsGreedyCover p s cs qs = AreChosen p s cs [] qs × (sum_by (λ (q : Cost). q.weight) qs ≤ p.weight)

-- the greedy cover of a label fails: for one of its clauses there is none to choose, or in clause order those chosen weigh more
abbrev pub HasNoGroup : Cost → State → Type 0
HasNoGroup p s = IsBare p s ⊎ ((cs : List (List Literal)) × AreInOrder (filter (has (place_of p.lit)) s.hard) cs × ((qs : List Cost) → IsGreedyCover p s cs qs → ⊥))

-- the greedy cover of each cost literal fails
abbrev pub NoGroupCovered : State → Type 0
NoGroupCovered s = (p : Cost) → Contains s.costs p → HasNoGroup p s

-- the candidates are the cost literals, and each change lowers their number
abbrev pub group_subsumed_labels : Technique
group_subsumed_labels = record {
  HasEndState = NoGroupCovered;
  candidates = label_places;
  size = λ s. length s.costs;
  IsIdle = λ s k. (p : Cost) → Contains s.costs p → place_of p.lit ≡ k → HasNoGroup p s;
  LeavesAlone = LeavesOffset;
  WantsRoom = λ s. ⊥;
}

-- the technique by turns, over places of literals, of which each adds no more than one repair
abbrev pub group_covering : Turning
group_covering = record {
  technique = group_subsumed_labels;
  candidates = λ h. label_places (labelled_of h);
  IsIdle = λ h k. (p : Cost) → Contains (labelled_of h).costs p → place_of p.lit ≡ k → HasNoGroup p (labelled_of h);
  stays = λ n h k. length k.repairs ≤ length h.repairs + n;
}
