-- Techniques on pairs of cost literals.
use Rattle.std.specs.Prelude.{ℕ, List, map, length}
use Rattle.mp_logic.specs.Literal.{Literal}
use Rattle.mp_logic.specs.Keeping.{State}
use Rattle.mp_logic.specs.declared.instances.Cost.{Cost}
use Rattle.mp_logic.specs.declared.instances.Repair.{Repair}
use Rattle.mp_clauses.specs.Places.{place_of, literal_at}
use Rattle.mp_store.specs.Techniques.{Technique}

-- the cost literals, by their places, rising
abbrev pub label_places : State → List ℕ
label_places s = map (λ (c : Cost). place_of c.lit) s.costs

-- no literal is such a pair with this one; no two literals are one
abbrev pub InNoPair : (Literal → Literal → State → Type 0) → Literal → State → Type 0
InNoPair IsPair l s = (m : Literal) → IsPair l m s → ⊥

abbrev pub NoPair : (Literal → Literal → State → Type 0) → State → Type 0
NoPair IsPair s = (l m : Literal) → IsPair l m s → ⊥

-- the technique that leaves no such pair: a cost literal is idle where it is in none, and each change lowers the number of
-- cost literals
abbrev pub on_pairs : (Literal → Literal → State → Type 0) → (State → State → List Repair → Type 0) → Technique
on_pairs IsPair LeavesAlone = record {
  HasEndState = NoPair IsPair;
  candidates = label_places;
  size = λ s. length s.costs;
  IsIdle = λ s p. InNoPair IsPair (literal_at p) s;
  LeavesAlone = LeavesAlone;
  WantsRoom = λ s. ⊥;
}
