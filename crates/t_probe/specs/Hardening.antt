-- Hardening: what costs at least as much as a known model is made false.
use Rattle.std.specs.Prelude.{◌≡◌, ◌≤◌, ℕ, Bool, not, ◌&&◌, List, [], ◌∷◌, All, map, sum_by, nat_le}
use Rattle.std.specs.List.{filter}
use Rattle.mp_logic.specs.Literal.{Literal, negation}
use Rattle.mp_logic.specs.Truth.{literal_value}
use Rattle.mp_logic.specs.Keeping.{State, IsModel, charged}
use Rattle.mp_logic.specs.Sets.{Among}
use Rattle.mp_logic.specs.declared.instances.Cost.{Cost}
use Rattle.mp_logic.specs.declared.instances.Repair.{Repair}
use Rattle.mp_store.specs.Held.{Held, labelled_of, IsUntouched}
use Rattle.mp_store.specs.Fixing.{fixing_of}
use Rattle.mp_store.specs.Rewriting.{after}
use Rattle.t_probe.specs.Asking.{Asking}

-- no weight is above the number, and some model costs exactly that much without the offset
abbrev pub IsHardened : ℕ → State → Type 0
IsHardened u s = All (λ c. c.weight ≤ u) s.costs × ((a : List Bool) × IsModel s a × (sum_by (charged a) s.costs ≡ u))

-- variables and the offset stay, and each cost is one that there was
pub record LeavesOffset (s t : State) (added : List Repair) : Type 0 where
  pub vars : t.vars ≡ s.vars
  pub offset : t.offset ≡ s.offset
  pub costs : Among t.costs s.costs

-- nothing is assumed
abbrev pub AssumesNothing : State → List Literal → Type 0
AssumesNothing s assumptions = assumptions ≡ []

-- it is finished only where it refutes
abbrev pub hardening : Asking
hardening = record {
  HasEndState = λ s. ⊥;
  HasBound = IsHardened;
  LeavesAlone = LeavesOffset;
  Assumes = AssumesNothing;
}

-- the cost literal is false and weighs at least as much as the number
abbrev pub is_too_dear : List Bool → ℕ → Cost → Bool
is_too_dear a u p = not (literal_value a p.lit) && nat_le u p.weight

-- the negations of these cost literals, in their order
abbrev pub hardened_by : List Bool → ℕ → List Cost → List Literal
hardened_by a u costs = map (λ p. negation p.lit) (filter (is_too_dear a u) costs)

-- the store with literals made true together, as it is where there are none
abbrev pub fixed_together : List Literal → Held → Held
fixed_together [] h = h
fixed_together (l ∷ ls) h = after (fixing_of (l ∷ ls) h) h

-- a model that costs the number, without the offset, hardened the store
pub record IsHardening (u : ℕ) (old new : Held) : Type 0 where
  pub model : List Bool
  pub is_model : IsModel (labelled_of old) model
  pub cost : sum_by (charged model) (labelled_of old).costs ≡ u
  pub fixed : IsUntouched (fixed_together (hardened_by model u (labelled_of old).costs) old) new
