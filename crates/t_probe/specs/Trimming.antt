-- Trimming: labels that no model makes false are paid for.
use Rattle.std.specs.Prelude.{◌≡◌, ℕ, Bool, false, List, [], ◌∷◌, Contains}
use Rattle.mp_logic.specs.Literal.{Literal, negation}
use Rattle.mp_logic.specs.Truth.{literal_value, IsSatisfied}
use Rattle.mp_logic.specs.Keeping.{State}
use Rattle.mp_logic.specs.Sets.{Among}
use Rattle.mp_logic.specs.declared.instances.Cost.{Cost}
use Rattle.mp_logic.specs.declared.instances.Repair.{Repair}
use Rattle.t_probe.specs.Asking.{Asking}

-- some model makes the literal false
abbrev pub CanBeFalse : Literal → List (List Literal) → Type 0
CanBeFalse l cs = (a : List Bool) × IsSatisfied a cs × (literal_value a l ≡ false)

-- each cost literal is false in some model
abbrev pub EachCanBeFalse : State → Type 0
EachCanBeFalse s = (p : Cost) → Contains s.costs p → CanBeFalse p.lit s.hard

-- variables stay, and each cost is one that there was
pub record LeavesVariables (s t : State) (added : List Repair) : Type 0 where
  pub vars : t.vars ≡ s.vars
  pub costs : Among t.costs s.costs

-- the negation of a cost literal is assumed, and nothing else
abbrev pub DeniesLabel : State → List Literal → Type 0
DeniesLabel s assumptions = (p : Cost) × Contains s.costs p × (assumptions ≡ negation p.lit ∷ [])

abbrev pub trimming : Asking
trimming = record {
  HasEndState = EachCanBeFalse;
  HasBound = λ u s. ⊥;
  LeavesAlone = LeavesVariables;
  Assumes = DeniesLabel;
}
