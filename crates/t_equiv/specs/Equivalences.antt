-- What the technique promises.
use Rattle.std.specs.Prelude.{◌≡◌, List, [], ◌∷◌, ⊤}
use Rattle.mp_logic.specs.Literal.{Literal}
use Rattle.mp_logic.specs.Keeping.{State}
use Rattle.mp_logic.specs.declared.instances.Repair.{Repair}
use Rattle.mp_clauses.specs.Slots.{live_clauses}
use Rattle.mp_store.specs.Measures.{occurring}
use Rattle.mp_store.specs.Techniques.{Technique}
use Rattle.mp_turns.specs.Turning.{Turning}
use Rattle.t_equiv.specs.Implications.{Reaches}

-- no two different literals reach each other
abbrev pub NoEquivalent : List (List Literal) → Type 0
NoEquivalent cs = (x y : Literal) → Reaches cs x y → Reaches cs y x → x ≡ y

-- the variables are left alone
pub record LeavesVariables (s t : State) (added : List Repair) : Type 0 where
  pub vars : t.vars ≡ s.vars

-- the one candidate is the whole state, and each change lowers the number of variables that occur
abbrev pub equivalent_literals : Technique
equivalent_literals = record {
  HasEndState = λ s. NoEquivalent s.hard;
  candidates = λ s. 0 ∷ [];
  size = λ s. occurring s.vars s.hard;
  IsIdle = λ s k. NoEquivalent s.hard;
  LeavesAlone = LeavesVariables;
  WantsRoom = λ s. ⊥;
}

-- the technique by turns, whose one item is 0
abbrev pub substituting : Turning
substituting = record {
  technique = equivalent_literals;
  candidates = λ h. 0 ∷ [];
  IsIdle = λ h i. i ≡ 0 → NoEquivalent (live_clauses h.slots);
  stays = λ n h k. ⊤;
}
