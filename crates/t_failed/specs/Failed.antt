-- What failed-literal probing leaves nothing of, and what it promises.
use Rattle.std.specs.Prelude.{◌≡◌, ◌≤◌, ◌+◌, ◌*◌, ◌/◌, ℕ, true, false, List, Contains, length}
use Rattle.std.specs.List.{filter, range_with_len}
use Rattle.mp_logic.specs.Literal.{Literal}
use Rattle.mp_logic.specs.Learning.{IsPropagated}
use Rattle.mp_logic.specs.Keeping.{State}
use Rattle.mp_logic.specs.Sets.{Among}
use Rattle.mp_logic.specs.declared.instances.Repair.{Repair}
use Rattle.mp_clauses.specs.Places.{literal_at}
use Rattle.mp_clauses.specs.Slots.{live_clauses}
use Rattle.mp_store.specs.Measures.{occurs, occurring}
use Rattle.mp_store.specs.Techniques.{Technique}
use Rattle.mp_turns.specs.Turning.{Turning}

abbrev pub positive : ℕ → Literal
positive v = record { variable = v; negative = false }

-- some consistent list that unit propagation leaves as it is has the literal
abbrev pub IsUnfailed : List (List Literal) → Literal → Type 0
IsUnfailed cs l = (p : List Literal) × IsPropagated p cs × Contains p l

-- no literal of a variable that occurs fails
abbrev pub NoFailedLiteral : List (List Literal) → Type 0
NoFailedLiteral cs = (l : Literal) → occurs l.variable cs ≡ true → IsUnfailed cs l

-- the literals of the variables that occur, by their places, rising
abbrev pub literal_places : State → List ℕ
literal_places s = filter (λ p. occurs (p / 2) s.hard) (range_with_len 2 (2 * s.vars))

-- variables stay, and each cost is one that there was
pub record LeavesVariables (s t : State) (added : List Repair) : Type 0 where
  pub vars : t.vars ≡ s.vars
  pub costs : Among t.costs s.costs

-- the candidates are the literals of the variables that occur, and each change lowers the number of these variables
abbrev pub failed_literals : Technique
failed_literals = record {
  HasEndState = λ s. NoFailedLiteral s.hard;
  candidates = literal_places;
  size = λ s. occurring s.vars s.hard;
  IsIdle = λ s k. IsUnfailed s.hard (literal_at k);
  LeavesAlone = LeavesVariables;
  WantsRoom = λ s. ⊥;
}

-- the technique by turns, of which each adds no more than one repair
abbrev pub probing : Turning
probing = record {
  technique = failed_literals;
  candidates = λ h. filter (λ p. occurs (p / 2) (live_clauses h.slots)) (range_with_len 2 (2 * h.vars));
  IsIdle = λ h i. occurs (i / 2) (live_clauses h.slots) ≡ true → IsUnfailed (live_clauses h.slots) (literal_at i);
  stays = λ n h k. length k.repairs ≤ length h.repairs + n;
}
