-- What a log tells of the written instance: what nothing is left of in it, and how large it is.
use Rattle.std.specs.Prelude.{◌≡◌, ◌⊎◌, ℕ, ◌-◌, List, [], ◌∷◌, ◌++◌, Contains, Option, Some, None, length, map, sum_by, true}
use Rattle.mp_logic.specs.Formula.{Formula}
use Rattle.mp_logic.specs.Keeping.{State}
use Rattle.mp_logic.specs.Labelled.{IsLabelled}
use Rattle.mp_logic.specs.Literal.{negation}
use Rattle.mp_logic.specs.declared.instances.Cost.{Cost}
use Rattle.mp_logic.specs.declared.instances.Soft.{Soft}
use Rattle.mp_store.specs.declared.ran.Counts.{Counts}
use Rattle.mp_script.specs.declared.scripts.Group.{Group}
use Rattle.mp_script.specs.declared.scripts.Rounds.TheVariants.{Settle}
use Rattle.mp_script.specs.declared.scripts.Stage.{Stage}
use Rattle.mp_script.specs.Courses.{letters_of}
use Rattle.mp_engine.specs.Laws.{bound_of, last_bound, last_line}
use Rattle.mp_engine.specs.Letters.{HasEndState}
use Rattle.mp_engine.specs.LogText.{close_text}
use Rattle.mp_engine.specs.Runs.{is_done}
use Rattle.mp_engine.specs.declared.done.Close.{Close}
use Rattle.mp_engine.specs.declared.done.Close.TheVariants.{Settled, Unsettled}
use Rattle.mp_engine.specs.declared.done.StageLine.{StageLine}

-- the unit soft clause that costs the weight where the literal is true
abbrev pub unit_soft : Cost → Soft
unit_soft p = record { weight = p.weight; clause = negation p.lit ∷ [] }

-- The instance counts as the labelled state with its variables and hard clauses, with the negations of its unit soft
-- clauses as cost literals, and offset 0. As in each labelled state, hard clauses are normal, weights are from 1, and no
-- variable has two cost literals.
pub record CountsAs (g : Formula) (s : State) : Type 0 where
  pub vars : s.vars ≡ g.vars
  pub hard : s.hard ≡ g.hard
  pub soft : g.soft ≡ map unit_soft s.costs
  pub offset : s.offset ≡ 0
  pub labelled : IsLabelled s.vars s.hard s.costs s.offset

-- the instance counts as a state of which this holds
abbrev pub IsStateWith : Formula → (State → Type 0) → Type 0
IsStateWith g Holds = (s : State) × CountsAs g s × Holds s

-- hard clauses, their literals, and soft clauses
abbrev pub sizes_of : Formula → Counts
sizes_of g = record { clauses = length g.hard; literals = sum_by length g.hard; costs = length g.soft }

-- a bound on costs without the offset, 0 where there is none
abbrev pub without_offset : ℕ → Option ℕ → ℕ
without_offset offset None = 0
without_offset offset (Some n) = n - offset

-- the last round of a script with this last group left the state as it was: the run settled, or it did not although the
-- number of rounds is free
abbrev pub EndsAtRest : Group → Close → Type 0
EndsAtRest group close = (close ≡ Settled) ⊎ ((close ≡ Unsettled) × (group.rounds ≡ Settle))

-- Where a run isn't refuted, its log tells this of the written instance:
pub record Tells (script : List Group) (stages : List StageLine) (close : Close) (log : List ℕ) (g : Formula) (offset : ℕ) : Type 0 where
  -- where it ends as that of a run that settled, all letters of the last group have their end states at once
  pub settled : (before : List Group) (group : Group) (front : List ℕ) → script ≡ before ++ group ∷ [] → log ≡ front ++ close_text Settled
      → IsStateWith g (λ s. (stage : Stage) → Contains group.stages stage → HasEndState stage.letter (without_offset offset (last_bound stages)) s)
  -- where the last stage left nothing to do, its letter has its end state
  pub finished : (line : StageLine) → last_line stages ≡ Some line → is_done line.ending ≡ true → IsStateWith g (HasEndState line.letter (without_offset offset (bound_of line.ending)))
  -- the counts of the last line are the sizes of the instance
  pub counts : (line : StageLine) → last_line stages ≡ Some line → line.counts ≡ sizes_of g
  -- and so are those of each line of a last round that left the state as it was
  pub round : (before : List Group) (group : Group) → script ≡ before ++ group ∷ [] → EndsAtRest group close
      → (earlier : List StageLine) × (own : List StageLine) × (stages ≡ earlier ++ own) × (map (λ line. line.letter) own ≡ letters_of group.stages) × ((line : StageLine) → Contains own line → line.counts ≡ sizes_of g)
