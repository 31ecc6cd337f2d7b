-- States that differ in nothing but the numbers of their variables and the order of their clauses and costs.
use Rattle.std.specs.Prelude.{◌≡◌, ◌⊎◌, ◌<◌, ◌≤◌, ℕ, List, Contains, map}
use Rattle.std.specs.List.Sorted.{IsPermutation}
use Rattle.mp_logic.specs.Literal.{Literal}
use Rattle.mp_logic.specs.Keeping.{State}
use Rattle.mp_logic.specs.declared.instances.Cost.{Cost}
use Rattle.mp_script.specs.declared.scripts.Letter.{Letter}
use Rattle.mp_engine.specs.Letters.{HasEndState}
use Rattle.mp_engine.specs.Stages.{counts_of}

-- the variable stands in a hard clause or has a cost
abbrev pub Uses : State → ℕ → Type 0
Uses s v = ((c : List Literal) × Contains s.hard c × ((l : Literal) × Contains c l × (l.variable ≡ v))) ⊎ ((p : Cost) × Contains s.costs p × (p.lit.variable ≡ v))

-- the literal of the same sign under the number of its variable
abbrev pub numbered : (ℕ → ℕ) → Literal → Literal
numbered number l = record l { variable = number l.variable }

abbrev pub numbered_cost : (ℕ → ℕ) → Cost → Cost
numbered_cost number p = record p { lit = numbered number p.lit }

-- The second state is the first one under new numbers for its variables, from 1, which rise as the variables do, its clauses
-- and its costs in any order.
pub record IsAlike (s t : State) : Type 0 where
  pub number : ℕ → ℕ
  pub from_one : (v : ℕ) → Uses s v → 1 ≤ number v
  pub rises : (v w : ℕ) → Uses s v → Uses s w → v < w → number v < number w
  pub hard : IsPermutation (map (map (numbered number)) s.hard) t.hard
  pub costs : IsPermutation (map (numbered_cost number) s.costs) t.costs

-- the law: what a letter leaves nothing of in a state it leaves nothing of in each one that is alike
abbrev pub EndStatesMove : Type 0
EndStatesMove = (letter : Letter) (u : ℕ) (s t : State) → IsAlike s t → HasEndState letter u s → HasEndState letter u t

-- the law: states that are alike have as many clauses, literals and costs
abbrev pub CountsMove : Type 0
CountsMove = (s t : State) → IsAlike s t → counts_of t ≡ counts_of s
