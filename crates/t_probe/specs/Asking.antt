-- What every technique that asks an oracle promises, given its own part. As for techniques that rewrite by turns, `IsRun` and
-- `IsChange` of mp_store say what it does to a store; here stands what its answer says.
use Rattle.std.specs.Prelude.{◌≡◌, ◌⊎◌, ℕ, List, [], length, Contains}
use Rattle.mp_logic.specs.Literal.{Literal}
use Rattle.mp_logic.specs.Learning.{IsLearnt}
use Rattle.mp_logic.specs.Keeping.{State}
use Rattle.mp_logic.specs.declared.instances.Repair.{Repair}
use Rattle.mp_store.specs.Held.{Held, labelled_of}
use Rattle.mp_store.specs.Techniques.{IsChange}
use Rattle.core_solver.specs.declared.query.Query.{Query}
use Rattle.core_solver.specs.declared.query.Verdict.{Verdict}
use Rattle.core_solver.specs.declared.query.Verdict.TheVariants.{Unknown}
use Rattle.t_probe.specs.declared.probed.Probed.{Probed}
use Rattle.t_probe.specs.declared.probed.ProbeEnding.{ProbeEnding}
use Rattle.t_probe.specs.declared.probed.ProbeEnding.TheVariants.{Finished, Spent, Bound}

-- A technique's own part: what it leaves nothing of; what a bound says; what it leaves alone, given the repairs that it adds;
-- and what its queries assume.
pub record Asking : Type 1 where
  pub HasEndState : State → Type 0
  pub HasBound : ℕ → State → Type 0
  pub LeavesAlone : State → State → List Repair → Type 0
  pub Assumes : State → List Literal → Type 0

-- the query is about the state, and the oracle did not know: it learnt as many clauses as the budget allows
pub record IsUnanswered (asking : Asking) (Answers : Query → Verdict → Type 0) (budget : ℕ) (t : State) (q : Query) (learnt : List (List Literal)) : Type 0 where
  pub vars : q.vars ≡ t.vars
  pub hard : q.hard ≡ t.hard
  pub assumes : asking.Assumes t q.assumptions
  pub given : q.budget ≡ budget
  pub answered : Answers q (Unknown learnt)
  pub many : length learnt ≡ budget
  pub lessons : IsLearnt t.hard learnt
  pub unrefuted : Contains t.hard [] → ⊥

-- what an ending says of the state at the end
abbrev pub IsProbeEnd : Asking → (Query → Verdict → Type 0) → ℕ → State → ProbeEnding → Type 0
IsProbeEnd asking Answers budget t Finished = Contains t.hard [] ⊎ asking.HasEndState t
IsProbeEnd asking Answers budget t (Spent q learnt) = IsUnanswered asking Answers budget t q learnt
IsProbeEnd asking Answers budget t (Bound u) = asking.HasBound u t

-- what the answer says
pub record IsProbed (asking : Asking) (Answers : Query → Verdict → Type 0) (budget : ℕ) (old new : Held) (probed : Probed) : Type 0 where
  pub change : IsChange probed.changed old new
  pub ending : IsProbeEnd asking Answers budget (labelled_of new) probed.ending
