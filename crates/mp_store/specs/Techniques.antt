-- What every technique promises, given its own part. It speaks of labelled states wherever it can, so that a run of a script
-- says the same of the states between its techniques.
use Rattle.std.specs.Prelude.{◌≡◌, ◌⊎◌, ℕ, ◌+◌, ◌-◌, ◌*◌, ◌<◌, ◌≤◌, Bool, true, false, IsTrue, List, [], ◌++◌, length, Contains, Option, Some}
use Rattle.mp_logic.specs.Literal.{Literal}
use Rattle.mp_logic.specs.Keeping.{State, Keeps}
use Rattle.mp_logic.specs.declared.instances.Repair.{Repair}
use Rattle.mp_store.specs.declared.ran.Ran.{Ran}
use Rattle.mp_store.specs.declared.ran.Ending.{Ending}
use Rattle.mp_store.specs.declared.ran.Ending.TheVariants.{Finished, Spent, NoRoom}
use Rattle.mp_clauses.specs.Places.{no_repeats}
use Rattle.mp_store.specs.Held.{Held, labelled_of, IsUntouched}
use Rattle.mp_clauses.specs.Slots.{clause_of}
use Rattle.mp_store.specs.Measures.{IsSmaller}

-- A technique's own part: what it leaves nothing of; the candidates for a turn, each by a number; the size that each change
-- lowers; that a candidate admits no change; what it leaves alone, given the repairs that it adds; and what it still has to do
-- where it lacks room for a variable.
pub record Technique : Type 1 where
  pub HasEndState : State → Type 0
  pub candidates : State → List ℕ
  pub size : State → ℕ
  pub IsIdle : State → ℕ → Type 0
  pub LeavesAlone : State → State → List Repair → Type 0
  pub WantsRoom : State → Type 0

-- so many different candidates admit no change
pub record HasIdle (technique : Technique) (s : State) (n : ℕ) : Type 0 where
  pub idle : List ℕ
  pub many : n ≤ length idle
  pub once : IsTrue (no_repeats idle)
  pub each : (k : ℕ) → Contains idle k → Contains (technique.candidates s) k × technique.IsIdle s k

-- no clause is empty, the budget is below the bound of the turns from s to t, and where nothing changed so many candidates are idle
pub record IsSpent (technique : Technique) (budget : Option ℕ) (s t : State) : Type 0 where
  pub turns : ℕ
  pub given : budget ≡ Some turns
  pub below : turns < length (technique.candidates s) * (1 + technique.size s - technique.size t)
  pub idle : t ≡ s → HasIdle technique t turns
  pub unrefuted : Contains t.hard [] → ⊥

-- how a run from s to t ends, where there may be so many variables
abbrev pub IsEnd : Technique → Option ℕ → ℕ → State → State → Ending → Type 0
IsEnd technique budget inner s t Finished = Contains t.hard [] ⊎ technique.HasEndState t
IsEnd technique budget inner s t Spent = IsSpent technique budget s t
IsEnd technique budget inner s t NoRoom = technique.WantsRoom t × (t.vars ≡ inner)

-- models and costs are kept, and unless a clause is empty this is left alone
pub record IsStep (LeavesAlone : State → State → List Repair → Type 0) (s t : State) (added : List Repair) : Type 0 where
  pub keeps : Keeps s t added
  pub alone : (Contains t.hard [] → ⊥) → LeavesAlone s t added

-- what holds of entry and exit whatever the answer, want of memory included; an id has its clause for good
pub record IsRun (LeavesAlone : State → State → List Repair → Type 0) (old new : Held) : Type 0 where
  pub added : List Repair
  pub repairs : new.repairs ≡ old.repairs ++ added
  pub step : IsStep LeavesAlone (labelled_of old) (labelled_of new) added
  pub inner : new.inner ≡ old.inner
  pub next : length old.slots ≤ length new.slots
  pub ids : (id : ℕ) (c : List Literal) → id < length old.slots → clause_of new.slots id ≡ Some c → clause_of old.slots id ≡ Some c

-- each id that has a clause had it before
abbrev pub KeepsIds : Held → Held → Type 0
KeepsIds old new = (id : ℕ) (c : List Literal) → clause_of new.slots id ≡ Some c → clause_of old.slots id ≡ Some c

-- whether something changed, and what changed is smaller or refuted
pub record IsChange (changed : Bool) (old new : Held) : Type 0 where
  pub same : changed ≡ false → IsUntouched old new
  pub smaller : changed ≡ true → (new.refuted ≡ true) ⊎ IsSmaller (labelled_of new) (labelled_of old)

-- what the answer says
pub record IsAnswer (technique : Technique) (budget : Option ℕ) (old new : Held) (ran : Ran) : Type 0 where
  pub change : IsChange ran.changed old new
  pub ending : IsEnd technique budget new.inner (labelled_of old) (labelled_of new) ran.ending
