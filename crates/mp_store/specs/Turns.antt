-- Budgets of turns, and where a technique stands between its turns.
use Rattle.std.specs.Prelude.{◌≡◌, ℕ, ◌+◌, ◌-◌, ◌*◌, ◌≤◌, Bool, true, false, IsTrue, List, ◌++◌, length, All, Option, Some, None, nat_lt}
use Rattle.mp_clauses.specs.Places.{no_repeats}
use Rattle.mp_store.specs.Held.{Held, labelled_of}
use Rattle.mp_store.specs.Techniques.{Technique, IsRun, IsChange}

-- whether a budget leaves a turn; without a budget there is no end of them
abbrev pub has_turn : Option ℕ → Bool
has_turn None = true
has_turn (Some n) = nat_lt 0 n

-- one turn less, where there is one
abbrev pub one_less : Option ℕ → Option ℕ
one_less None = None
one_less (Some n) = Some (n - 1)

-- of a budget so many turns are used, and so many are left
abbrev pub IsLeft : Option ℕ → ℕ → Option ℕ → Type 0
IsLeft None used left = left ≡ None
IsLeft (Some b) used left = (left ≡ Some (b - used)) × (used ≤ b)

-- so many turns are used; each took one candidate, and with each unit by which the size fell no more came to wait than there
-- were candidates at first
pub record ArePaced (most before now : ℕ) (budget remaining : Option ℕ) (waiting used : ℕ) : Type 0 where
  pub left : IsLeft budget used remaining
  pub falls : now ≤ before
  pub bound : used + waiting ≤ most * (1 + before - now)

-- so many candidates were tried, each is idle, and none of them waits
pub record AreTried (IsIdle : ℕ → Type 0) (queue : List ℕ) (used : ℕ) : Type 0 where
  pub tried : List ℕ
  pub many : length tried ≡ used
  pub once : IsTrue (no_repeats (tried ++ queue))
  pub idle : All IsIdle tried

-- a run so far, with so many candidates waiting
pub record IsBetween (technique : Technique) (budget remaining : Option ℕ) (old now : Held) (changed : Bool) (waiting : ℕ) : Type 0 where
  pub run : IsRun technique.LeavesAlone old now
  pub unrefuted : now.refuted ≡ false
  pub change : IsChange changed old now
  pub used : ℕ
  pub paced : ArePaced (length (technique.candidates (labelled_of old))) (technique.size (labelled_of old)) (technique.size (labelled_of now)) budget remaining waiting used
