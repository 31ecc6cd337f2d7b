-- What a technique by turns is, beside what it promises in public.
use Rattle.std.specs.Prelude.{◌≡◌, ◌⊎◌, ℕ, ◌+◌, false, List, [], ◌++◌, IsTrue, Contains, length}
use Rattle.mp_logic.specs.Keeping.{State}
use Rattle.mp_logic.specs.declared.instances.Repair.{Repair}
use Rattle.mp_store.specs.Held.{Held, labelled_of, IsUntouched}
use Rattle.mp_clauses.specs.Places.{no_repeats}
use Rattle.mp_store.specs.Soundness.{IsStore}
use Rattle.mp_store.specs.Techniques.{Technique, HasIdle}

-- the technique, its candidates in a store, rising, when a turn on one changes nothing (which is true of each number that is
-- no candidate), and what so many turns leave of the store itself
pub record Turning : Type 1 where
  pub technique : Technique
  pub candidates : Held → List ℕ
  pub IsIdle : Held → ℕ → Type 0
  pub stays : ℕ → Held → Held → Type 0

-- what a technique by turns owes: leaving alone is an order, and turns add up; candidates are distinct and so many as it
-- says, and what is none is idle; a store that is not touched has the same idle candidates; where all are idle there is the
-- end state; and where the first candidates are idle, so many are idle
pub record IsTurning (t : Turning) : Type 0 where
  pub itself : (s : State) → t.technique.LeavesAlone s s []
  pub twice : (a b c : State) (x y : List Repair) → t.technique.LeavesAlone a b x → t.technique.LeavesAlone b c y → t.technique.LeavesAlone a c (x ++ y)
  pub stays_itself : (h u : Held) → IsUntouched h u → t.stays 0 h u
  pub stays_twice : (m n : ℕ) (a b c : Held) → t.stays m a b → t.stays n b c → t.stays (m + n) a c
  pub counted : (h : Held) → IsStore h → length (t.candidates h) ≡ length (t.technique.candidates (labelled_of h))
  pub distinct : (h : Held) → IsStore h → IsTrue (no_repeats (t.candidates h))
  pub others : (h : Held) (i : ℕ) → IsStore h → Contains (t.candidates h) i ⊎ t.IsIdle h i
  pub untouched : (h u : Held) (i : ℕ) → IsUntouched h u → t.IsIdle h i → t.IsIdle u i
  pub ended : (h : Held) → IsStore h → h.refuted ≡ false → ((i : ℕ) → t.IsIdle h i) → t.technique.HasEndState (labelled_of h)
  pub idle : (h : Held) (first rest : List ℕ) → IsStore h → t.candidates h ≡ first ++ rest → ((i : ℕ) → Contains first i → t.IsIdle h i) → HasIdle t.technique (labelled_of h) (length first)
