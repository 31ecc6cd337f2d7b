-- Where a technique by turns stands between two turns.
use Rattle.std.specs.Prelude.{◌≡◌, ◌⊎◌, ℕ, ◌≤◌, Bool, false, List, ◌++◌, Option, Some, IfSome, Contains, length}
use Rattle.mp_store.specs.Held.{Held, labelled_of}
use Rattle.mp_store.specs.Turns.{IsBetween, IsLeft}
use Rattle.mp_turns.specs.Turning.{Turning}

-- no more turns than a budget has, and what they leave of the store itself
pub record StaysWithin (t : Turning) (budget : Option ℕ) (old new : Held) : Type 0 where
  pub turns : ℕ
  pub within : IfSome budget (λ b. turns ≤ b)
  pub stays : t.stays turns old new

-- the run so far, with these candidates waiting: each other is idle, there are no more than at first, and where there is a budget
-- and nothing has changed the turns were on the first of them, all idle
pub record IsUnderway (t : Turning) (budget left : Option ℕ) (old now : Held) (queue : List ℕ) (changed : Bool) : Type 0 where
  pub between : IsBetween t.technique budget left old now changed (length queue)
  pub turns : ℕ
  pub spent : IsLeft budget turns left
  pub stays : t.stays turns old now
  pub covers : (i : ℕ) → Contains queue i ⊎ t.IsIdle now i
  pub fewer : length (t.technique.candidates (labelled_of now)) ≤ length (t.technique.candidates (labelled_of old))
  pub first : changed ≡ false → (b : ℕ) → budget ≡ Some b → (taken : List ℕ) × (t.candidates old ≡ taken ++ queue) × (length taken ≡ between.used) × ((i : ℕ) → Contains taken i → t.IsIdle old i)

-- each candidate that is not idle is one of these, which are no more than the candidates
pub record AreAwake (t : Turning) (h : Held) (items : List ℕ) : Type 0 where
  pub covers : (i : ℕ) → Contains (t.candidates h) i → Contains items i ⊎ t.IsIdle h i
  pub few : length items ≤ length (t.candidates h)
