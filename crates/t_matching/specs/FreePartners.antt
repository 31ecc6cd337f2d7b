-- What is known of the labels that may match because one of two is in no clause.
use Rattle.std.specs.Prelude.{◌≡◌, ◌≢◌, ◌<◌, ◌≤◌, ℕ, IsTrue, List, [], Option, Some, None, Contains, length, drop, slice_index_or, nat_eq}
use Rattle.std.specs.HashMap.{get}
use Rattle.mp_logic.specs.Literal.{Literal}
use Rattle.mp_logic.specs.Normal.{literals_rise, SameLiterals}
use Rattle.mp_logic.specs.SubsumedLabels.{IsPlain}
use Rattle.mp_clauses.specs.Slots.{live_clauses}
use Rattle.mp_clauses.specs.Weighing.{weight_in}
use Rattle.mp_store.specs.Held.{Held}
use Rattle.t_matching.specs.Labels.{IsUnused}
use Rattle.t_matching.specs.declared.free_partners.FreeLabels.{FreeLabels}
use Rattle.t_matching.specs.declared.free_partners.WeightClass.{WeightClass}

-- a label of the store; one that no clause has; a plain one of a weight
abbrev pub IsLabel : Literal → Held → Type 0
IsLabel l h = weight_in h.weights l ≢ 0

abbrev pub IsUnusedLabel : Literal → Held → Type 0
IsUnusedLabel l h = IsLabel l h × IsUnused l (live_clauses h.slots)

abbrev pub IsPlainLabel : ℕ → Literal → Held → Type 0
IsPlainLabel w l h = (weight_in h.weights l ≡ w) × IsLabel l h × IsPlain l (live_clauses h.slots)

-- each plain label of the weight is in the class, whose labels rise, and none that no clause has is passed over
pub record IsClass (w : ℕ) (class : WeightClass) (h : Held) : Type 0 where
  pub rising : IsTrue (literals_rise class.labels)
  pub within : class.passed ≤ length class.labels
  pub plain : (m : Literal) → IsPlainLabel w m h → Contains class.labels m
  pub unused : (m : Literal) → IsPlainLabel w m h → IsUnused m (live_clauses h.slots) → Contains (drop class.passed class.labels) m

-- the class of a weight, without labels where the weight has no number
abbrev pub no_class : WeightClass
no_class = record { labels = []; passed = 0 }

abbrev pub class_at : List WeightClass → Option ℕ → WeightClass
class_at classes None = no_class
class_at classes (Some k) = slice_index_or classes k no_class

abbrev pub class_of : FreeLabels → ℕ → WeightClass
class_of free w = class_at free.classes.items (get nat_eq free.numbers w)

-- each number is that of a class
abbrev pub HasClasses : FreeLabels → Type 0
HasClasses free = (w k : ℕ) → get nat_eq free.numbers w ≡ Some k → k < length free.classes.items

-- the plain labels of each weight are known
pub record AreKnown (free : FreeLabels) (h : Held) : Type 0 where
  pub numbers : HasClasses free
  pub classes : (w : ℕ) → IsClass w (class_of free w) h

-- a class with its labels in order
pub record IsInOrder (old new : WeightClass) : Type 0 where
  pub rising : IsTrue (literals_rise new.labels)
  pub same : SameLiterals old.labels new.labels
  pub passed : new.passed ≡ old.passed
