-- The rewrite that replaces literals by their images, and what a turn leaves.
use Rattle.std.specs.Prelude.{◌≡◌, ◌⊎◌, ℕ, ◌<◌, ◌≤◌, ◌==◌, Bool, false, not, List, Option, Some, None, IsTrue, All, Contains, length}
use Rattle.std.specs.List.{list_any}
use Rattle.mp_logic.specs.Literal.{Literal}
use Rattle.mp_logic.specs.Truth.{literal_value, IsSatisfied}
use Rattle.mp_logic.specs.Normal.{rises}
use Rattle.mp_clauses.specs.Places.{place_of}
use Rattle.mp_clauses.specs.Slots.{clause_of}
use Rattle.mp_clauses.specs.Occurrences.{ids_where}
use Rattle.mp_store.specs.declared.rewrite.Rewrite.{Rewrite}
use Rattle.mp_store.specs.Held.{Held, IsUntouched}
use Rattle.mp_store.specs.Rewriting.{after}
use Rattle.t_equiv.specs.Substituting.{positive, image_repairs, HasImages, HasOpposites, IsSubstitution}
use Rattle.t_equiv.specs.Images.{image_in, StaysKnown}
use Rattle.t_equiv.specs.Pooling.{ArePooled}

-- the image of the literal is another
abbrev pub moves : List Literal → Literal → Bool
moves images l = not (place_of (image_in images l) == place_of l)

-- the slot has a clause with such a literal
abbrev pub slot_moves : List Literal → Option (List Literal) → Bool
slot_moves images None = false
slot_moves images (Some c) = list_any (moves images) c

-- the ids of the clauses that change, rising
abbrev pub moved_ids : List Literal → List (Option (List Literal)) → List ℕ
moved_ids images slots = ids_where (slot_moves images) 0 slots

-- what images must be for the rewrite: of lower variables, the same in each model
pub record AreSound (vars : ℕ) (cs : List (List Literal)) (images : List Literal) (vs : List ℕ) : Type 0 where
  pub substitution : IsSubstitution (image_in images) vs
  pub known : StaysKnown vars images
  pub lower : (v : ℕ) → Contains vs v → (v ≤ vars) × ((image_in images (positive v)).variable < v)
  pub values : (a : List Bool) → IsSatisfied a cs → (k : Literal) → 1 ≤ k.variable → literal_value a k ≡ literal_value a (image_in images k)

-- d has the images of the literals of c, in normal form, and is no tautology
pub record IsImageClause (image : Literal → Literal) (c d : List Literal) : Type 0 where
  pub images : HasImages image c d
  pub normal : IsTrue (rises 0 d)
  pub apart : HasOpposites image c → ⊥

-- the clauses of these ids with images in place of literals, but for tautologies; so many fewer, at least one where there is
-- a tautology
pub record AreImageClauses (images : List Literal) (slots : List (Option (List Literal))) (ids : List ℕ) (added : List (List Literal)) : Type 0 where
  pub made : (id : ℕ) (c : List Literal) → Contains ids id → clause_of slots id ≡ Some c → HasOpposites (image_in images) c ⊎ ((d : List Literal) × Contains added d × HasImages (image_in images) c d)
  pub only : (d : List Literal) → Contains added d → (id : ℕ) × (c : List Literal) × Contains ids id × (clause_of slots id ≡ Some c) × HasImages (image_in images) c d
  pub normal : All (λ d. IsTrue (rises 0 d)) added
  pub few : length added ≤ length ids
  pub fewer : (id : ℕ) (c : List Literal) → Contains ids id → clause_of slots id ≡ Some c → HasOpposites (image_in images) c → length added < length ids

-- the rewrite of a turn
pub record IsImageRewrite (images : List Literal) (vs : List ℕ) (h : Held) (r : Rewrite) : Type 0 where
  pub gone : r.gone ≡ moved_ids images h.slots
  pub added : AreImageClauses images h.slots r.gone r.added
  pub pooled : ArePooled images h.vars h.weights r.costs r.shift
  pub repairs : r.repairs ≡ image_repairs (image_in images) vs
  pub fresh : r.fresh ≡ 0

-- the literals of a store are replaced by their images
pub record AreReplacedIn (images : List Literal) (vs : List ℕ) (old new : Held) : Type 0 where
  pub rewrite : Rewrite
  pub is : IsImageRewrite images vs old rewrite
  pub applied : IsUntouched (after rewrite old) new
