-- Replacing literals by their images, all at once.
use Rattle.std.specs.Prelude.{◌≡◌, ◌≤◌, ◌+◌, ◌⊎◌, ℕ, Bool, false, List, [], ◌∷◌, Contains, sum_by}
use Rattle.mp_logic.specs.Literal.{Literal, negation}
use Rattle.mp_logic.specs.declared.instances.Cost.{Cost}
use Rattle.mp_logic.specs.declared.instances.Repair.{Repair}
use Rattle.mp_logic.specs.Truth.{literal_value}
use Rattle.mp_logic.specs.Keeping.{State, IsModel, charged, full_cost, total_of, Keeps}
use Rattle.mp_logic.specs.Sets.{HasVariables}
use Rattle.mp_logic.specs.Rewrites.{set_repair}

-- as sets, d has the images of the literals of c
pub record HasImages (image : Literal → Literal) (c d : List Literal) : Type 0 where
  pub on : (k : Literal) → Contains c k → Contains d (image k)
  pub back : (m : Literal) → Contains d m → (k : Literal) × Contains c k × (m ≡ image k)

-- the images of two literals of a clause are each other's negation
abbrev pub HasOpposites : (Literal → Literal) → List Literal → Type 0
HasOpposites image c = (k : Literal) × (j : Literal) × Contains c k × Contains c j × (image j ≡ negation (image k))

-- ds has the images of the clauses of cs, but for tautologies, and no others
pub record AreSubstituted (image : Literal → Literal) (cs ds : List (List Literal)) : Type 0 where
  pub made : (c : List Literal) → Contains cs c → HasOpposites image c ⊎ ((d : List Literal) × Contains ds d × HasImages image c d)
  pub only : (d : List Literal) → Contains ds d → (c : List Literal) × Contains cs c × HasImages image c d

-- a cost with the image of its literal
abbrev pub imaged : (Literal → Literal) → Cost → Cost
imaged image p = record { lit = image p.lit; weight = p.weight }

-- costs come to what those of the images come to, and not to more in all
pub record IsPaidByImages (image : Literal → Literal) (s u : State) : Type 0 where
  pub same : (a : List Bool) → full_cost u a ≡ s.offset + sum_by (λ p. charged a (imaged image p)) s.costs
  pub total : total_of u ≤ total_of s

abbrev pub positive : ℕ → Literal
positive v = record { variable = v; negative = false }

-- for each of the variables, in order, the two repairs that give it the value of its image
abbrev pub image_repairs : (Literal → Literal) → List ℕ → List Repair
image_repairs image [] = []
image_repairs image (v ∷ vs) =
    set_repair (positive v) (negation (image (positive v)) ∷ (positive v ∷ [])) ∷ (set_repair (negation (positive v)) (image (positive v) ∷ (negation (positive v) ∷ [])) ∷ image_repairs image vs)

-- the literals of these variables, and no others, are replaced, by literals of other variables; signs are kept
pub record IsSubstitution (image : Literal → Literal) (vs : List ℕ) : Type 0 where
  pub from_one : (v : ℕ) → Contains vs v → 1 ≤ v
  pub opposite : (k : Literal) → 1 ≤ k.variable → image (negation k) ≡ negation (image k)
  pub known : (k : Literal) → 1 ≤ k.variable → 1 ≤ (image k).variable
  pub others : (k : Literal) → 1 ≤ k.variable → (Contains vs k.variable → ⊥) → image k ≡ k
  pub away : (k : Literal) → 1 ≤ k.variable → Contains vs (image k).variable → ⊥

-- in each model a literal has the value of its image
abbrev pub HaveImageValues : State → (Literal → Literal) → Type 0
HaveImageValues s image = (a : List Bool) → IsModel s a → (k : Literal) → 1 ≤ k.variable → literal_value a k ≡ literal_value a (image k)

-- the law: literals may be replaced by others that have their values in each model
abbrev pub SubstitutingAllKeeps : Type 0
SubstitutingAllKeeps = (s u : State) (image : Literal → Literal) (vs : List ℕ) → HasVariables s → IsSubstitution image vs → HaveImageValues s image
    → AreSubstituted image s.hard u.hard → IsPaidByImages image s u → u.vars ≡ s.vars → Keeps s u (image_repairs image vs)
