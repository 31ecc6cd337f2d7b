-- The written form of a labelled state with unit soft clauses.
use Rattle.std.specs.Prelude.{◌≡◌, ℕ, ◌+◌, ◌⊎◌, Bool, ◌||◌, List, [], ◌∷◌, Contains, filter, map, length, max, nat_eq, if◌then◌else◌}
use Rattle.std.specs.List.{list_any, range_with_len}
use Rattle.std.specs.List.Sorted.{IsPermutation, IsSorted, IsNonDecreasingBy}
use Rattle.std.specs.Cmp.Lexicographic.{slice_cmp}
use Rattle.mp_logic.specs.Literal.{Literal, negation}
use Rattle.mp_logic.specs.Formula.{Formula}
use Rattle.mp_logic.specs.Keeping.{State}
use Rattle.mp_logic.specs.Carrying.{WrittenForm}
use Rattle.mp_logic.specs.Normal.{lit_cmp}
use Rattle.mp_logic.specs.declared.instances.Cost.{Cost}
use Rattle.mp_logic.specs.declared.instances.Soft.{Soft}
use Rattle.mp_labels.specs.LabelView.{positive}

-- a literal of the variable stands in the clause
abbrev pub has_variable : ℕ → List Literal → Bool
has_variable v c = list_any (λ l. nat_eq l.variable v) c

-- a cost literal of the variable is among them
abbrev pub has_cost : ℕ → List Cost → Bool
has_cost v ps = list_any (λ p. nat_eq p.lit.variable v) ps

-- the variable occurs in a hard clause or has a cost
abbrev pub is_used : State → ℕ → Bool
is_used s v = list_any (has_variable v) s.hard || has_cost v s.costs

-- the variables that are used, rising
abbrev pub names_of : State → List ℕ
names_of s = filter (is_used s) (range_with_len 1 s.vars)

-- the place of a variable among the names, from 1
abbrev pub number_of : List ℕ → ℕ → ℕ
number_of [] v = 0
number_of (name ∷ names) v = if nat_eq name v then 1 else 1 + number_of names v

-- the literal of the variable's number, of the same sign
abbrev pub renamed : List ℕ → Literal → Literal
renamed names l = record l { variable = number_of names l.variable }

-- the unit soft clause that costs the weight where the cost literal is true
abbrev pub soft_of : List ℕ → Cost → Soft
soft_of names p = record { weight = p.weight; clause = negation (renamed names p.lit) ∷ [] }

-- the written form is the state under the numbers of its used variables: hard clauses in the order of clauses, repeats kept,
-- a unit soft clause for each cost literal in order of variable, the offset, and no repairs
pub record IsUnitForm (s : State) (w : WrittenForm) : Type 0 where
  pub names : w.names ≡ names_of s
  pub vars : w.«instance».vars ≡ length (names_of s)
  pub hard : IsPermutation (map (map (renamed (names_of s))) s.hard) w.«instance».hard
  pub hard_sorted : IsSorted (slice_cmp lit_cmp) w.«instance».hard
  pub costs : List Cost
  pub costs_moved : IsPermutation s.costs costs
  pub costs_in_order : IsNonDecreasingBy (λ p. p.lit.variable) costs
  pub soft : w.«instance».soft ≡ map (soft_of (names_of s)) costs
  pub inner : w.inner ≡ s.vars
  pub offset : w.offset ≡ s.offset
  pub repairs : w.repairs ≡ []

-- the refuted form, which no assignment satisfies: the clauses 1 and -1
abbrev pub refuted_form : ℕ → WrittenForm
refuted_form vars = record {
  «instance» = record { vars = 1; hard = (positive 1 ∷ []) ∷ ((negation (positive 1) ∷ []) ∷ []); soft = [] };
  names = 1 ∷ [];
  inner = max 1 vars;
  offset = 0;
  repairs = [];
}

-- the refuted form where a hard clause is empty, else the form with unit soft clauses
pub record IsPlainForm (s : State) (w : WrittenForm) : Type 0 where
  pub refuted : Contains s.hard [] → w ≡ refuted_form s.vars
  pub otherwise : (Contains s.hard [] → ⊥) → IsUnitForm s w

-- the variable stands in a hard or in a soft clause
abbrev pub Occurs : Formula → ℕ → Type 0
Occurs f v = ((c : List Literal) × Contains f.hard c × ((l : Literal) × Contains c l × (l.variable ≡ v)))
    ⊎ ((s : Soft) × Contains f.soft s × ((l : Literal) × Contains s.clause l × (l.variable ≡ v)))
