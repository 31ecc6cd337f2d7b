-- Labels of which at most one is false: the rewrite, and what it leaves.
use Rattle.std.specs.Prelude.{◌≡◌, ◌+◌, ◌-◌, ◌≤◌, ℕ, false, List, [], ◌∷◌, ◌++◌, map, IsTrue, Contains, length}
use Rattle.mp_logic.specs.Literal.{Literal}
use Rattle.mp_logic.specs.Normal.{rises}
use Rattle.mp_logic.specs.AtMostOnes.{worth, ArePaired, IsTop}
use Rattle.mp_logic.specs.declared.instances.Cost.{Cost}
use Rattle.mp_store.specs.declared.rewrite.Rewrite.{Rewrite}
use Rattle.mp_clauses.specs.Places.{place_of, no_repeats}
use Rattle.mp_clauses.specs.Weighing.{weight_in}
use Rattle.mp_store.specs.Held.{Held, labelled_of, IsUntouched}
use Rattle.mp_store.specs.Rewriting.{after}
use Rattle.t_amo.specs.Choosing.{AreMutual}

-- the variable that comes
abbrev pub fresh_label : Held → Literal
fresh_label h = record { variable = h.vars + 1; negative = false }

-- the weights of some labels, each less by w
abbrev pub lowered : ℕ → List ℕ → List Literal → List Cost
lowered w weights bs = map (λ b. record { lit = b; weight = weight_in weights b - w }) bs

-- the weights of the chosen labels fall by w, a new label costs w, so does each chosen one but one for good, and the clause
-- of their negations and the new label comes
abbrev pub chosen_rewrite : List Literal → ℕ → ℕ → List Literal → Held → Rewrite
chosen_rewrite bs w shift top h = record { gone = []; added = top ∷ []; costs = lowered w h.weights bs ++ record { lit = fresh_label h; weight = w } ∷ []; shift = shift; repairs = []; fresh = 1 }

-- at least two labels, each two of them an implied clause, none of less weight than w; the weight that is sure is w for each but
-- one; there is room for a variable; and the clause is that of their negations and the new label
pub record AreChosen (bs : List Literal) (w shift : ℕ) (top : List Literal) (h : Held) : Type 0 where
  pub some : 2 ≤ length bs
  pub distinct : IsTrue (no_repeats (map place_of bs))
  pub weigh : (b : Literal) → Contains bs b → (1 ≤ w) × (w ≤ weight_in h.weights b)
  pub paired : ArePaired (labelled_of h).hard bs
  pub sure : shift + w ≡ worth w bs
  pub room : h.vars + 1 ≤ h.inner
  pub clause : IsTop (fresh_label h) bs top
  pub normal : IsTrue (rises 0 top)

-- the rewrite joins these labels at weight w
pub record IsJoin (bs : List Literal) (w : ℕ) (h : Held) (r : Rewrite) : Type 0 where
  pub shift : ℕ
  pub top : List Literal
  pub chosen : AreChosen bs w shift top h
  pub is : r ≡ chosen_rewrite bs w shift top h

-- w is the least weight of some literals
pub record IsLeast (h : Held) (bs : List Literal) (w : ℕ) : Type 0 where
  pub each : (b : Literal) → Contains bs b → w ≤ weight_in h.weights b
  pub some : (b : Literal) × Contains bs b × (weight_in h.weights b ≡ w)

-- what is left once the labels are joined at their least weight
pub record IsJoined (bs : List Literal) (old new : Held) : Type 0 where
  pub w : ℕ
  pub least : IsLeast old bs w
  pub each_two : AreMutual old bs
  pub shift : ℕ
  pub top : List Literal
  pub chosen : AreChosen bs w shift top old
  pub made : IsUntouched (after (chosen_rewrite bs w shift top old) old) new
