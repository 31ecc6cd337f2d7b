-- Which instance a WCNF text denotes. No limits.
use Rattle.std.specs.Prelude.{◌≡◌, ℕ, true, List, [], ◌∷◌, ◌++◌, Option, Some, None, if◌then◌else◌, nat_lt, fold}
use Rattle.std.specs.List.{flat_map}
use Rattle.mp_logic.specs.Literal.{Literal}
use Rattle.mp_logic.specs.Formula.{Formula}
use Rattle.mp_logic.specs.declared.instances.Soft.{Soft}
use Rattle.mp_text.specs.Tokens.{Word, tokens_of}
use Rattle.mp_wcnf.specs.Grammar.{Header, Item, IsHeading, GoesBehind, AreClauses, top_of}

-- the greater number
abbrev pub max_of : ℕ → ℕ → ℕ
max_of a b = if nat_lt a b then b else a

-- the greatest of a number and the variables of a clause
abbrev pub widest : ℕ → List Literal → ℕ
widest n lits = fold (λ m l. max_of m l.variable) n lits

-- n of the header, or 0
abbrev pub size_of : Option Header → ℕ
size_of None = 0
size_of (Some h) = h.vars

-- the greatest variable, or n where that is greater
abbrev pub vars_of : Option Header → List Item → ℕ
vars_of header items = fold (λ m i. widest m i.lits) (size_of header) items

-- the clause where it is hard
abbrev pub hard_of : Item → Option ℕ → List (List Literal)
hard_of i None = i.lits ∷ []
hard_of i (Some w) = []

-- the clause where it is soft
abbrev pub soft_of : Item → Option ℕ → List Soft
soft_of i None = []
soft_of i (Some w) = record { weight = w; clause = i.lits } ∷ []

-- the instance of these clauses, each kind in its order
abbrev pub formula_of : Option Header → List Item → Formula
formula_of header items = record {
  vars = vars_of header items;
  hard = flat_map (λ i. hard_of i i.weight) items;
  soft = flat_map (λ i. soft_of i i.weight) items;
}

-- the words are a header or nothing, and clauses, which make up the instance
pub record WordsDenote (words : List Word) (f : Formula) : Type 0 where
  pub header : Option Header
  pub items : List Item
  pub heading : List Word
  pub rest : List Word
  pub whole : words ≡ heading ++ rest
  pub headed : IsHeading header heading
  pub behind : GoesBehind header rest
  pub clauses : AreClauses (top_of header) rest items
  pub are : f ≡ formula_of header items

-- the tokens outside comments denote the instance
abbrev pub Denotes : List ℕ → Formula → Type 0
Denotes text f = WordsDenote (tokens_of true text) f
