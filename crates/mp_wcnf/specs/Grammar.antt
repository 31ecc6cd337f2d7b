-- Which tokens a WCNF text is made of: a header or none, then clauses. No limits.
use Rattle.std.specs.Prelude.{◌≡◌, ℕ, true, false, ◌&&◌, List, [], ◌∷◌, ◌++◌, Option, Some, None, IsSome, if◌then◌else◌, nat_le, codes}
use Rattle.std.specs.Str.{bytes_eq}
use Rattle.mp_logic.specs.Literal.{Literal}
use Rattle.mp_text.specs.Tokens.{Word}
use Rattle.mp_text.specs.Numbers.{natural_of, at_most, greatest, literal_of}
use Rattle.mp_text.specs.declared.numbers.LitToken.TheVariants as kinds

-- what `p wcnf n m top` says: n, and the top; 0 where there is none. The number m of clauses isn't used
pub record Header : Type 0 where
  pub vars : ℕ
  pub top : ℕ

-- a clause of a text: hard where it has no weight
pub record Item : Type 0 where
  pub weight : Option ℕ
  pub lits : List Literal

-- a natural number of 128 bits
abbrev pub number_of : List ℕ → Option ℕ
number_of text = at_most greatest (natural_of text)

-- behind this top, where it is at least 1, a weight of at least the top is that of a hard clause
abbrev pub weighed : ℕ → Option ℕ → Option (Option ℕ)
weighed top None = None
weighed top (Some w) = if nat_le 1 top && nat_le top w then Some None else Some (Some w)

-- the weight that its first token gives a clause. Without a header a hard clause begins with `h`; behind one all begin with a number
abbrev pub head_of : Option ℕ → List ℕ → Option (Option ℕ)
head_of None text = if bytes_eq text (codes "h") then Some None else weighed 0 (number_of text)
head_of (Some top) text = weighed top (number_of text)

-- the words are these literals
abbrev pub AreLiterals : List Word → List Literal → Type 0
AreLiterals [] [] = Unit {0}
AreLiterals [] (l ∷ ls) = ⊥
AreLiterals (w ∷ ws) [] = ⊥
AreLiterals (w ∷ ws) (l ∷ ls) = (literal_of w.text ≡ Some (kinds.Lit l.variable l.negative)) × AreLiterals ws ls

-- the words are this clause without its closing 0
abbrev pub IsOpen : Option ℕ → List Word → Item → Type 0
IsOpen top [] i = ⊥
IsOpen top (w ∷ ws) i = (head_of top w.text ≡ Some i.weight) × AreLiterals ws i.lits

-- the words are this clause
abbrev pub IsClause : Option ℕ → List Word → Item → Type 0
IsClause top ws i = (front : List Word) × (close : Word) × (ws ≡ front ++ close ∷ []) × IsOpen top front i × (literal_of close.text ≡ Some kinds.Close)

-- the words are these clauses, one after the other
abbrev pub AreClauses : Option ℕ → List Word → List Item → Type 0
AreClauses top ws [] = ws ≡ []
AreClauses top ws (i ∷ is) = (front : List Word) × (rest : List Word) × (ws ≡ front ++ rest) × IsClause top front i × AreClauses top rest is

-- no word is the first of its line
abbrev pub NoneLeads : List Word → Type 0
NoneLeads [] = Unit {0}
NoneLeads (w ∷ ws) = (w.leads ≡ false) × NoneLeads ws

-- the words stand on one line, which has this number
abbrev pub IsLine : ℕ → List Word → Type 0
IsLine line [] = ⊥
IsLine line (w ∷ ws) = (w.line ≡ line) × NoneLeads ws

-- `p wcnf n`
abbrev pub IsSized : Word → Word → Word → ℕ → Type 0
IsSized p wcnf n vars = (p.text ≡ codes "p") × (wcnf.text ≡ codes "wcnf") × (number_of n.text ≡ Some vars)

-- `p wcnf n m`, or `p wcnf n m top`
abbrev pub IsHeader : List Word → Header → Type 0
IsHeader [] h = ⊥
IsHeader (p ∷ []) h = ⊥
IsHeader (p ∷ wcnf ∷ []) h = ⊥
IsHeader (p ∷ wcnf ∷ n ∷ []) h = ⊥
IsHeader (p ∷ wcnf ∷ n ∷ m ∷ []) h = IsSized p wcnf n h.vars × IsSome (number_of m.text) × (h.top ≡ 0)
IsHeader (p ∷ wcnf ∷ n ∷ m ∷ top ∷ []) h = IsSized p wcnf n h.vars × IsSome (number_of m.text) × (number_of top.text ≡ Some h.top)
IsHeader (p ∷ wcnf ∷ n ∷ m ∷ top ∷ more ∷ ws) h = ⊥

-- the words are a header that ends before its m; its n, or 0 where that hasn't come
abbrev pub IsHeaderPart : List Word → ℕ → Type 0
IsHeaderPart [] vars = ⊥
IsHeaderPart (p ∷ []) vars = (p.text ≡ codes "p") × (vars ≡ 0)
IsHeaderPart (p ∷ wcnf ∷ []) vars = (p.text ≡ codes "p") × (wcnf.text ≡ codes "wcnf") × (vars ≡ 0)
IsHeaderPart (p ∷ wcnf ∷ n ∷ []) vars = IsSized p wcnf n vars
IsHeaderPart (p ∷ wcnf ∷ n ∷ m ∷ ws) vars = ⊥

-- what stands before the clauses: a header on a line, or nothing
abbrev pub IsHeading : Option Header → List Word → Type 0
IsHeading None ws = ws ≡ []
IsHeading (Some h) ws = (line : ℕ) × IsLine line ws × IsHeader ws h

-- behind a header the clauses begin on a further line
abbrev pub GoesBehind : Option Header → List Word → Type 0
GoesBehind None ws = Unit {0}
GoesBehind (Some h) [] = Unit {0}
GoesBehind (Some h) (w ∷ ws) = w.leads ≡ true

-- a header gives a top, even where it is 0
abbrev pub top_of : Option Header → Option ℕ
top_of None = None
top_of (Some h) = Some h.top
