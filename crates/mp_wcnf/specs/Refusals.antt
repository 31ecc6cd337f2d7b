-- Which limits an instance keeps within, and which token of a text is refused.
use Rattle.std.specs.Prelude.{◌≡◌, ◌≤◌, ◌⊎◌, ℕ, ◌+◌, true, List, [], ◌∷◌, ◌++◌, Option, Some, None, if◌then◌else◌, nat_lt, length, sum_by}
use Rattle.mp_logic.specs.Literal.{Literal}
use Rattle.mp_logic.specs.Formula.{Formula}
use Rattle.mp_logic.specs.Truth.{weights_of}
use Rattle.mp_logic.specs.declared.instances.Soft.{Soft}
use Rattle.mp_logic.specs.declared.limits.Limits.{Limits}
use Rattle.mp_text.specs.Lines.{end_line}
use Rattle.mp_text.specs.Tokens.{Word, tokens_of}
use Rattle.mp_wcnf.specs.Grammar.{Header, Item, AreClauses, IsOpen, IsLine, IsHeaderPart, IsHeading, GoesBehind, top_of}
use Rattle.mp_wcnf.specs.Meaning.{formula_of, Denotes}
use Rattle.mp_wcnf.specs.declared.errors.ReadError.{ReadError}
use Rattle.mp_wcnf.specs.declared.errors.ReadError.TheVariants as errors

-- the hard and the soft clauses
abbrev pub clauses_in : Formula → ℕ
clauses_in f = length f.hard + length f.soft

-- the literals of all clauses, repeats included
abbrev pub literals_in : Formula → ℕ
literals_in f = sum_by (λ (c : List Literal). length c) f.hard + sum_by (λ (s : Soft). length s.clause) f.soft

-- the instance passes no limit
pub record IsWithinLimits (limits : Limits) (f : Formula) : Type 0 where
  pub clauses : clauses_in f ≤ limits.clauses
  pub weight : weights_of f.soft ≤ limits.weight
  pub vars : f.vars ≤ limits.variables
  pub literals : literals_in f ≤ limits.literals

-- the first limit that the instance passes
abbrev pub passed : Limits → Formula → ℕ → Option ReadError
passed limits f line =
    if nat_lt limits.clauses (clauses_in f) then Some errors.TooManyClauses
    else if nat_lt limits.weight (weights_of f.soft) then Some (errors.TooHeavy line)
    else if nat_lt limits.variables f.vars then Some (errors.TooManyVariables line)
    else if nat_lt limits.literals (literals_in f) then Some errors.TooManyLiterals
    else None

-- how far the front of an accepted text goes: into a header on this line with this n, or behind a header or none to these clauses and less than a further one
pub data Front : Type 0 where
  Heading : ℕ → ℕ → Front
  Clauses : Option Header → List Item → Option Item → Front

-- the words are less than a clause
abbrev pub IsPart : Option ℕ → List Word → Option Item → Type 0
IsPart top ws None = ws ≡ []
IsPart top ws (Some i) = IsOpen top ws i

-- the words are clauses and then less than one
abbrev pub BeginClauses : Option ℕ → List Word → List Item → Option Item → Type 0
BeginClauses top ws items part = (front : List Word) × (rest : List Word) × (ws ≡ front ++ rest) × AreClauses top front items × IsPart top rest part

-- the words are the front of an accepted text and go so far
abbrev pub Begins : List Word → Front → Type 0
Begins ws (Heading line vars) = IsLine line ws × IsHeaderPart ws vars
Begins ws (Clauses header items part) =
    (heading : List Word) × (rest : List Word) × (ws ≡ heading ++ rest) × IsHeading header heading × GoesBehind header rest × BeginClauses (top_of header) rest items part

-- no accepted text begins with these words
abbrev pub BeginsNone : List Word → Type 0
BeginsNone ws = (front : Front) → Begins ws front → ⊥

-- the clauses that have begun
abbrev pub with_part : List Item → Option Item → List Item
with_part items None = items
with_part items (Some i) = items ++ i ∷ []

-- the instance so far, the clause that has only begun included
abbrev pub begun : Front → Formula
begun (Heading line vars) = record { vars = vars; hard = []; soft = [] }
begun (Clauses header items part) = formula_of header (with_part items part)

-- the line at fault where the next word can't stand: a header's fault is that of its line
abbrev pub line_at : Front → Word → ℕ
line_at (Heading line vars) word = line
line_at (Clauses header items part) word = word.line

-- what is wrong with a text that ends so; nothing where it is whole
abbrev pub unfinished : ℕ → Front → Option ReadError
unfinished end (Heading line vars) = Some (errors.Syntax line)
unfinished end (Clauses header items None) = None
unfinished end (Clauses header items (Some i)) = Some (errors.Syntax end)

-- what is wrong with the next word: it can't stand there, or it passes a limit
abbrev pub IsFault : Limits → List Word → Front → Word → ReadError → Type 0
IsFault limits before front word e =
    (BeginsNone (before ++ word ∷ []) × (e ≡ errors.Syntax (line_at front word)))
    ⊎ ((next : Front) × Begins (before ++ word ∷ []) next × (passed limits (begun next) word.line ≡ Some e))

-- the words before are the front of an accepted text and pass no limit; the next one is at fault, or the text ends there and isn't whole
pub record AreRefused (limits : Limits) (end : ℕ) (words : List Word) (e : ReadError) : Type 0 where
  pub before : List Word
  pub front : Front
  pub begins : Begins before front
  pub within : IsWithinLimits limits (begun front)
  pub fault : ((words ≡ before) × (unfinished end front ≡ Some e))
      ⊎ ((word : Word) × (after : List Word) × (words ≡ before ++ word ∷ after) × IsFault limits before front word e)

-- the text is refused so, by the first of its tokens that is at fault
abbrev pub IsRefused : Limits → List ℕ → ReadError → Type 0
IsRefused limits text e = AreRefused limits (end_line text) (tokens_of true text) e

-- a text denotes one instance at most; it is either within the limits or refused, and in one way
pub record HasOneMeaning (limits : Limits) (text : List ℕ) : Type 0 where
  pub one_instance : (f g : Formula) → Denotes text f → Denotes text g → f ≡ g
  pub not_both : (f : Formula) (e : ReadError) → Denotes text f → IsWithinLimits limits f → IsRefused limits text e → ⊥
  pub one_refusal : (d e : ReadError) → IsRefused limits text d → IsRefused limits text e → d ≡ e
  pub one_of_them : ((f : Formula) × Denotes text f × IsWithinLimits limits f) ⊎ ((e : ReadError) × IsRefused limits text e)

-- the law, for all limits and texts
abbrev pub OneMeaning : Type 0
OneMeaning = (limits : Limits) (text : List ℕ) → HasOneMeaning limits text
