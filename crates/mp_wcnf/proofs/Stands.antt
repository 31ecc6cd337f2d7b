-- Where the words of a front lead, and what a reader holds there: for the proofs alone.
use Rattle.std.specs.Prelude.{◌≡◌, ℕ, true, false, List, [], ◌∷◌, ◌++◌, Option, Some, None, IsSome, Result, Ok, Err, if◌then◌else◌, codes}
use Rattle.std.specs.Str.{bytes_eq}
use Rattle.mp_logic.specs.Literal.{Literal}
use Rattle.mp_logic.specs.Formula.{Formula}
use Rattle.mp_logic.specs.Truth.{weights_of}
use Rattle.mp_logic.specs.declared.limits.Limits.{Limits}
use Rattle.mp_text.specs.Tokens.{Word}
use Rattle.mp_text.specs.Numbers.{literal_of}
use Rattle.mp_text.specs.declared.numbers.LitToken.{LitToken}
use Rattle.mp_text.specs.declared.numbers.LitToken.TheVariants as kinds
use Rattle.mp_wcnf.specs.Grammar.{Header, Item, number_of, head_of, IsSized, IsHeading, top_of}
use Rattle.mp_wcnf.specs.Meaning.{formula_of}
use Rattle.mp_wcnf.specs.Refusals.{Front, Heading, Clauses, BeginClauses, begun, with_part, clauses_in, literals_in, passed}
use Rattle.mp_wcnf.specs.Reading.{fresh_reader}
use Rattle.mp_wcnf.specs.declared.reader.Reader.{Reader}
use Rattle.mp_wcnf.specs.declared.reader.Place.{Place}
use Rattle.mp_wcnf.specs.declared.reader.Place.TheVariants as places
use Rattle.mp_wcnf.specs.declared.errors.ReadError.{ReadError}
use Rattle.mp_wcnf.specs.declared.errors.ReadError.TheVariants as errors

-- before all, inside a header, behind a whole one, or among clauses of which one has begun
pub data Stand : Type 0 where
  Start : Stand
  AtFormat : ℕ → Stand
  AtVariables : ℕ → Stand
  AtCount : ℕ → ℕ → Stand
  AtTop : ℕ → Stand
  AtLineEnd : ℕ → ℕ → Stand
  Among : Option Header → List Item → Option Item → Stand

abbrev pub with_top : ℕ → ℕ → Option Header
with_top n t = Some (record { vars = n; top = t })

abbrev pub front_of : Stand → Front
front_of Start = Clauses None [] None
front_of (AtFormat line) = Heading line 0
front_of (AtVariables line) = Heading line 0
front_of (AtCount line n) = Heading line n
front_of (AtTop n) = Clauses (with_top n 0) [] None
front_of (AtLineEnd n t) = Clauses (with_top n t) [] None
front_of (Among h items part) = Clauses h items part

abbrev pub after_head : Option Header → List Item → Option (Option ℕ) → Option Stand
after_head h items None = None
after_head h items (Some w) = Some (Among h items (Some (record { weight = w; lits = [] })))

abbrev pub after_literal : Option Header → List Item → Item → Option LitToken → Option Stand
after_literal h items i None = None
after_literal h items i (Some kinds.Close) = Some (Among h (items ++ i ∷ []) None)
after_literal h items i (Some (kinds.Lit v n)) = Some (Among h items (Some (record { weight = i.weight; lits = i.lits ++ record { variable = v; negative = n } ∷ [] })))

abbrev pub after_vars : ℕ → Option ℕ → Option Stand
after_vars line None = None
after_vars line (Some n) = Some (AtCount line n)

abbrev pub after_count : ℕ → Option ℕ → Option Stand
after_count n None = None
after_count n (Some m) = Some (AtTop n)

abbrev pub after_top : ℕ → Option ℕ → Option Stand
after_top n None = None
after_top n (Some t) = Some (AtLineEnd n t)

abbrev pub next_in : Stand → Word → Option Stand
next_in Start w = if bytes_eq w.text (codes "p") then Some (AtFormat w.line) else after_head None [] (head_of None w.text)
next_in (AtFormat line) w = if w.leads then None else if bytes_eq w.text (codes "wcnf") then Some (AtVariables line) else None
next_in (AtVariables line) w = if w.leads then None else after_vars line (number_of w.text)
next_in (AtCount line n) w = if w.leads then None else after_count n (number_of w.text)
next_in (AtTop n) w = if w.leads then after_head (with_top n 0) [] (head_of (Some 0) w.text) else after_top n (number_of w.text)
next_in (AtLineEnd n t) w = if w.leads then after_head (with_top n t) [] (head_of (Some t) w.text) else None
next_in (Among h items None) w = after_head h items (head_of (top_of h) w.text)
next_in (Among h items (Some i)) w = after_literal h items i (literal_of w.text)

abbrev pub and_run : Option Stand → (Stand → Option Stand) → Option Stand
and_run None f = None
and_run (Some s) f = f s

abbrev pub run : List Word → Stand → Option Stand
run [] s = Some s
run (w ∷ ws) s = and_run (next_in s w) (λ t. run ws t)

-- a clause has begun behind the header
abbrev pub StartsLine : Option Header → List Word → Type 0
StartsLine None ws = Unit {0}
StartsLine (Some h) [] = ⊥
StartsLine (Some h) (w ∷ ws) = w.leads ≡ true

-- the words lead there
abbrev pub Stands : List Word → Stand → Type 0
Stands ws Start = ws ≡ []
Stands ws (AtFormat line) = (p : Word) × (ws ≡ p ∷ []) × (p.line ≡ line) × (p.text ≡ codes "p")
Stands ws (AtVariables line) = (p : Word) × (wcnf : Word) × (ws ≡ p ∷ wcnf ∷ []) × (p.line ≡ line) × (wcnf.leads ≡ false) × (p.text ≡ codes "p") × (wcnf.text ≡ codes "wcnf")
Stands ws (AtCount line n) = (p : Word) × (wcnf : Word) × (size : Word) × (ws ≡ p ∷ wcnf ∷ size ∷ []) × (p.line ≡ line) × (wcnf.leads ≡ false) × (size.leads ≡ false) × IsSized p wcnf size n
Stands ws (AtTop n) = (p : Word) × (wcnf : Word) × (size : Word) × (count : Word) × (ws ≡ p ∷ wcnf ∷ size ∷ count ∷ [])
    × (wcnf.leads ≡ false) × (size.leads ≡ false) × (count.leads ≡ false) × IsSized p wcnf size n × IsSome (number_of count.text)
Stands ws (AtLineEnd n t) = (p : Word) × (wcnf : Word) × (size : Word) × (count : Word) × (top : Word) × (ws ≡ p ∷ wcnf ∷ size ∷ count ∷ top ∷ [])
    × (wcnf.leads ≡ false) × (size.leads ≡ false) × (count.leads ≡ false) × (top.leads ≡ false) × IsSized p wcnf size n × IsSome (number_of count.text) × (number_of top.text ≡ Some t)
Stands ws (Among h items part) = (heading : List Word) × (rest : List Word) × (ws ≡ heading ++ rest) × IsHeading h heading × StartsLine h rest × BeginClauses (top_of h) rest items part

abbrev pub GoesOn : List Word → Option Stand → Type 0
GoesOn ws None = Unit {0}
GoesOn ws (Some s) = Stands ws s

abbrev pub place_in : Option ℕ → Place
place_in None = places.Hard
place_in (Some w) = places.Soft w

abbrev pub place_of : Option Item → Place
place_of None = places.Between
place_of (Some i) = place_in i.weight

abbrev pub lits_of : Option Item → List Literal
lits_of None = []
lits_of (Some i) = i.lits

-- what a reader holds that stands at this place among clauses
abbrev pub held_at : Option Header → List Item → Option Item → Place → Reader
held_at h items part place =
    let whole : Formula = formula_of h items in
    let f : Formula = formula_of h (with_part items part) in
    record {
      hard = whole.hard;
      soft = whole.soft;
      lits = lits_of part;
      vars = f.vars;
      clauses = clauses_in f;
      literals = literals_in f;
      weight = weights_of f.soft;
      top = top_of h;
      place = place;
    }

abbrev pub held : Stand → Reader
held Start = fresh_reader
held (AtFormat line) = record fresh_reader { place = places.Format line }
held (AtVariables line) = record fresh_reader { place = places.Variables line }
held (AtCount line n) = record fresh_reader { vars = n; place = places.Count line }
held (AtTop n) = record fresh_reader { vars = n; top = Some 0; place = places.Top }
held (AtLineEnd n t) = record fresh_reader { vars = n; top = Some t; place = places.LineEnd }
held (Among h items part) = held_at h items part (place_of part)

abbrev pub limited : Option ReadError → Reader → Result Reader ReadError
limited None r = Ok r
limited (Some e) r = Err e

-- what is said of the next word: its line, and the line at fault where it can't stand there
abbrev pub judged : Limits → ℕ → ℕ → Option Stand → Result Reader ReadError
judged limits line fault None = Err (errors.Syntax fault)
judged limits line fault (Some s) = limited (passed limits (begun (front_of s)) line) (held s)
