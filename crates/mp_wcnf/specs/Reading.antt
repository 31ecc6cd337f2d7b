-- What one token does to a reader, and what all tokens do: only private functions speak of these.
use Rattle.std.specs.Prelude.{◌≡◌, ℕ, List, [], ◌∷◌, ◌++◌, ◌+◌, Option, Some, None, Result, Ok, Err, if◌then◌else◌, nat_le, nat_lt, codes}
use Rattle.std.specs.Str.{bytes_eq}
use Rattle.mp_logic.specs.declared.limits.Limits.{Limits}
use Rattle.mp_text.specs.Tokens.{Word}
use Rattle.mp_text.specs.Numbers.{literal_of}
use Rattle.mp_text.specs.declared.numbers.LitToken.{LitToken}
use Rattle.mp_text.specs.declared.numbers.LitToken.TheVariants as kinds
use Rattle.mp_wcnf.specs.Grammar.{number_of, head_of}
use Rattle.mp_wcnf.specs.Meaning.{max_of}
use Rattle.mp_text.specs.declared.cursor.Token.{Token}
use Rattle.mp_wcnf.specs.declared.reader.Reader.{Reader}
use Rattle.mp_wcnf.specs.declared.reader.Place.{Place}
use Rattle.mp_wcnf.specs.declared.reader.Place.TheVariants as places
use Rattle.mp_wcnf.specs.declared.errors.ReadError.{ReadError}
use Rattle.mp_wcnf.specs.declared.errors.ReadError.TheVariants as errors

-- what contracts see of a token
abbrev pub word_of : Token → Word
word_of t = record { text = t.text.now; start = t.start; line = t.line; leads = t.leads }

-- a clause begins with this weight, or is hard
abbrev pub headed : Limits → Reader → ℕ → Option (Option ℕ) → Result Reader ReadError
headed limits r line None = Err (errors.Syntax line)
headed limits r line (Some None) = if nat_le limits.clauses r.clauses then Err errors.TooManyClauses else Ok (record r { clauses = r.clauses + 1; place = places.Hard })
headed limits r line (Some (Some w)) = if nat_le limits.clauses r.clauses then Err errors.TooManyClauses
    else if nat_lt limits.weight (r.weight + w) then Err (errors.TooHeavy line)
    else Ok (record r { clauses = r.clauses + 1; weight = r.weight + w; place = places.Soft w })

-- a clause that begins with this word
abbrev pub started : Limits → Reader → Word → Result Reader ReadError
started limits r word = headed limits r word.line (head_of r.top word.text)

-- `wcnf` of the header on this line
abbrev pub formatted : Reader → ℕ → Word → Result Reader ReadError
formatted r line word = if word.leads then Err (errors.Syntax line)
    else if bytes_eq word.text (codes "wcnf") then Ok (record r { place = places.Variables line }) else Err (errors.Syntax line)

-- `n` of the header on this line
abbrev pub with_vars : Limits → Reader → ℕ → ℕ → Option ℕ → Result Reader ReadError
with_vars limits r line here None = Err (errors.Syntax line)
with_vars limits r line here (Some n) = if nat_lt limits.variables n then Err (errors.TooManyVariables here) else Ok (record r { vars = n; place = places.Count line })

abbrev pub sized : Limits → Reader → ℕ → Word → Result Reader ReadError
sized limits r line word = if word.leads then Err (errors.Syntax line) else with_vars limits r line word.line (number_of word.text)

-- `m` of the header on this line
abbrev pub with_count : Reader → ℕ → Option ℕ → Result Reader ReadError
with_count r line None = Err (errors.Syntax line)
with_count r line (Some m) = Ok (record r { top = Some 0; place = places.Top })

abbrev pub counted : Reader → ℕ → Word → Result Reader ReadError
counted r line word = if word.leads then Err (errors.Syntax line) else with_count r line (number_of word.text)

-- `top` of the header
abbrev pub with_top : Reader → ℕ → Option ℕ → Result Reader ReadError
with_top r here None = Err (errors.Syntax here)
with_top r here (Some t) = Ok (record r { top = Some t; place = places.LineEnd })

-- the clause that is open goes to the others of its kind
abbrev pub closed : Reader → Place → Reader
closed r places.Hard = record r { hard = r.hard ++ r.lits ∷ []; lits = []; place = places.Between }
closed r (places.Soft w) = record r { soft = r.soft ++ record { weight = w; clause = r.lits } ∷ []; lits = []; place = places.Between }
closed r place = r

-- a literal of the open clause, or its closing 0
abbrev pub continued : Limits → Reader → ℕ → Option LitToken → Result Reader ReadError
continued limits r line None = Err (errors.Syntax line)
continued limits r line (Some kinds.Close) = Ok (closed r r.place)
continued limits r line (Some (kinds.Lit v n)) = if nat_lt limits.variables v then Err (errors.TooManyVariables line)
    else if nat_le limits.literals r.literals then Err errors.TooManyLiterals
    else Ok (record r { lits = r.lits ++ record { variable = v; negative = n } ∷ []; literals = r.literals + 1; vars = max_of r.vars v })

-- one token
abbrev pub step : Limits → Reader → Place → Word → Result Reader ReadError
step limits r places.Start word = if bytes_eq word.text (codes "p") then Ok (record r { place = places.Format word.line }) else started limits r word
step limits r (places.Format line) word = formatted r line word
step limits r (places.Variables line) word = sized limits r line word
step limits r (places.Count line) word = counted r line word
step limits r places.Top word = if word.leads then started limits r word else with_top r word.line (number_of word.text)
step limits r places.LineEnd word = if word.leads then started limits r word else Err (errors.Syntax word.line)
step limits r places.Between word = started limits r word
step limits r places.Hard word = continued limits r word.line (literal_of word.text)
step limits r (places.Soft w) word = continued limits r word.line (literal_of word.text)

abbrev pub then_read : {A B : Type 0} → Result A ReadError → (A → Result B ReadError) → Result B ReadError
then_read (Ok x) f = f x
then_read (Err e) f = Err e

-- the end of the text, where the last byte is on this line
abbrev pub at_end : ℕ → Reader → Place → Result Reader ReadError
at_end end r (places.Format line) = Err (errors.Syntax line)
at_end end r (places.Variables line) = Err (errors.Syntax line)
at_end end r (places.Count line) = Err (errors.Syntax line)
at_end end r places.Hard = Err (errors.Syntax end)
at_end end r (places.Soft w) = Err (errors.Syntax end)
at_end end r place = Ok r

-- what comes of a reader and the tokens that are left
abbrev pub read_on : Limits → ℕ → List Word → Reader → Result Reader ReadError
read_on limits end [] r = at_end end r r.place
read_on limits end (word ∷ words) r = then_read (step limits r r.place word) (λ s. read_on limits end words s)

abbrev pub fresh_reader : Reader
fresh_reader = record { hard = []; soft = []; lits = []; vars = 0; clauses = 0; literals = 0; weight = 0; top = None; place = places.Start }

-- it fails so, or memory was refused
abbrev pub Fails : {A : Type 0} → ReadError → Result A ReadError → Type 0
Fails errors.NoMemory read = Unit {0}
Fails e read = read ≡ Err e

-- what was answered is what reading gives, or memory was refused
abbrev pub Gives : Result Reader ReadError → Result Reader ReadError → Type 0
Gives (Ok r) read = read ≡ Ok r
Gives (Err e) read = Fails e read
