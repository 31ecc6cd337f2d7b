-- The output of a MaxSAT solver: what its text says, and the text that is written.
use Rattle.std.specs.Prelude.{◌≡◌, ℕ, zero, suc, ◌+◌, Bool, true, false, not, ◌&&◌, ◌||◌, List, [], ◌∷◌, ◌++◌, length, map, codes, drop, min, Option, Some, None, if◌then◌else◌, nat_eq, nat_lt}
use Rattle.std.specs.Bool.{beq}
use Rattle.std.specs.Fmt.{decimal}
use Rattle.std.specs.List.{flat_map, list_all, list_any}
use Rattle.std.specs.Str.{bytes_eq}
use Rattle.mp_logic.specs.Literal.{Literal}
use Rattle.mp_text.specs.Numbers.{literal_of}
use Rattle.mp_text.specs.Tokens.{begins_comment, tokens_of}
use Rattle.mp_text.specs.declared.numbers.LitToken.{LitToken}
use Rattle.mp_text.specs.declared.numbers.LitToken.TheVariants as kinds
use Rattle.mp_text.specs.Lines.{end_line}
use Rattle.mp_text.specs.Writing.{literal_word}
use Rattle.mp_map.specs.Pieces.{is_empty, pieces_at}
use Rattle.mp_map.specs.declared.solutions.Answer.{Answer}
use Rattle.mp_map.specs.declared.solutions.Answer.TheVariants as answers
use Rattle.mp_map.specs.declared.reporting.Demand.{Demand}
use Rattle.mp_map.specs.declared.reporting.Demand.TheVariants as demand
use Rattle.mp_map.specs.declared.reporting.LineKind.{LineKind}
use Rattle.mp_map.specs.declared.reporting.LineKind.TheVariants as said
use Rattle.mp_map.specs.declared.solutions.Solution.{Solution}
use Rattle.mp_map.specs.declared.solutions.SolutionError.{SolutionError}
use Rattle.mp_map.specs.declared.solutions.SolutionError.TheVariants as errors
use Rattle.mp_map.specs.declared.solutions.Values.{Values}
use Rattle.mp_map.specs.declared.solutions.Values.TheVariants as forms

-- the words of an answer
abbrev pub answer_text : Answer → List ℕ
answer_text answers.Optimum = codes "OPTIMUM FOUND"
answer_text answers.Satisfiable = codes "SATISFIABLE"
answer_text answers.Unsatisfiable = codes "UNSATISFIABLE"
answer_text answers.Unknown = codes "UNKNOWN"

-- one byte for each variable
abbrev pub bits_text : List Bool → List ℕ
bits_text values = map (λ value. if value then 49 else 48) values

-- the literals that are true, of the variables from this one on
abbrev pub literals_from : ℕ → List Bool → List Literal
literals_from variable [] = []
literals_from variable (value ∷ values) = record { variable = variable; negative = not value } ∷ literals_from (variable + 1) values

-- what stands behind the `v`
abbrev pub values_text : Values → List Bool → List ℕ
values_text forms.Bits values = if is_empty values then [] else 32 ∷ bits_text values
values_text forms.Literals values = flat_map (λ l. 32 ∷ literal_word l) (literals_from 1 values)

abbrev pub cost_line : Option ℕ → List ℕ
cost_line None = []
cost_line (Some cost) = codes "o " ++ decimal cost ++ 10 ∷ []

abbrev pub values_line : Values → Option (List Bool) → List ℕ
values_line form None = []
values_line form (Some values) = codes "v" ++ values_text form values ++ 10 ∷ []

-- the text of a solution
abbrev pub solution_text : Answer → Option (List Bool) → Values → Option ℕ → List ℕ
solution_text answer values form cost = cost_line cost ++ codes "s " ++ answer_text answer ++ 10 ∷ values_line form values

-- Reading. Lines are cut at line feeds, and words as the tokens of an instance are.
abbrev pub words_on : List ℕ → List (List ℕ)
words_on line = map (λ w. w.text) (tokens_of false line)

abbrev pub solution_lines : List ℕ → List (List (List ℕ))
solution_lines text = map words_on (pieces_at 10 text)

-- the answer of the words behind an `s`
abbrev pub status_of : List (List ℕ) → Option Answer
status_of [] = None
status_of (w ∷ []) =
    if bytes_eq w (codes "SATISFIABLE") then Some answers.Satisfiable
    else if bytes_eq w (codes "UNSATISFIABLE") then Some answers.Unsatisfiable
    else if bytes_eq w (codes "UNKNOWN") then Some answers.Unknown
    else None
status_of (w ∷ (v ∷ [])) = if bytes_eq w (codes "OPTIMUM") && bytes_eq v (codes "FOUND") then Some answers.Optimum else None
status_of (w ∷ (v ∷ (u ∷ ws))) = None

-- What a line says, by its first word. A line without words, a comment and an `o` line say nothing.
abbrev pub kind_of : List (List ℕ) → LineKind
kind_of [] = said.Ignored
kind_of (w ∷ ws) =
    if begins_comment w || bytes_eq w (codes "o") then said.Ignored
    else if bytes_eq w (codes "s") then said.Status (status_of ws)
    else if bytes_eq w (codes "v") then said.Values
    else said.Strange

abbrev pub is_status : LineKind → Bool
is_status (said.Status answer) = true
is_status _ = false

abbrev pub is_values : LineKind → Bool
is_values said.Values = true
is_values _ = false

abbrev pub first_status : LineKind → Option (Option Answer) → Option (Option Answer)
first_status (said.Status answer) rest = Some answer
first_status _ rest = rest

-- the first `s` line: whether there is one, and its answer
abbrev pub status_in : List (List (List ℕ)) → Option (Option Answer)
status_in [] = None
status_in (ws ∷ lines) = first_status (kind_of ws) (status_in lines)

-- the answer of a text: unknown without an `s` line, and where the first one is faulty
abbrev pub answer_from : Option (Option Answer) → Answer
answer_from None = answers.Unknown
answer_from (Some None) = answers.Unknown
answer_from (Some (Some answer)) = answer

-- a line that can't stand there; seen says that an `s` line came before
abbrev pub is_wrong : Bool → LineKind → Bool
is_wrong seen said.Ignored = false
is_wrong seen said.Values = false
is_wrong seen said.Strange = true
is_wrong seen (said.Status None) = true
is_wrong seen (said.Status (Some answer)) = seen

-- the first such line, the lines counted from n
abbrev pub first_wrong : ℕ → Bool → List (List (List ℕ)) → Option ℕ
first_wrong n seen [] = None
first_wrong n seen (ws ∷ lines) = if is_wrong seen (kind_of ws) then Some n else first_wrong (n + 1) (seen || is_status (kind_of ws)) lines

abbrev pub has_values : List (List (List ℕ)) → Bool
has_values lines = list_any (λ ws. is_values (kind_of ws)) lines

-- a word behind a `v`, and its line
pub record ValueWord : Type 0 where
  pub text : List ℕ
  pub line : ℕ

abbrev pub numbered : ℕ → List (List ℕ) → List ValueWord
numbered n ws = map (λ w. record { text = w; line = n }) ws

-- the words behind the `v` of a line
abbrev pub behind_v : List (List ℕ) → List (List ℕ)
behind_v ws = if is_values (kind_of ws) then drop 1 ws else []

-- those of all lines, counted from n
abbrev pub value_words : ℕ → List (List (List ℕ)) → List ValueWord
value_words n [] = []
value_words n (ws ∷ lines) = numbered n (behind_v ws) ++ value_words (n + 1) lines

-- the words are just one, with one byte `0` or `1` for each variable
abbrev pub is_bits : ℕ → List ℕ → Bool
is_bits written text = nat_eq (length text) written && list_all (λ b. nat_eq b 48 || nat_eq b 49) text

abbrev pub bits_in : ℕ → List ValueWord → Option (List Bool)
bits_in written [] = None
bits_in written (w ∷ []) = if is_bits written w.text then Some (map (λ b. nat_eq b 49) w.text) else None
bits_in written (w ∷ (v ∷ ws)) = None

abbrev pub is_literal : ℕ → Bool → Option LitToken → Bool
is_literal variable negative None = false
is_literal variable negative (Some kinds.Close) = false
is_literal variable negative (Some (kinds.Lit v n)) = nat_eq v variable && beq n negative

-- some word is this literal
abbrev pub mentions : List ValueWord → ℕ → Bool → Bool
mentions words variable negative = list_any (λ w. is_literal variable negative (literal_of w.text)) words

-- a word that can't stand behind these: no literal, or of a variable past the last, or one that came with the other sign
abbrev pub is_wrong_word : ℕ → List ValueWord → Option LitToken → Bool
is_wrong_word written before None = true
is_wrong_word written before (Some kinds.Close) = false
is_wrong_word written before (Some (kinds.Lit variable negative)) = nat_lt written variable || mentions before variable (not negative)

-- the line of the first such word
abbrev pub first_wrong_word : ℕ → List ValueWord → List ValueWord → Option ℕ
first_wrong_word written before [] = None
first_wrong_word written before (w ∷ ws) = if is_wrong_word written before (literal_of w.text) then Some w.line else first_wrong_word written (before ++ w ∷ []) ws

-- so many variables, from this one on
abbrev pub variables_from : ℕ → ℕ → List ℕ
variables_from variable zero = []
variables_from variable (suc n) = variable ∷ variables_from (variable + 1) n

-- a variable is true where it stands among the words
abbrev pub literals_in : ℕ → List ValueWord → List Bool
literals_in written words = map (λ variable. mentions words variable false) (variables_from 1 written)

abbrev pub values_from : Option (List Bool) → List Bool → List Bool
values_from None literals = literals
values_from (Some bits) literals = bits

-- Whether the values are told: never where the answer is that there is no model, and always but with `s UNKNOWN`, after
-- which a solver that found nothing tells none.
abbrev pub demand_of : Option (Option Answer) → Demand
demand_of (Some (Some answers.Unsatisfiable)) = demand.Barred
demand_of (Some (Some answers.Unknown)) = demand.Allowed
demand_of (Some (Some answers.Optimum)) = demand.Required
demand_of (Some (Some answers.Satisfiable)) = demand.Required
demand_of (Some None) = demand.Required
demand_of None = demand.Required

-- the values, where they are looked at and some `v` line is there
abbrev pub values_at : Demand → Bool → List Bool → Option (List Bool)
values_at demand.Barred some values = None
values_at demand.Allowed some values = if some then Some values else None
values_at demand.Required some values = if some then Some values else None

-- the fault of the values: that of a word, or that there are none though there must be
abbrev pub values_fault_at : Demand → Bool → Option ℕ → ℕ → Option ℕ
values_fault_at demand.Barred some fault end = None
values_fault_at demand.Allowed some fault end = if some then fault else None
values_fault_at demand.Required some fault end = if some then fault else Some end

-- no word is at fault where they are bits
abbrev pub words_fault : Option (List Bool) → Option ℕ → Option ℕ
words_fault None fault = fault
words_fault (Some bits) fault = None

-- the lower of two lines, where there are two
abbrev pub lower : Option ℕ → Option ℕ → Option ℕ
lower None b = b
lower (Some a) None = Some a
lower (Some a) (Some b) = Some (min a b)

abbrev pub values_fault : List ℕ → ℕ → Option ℕ
values_fault text written =
    let words : List ValueWord = value_words 1 (solution_lines text) in
    values_fault_at (demand_of (status_in (solution_lines text))) (has_values (solution_lines text)) (words_fault (bits_in written words) (first_wrong_word written [] words)) (end_line text)

abbrev pub values_told : List ℕ → ℕ → Option (List Bool)
values_told text written =
    let words : List ValueWord = value_words 1 (solution_lines text) in
    values_at (demand_of (status_in (solution_lines text))) (has_values (solution_lines text)) (values_from (bits_in written words) (literals_in written words))

-- the lowest line at fault
abbrev pub solution_fault : List ℕ → ℕ → Option ℕ
solution_fault text written = lower (first_wrong 1 false (solution_lines text)) (values_fault text written)

-- the text reports this solution, where no line is at fault
pub record Reports (text : List ℕ) (written : ℕ) (s : Solution) : Type 0 where
  pub sound : solution_fault text written ≡ None
  pub answer : s.answer ≡ answer_from (status_in (solution_lines text))
  pub values : s.values ≡ values_told text written

-- a text is refused only with the lowest line at fault
abbrev pub IsSolutionFault : Option ℕ → SolutionError → Type 0
IsSolutionFault fault (errors.BadSolution line) = fault ≡ Some line
IsSolutionFault fault errors.NoMemory = Unit {0}
