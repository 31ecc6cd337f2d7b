-- What private functions make of the words of values, one at a time; the laws of proofs/Marked say what comes of it.
use Rattle.std.specs.Prelude.{◌≡◌, ℕ, ◌-◌, Bool, true, false, ◌||◌, List, [], ◌∷◌, length, replicate, slice_set, Option, Some, None, Result, Ok, Err, if◌then◌else◌, nat_lt}
use Rattle.std.specs.List.{slice_index_or}
use Rattle.std.specs.Option.{option_map}
use Rattle.mp_text.specs.Numbers.{literal_of}
use Rattle.mp_text.specs.declared.numbers.LitToken.{LitToken}
use Rattle.mp_text.specs.declared.numbers.LitToken.TheVariants as kinds
use Rattle.mp_map.specs.Solutions.{IsSolutionFault, ValueWord}
use Rattle.mp_map.specs.declared.solutions.SolutionError.{SolutionError}

-- the variables that came as they are, and those that came negated
pub record Marks : Type 0 where
  pub positive : List Bool
  pub negative : List Bool

abbrev pub no_marks : ℕ → Marks
no_marks written = record { positive = replicate written false; negative = replicate written false }

-- a variable marked here, unless it is past the last or marked there
abbrev pub marked_apart : List Bool → List Bool → ℕ → Option (List Bool)
marked_apart own other variable =
    if nat_lt (length own) variable || slice_index_or other (variable - 1) false then None else Some (slice_set own (variable - 1) true)

abbrev pub marked : Marks → Option LitToken → Option Marks
marked m None = None
marked m (Some kinds.Close) = Some m
marked m (Some (kinds.Lit variable true)) = option_map (λ own. record { positive = m.positive; negative = own }) (marked_apart m.negative m.positive variable)
marked m (Some (kinds.Lit variable false)) = option_map (λ own. record { positive = own; negative = m.negative }) (marked_apart m.positive m.negative variable)

abbrev pub mark_with : Option Marks → ℕ → (Marks → Result Marks ℕ) → Result Marks ℕ
mark_with None n go = Err n
mark_with (Some m) n go = go m

-- the marks of all words, or the line of the first that can't stand there
abbrev pub mark_words : Marks → List ValueWord → Result Marks ℕ
mark_words m [] = Ok m
mark_words m (w ∷ ws) = mark_with (marked m (literal_of w.text)) w.line (λ n. mark_words n ws)

-- the values, where no line is at fault, or the line that is
abbrev pub AnswersValues : {X : Type 0} → Option ℕ → X → Result X SolutionError → Type 0
AnswersValues fault values (Ok found) = (fault ≡ None) × (found ≡ values)
AnswersValues fault values (Err e) = IsSolutionFault fault e
