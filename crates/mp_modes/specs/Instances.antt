-- What reading the text of an instance gives within the limits of the program, and why it is refused.
use Rattle.std.specs.Prelude.{ℕ, List}
use Rattle.mp_logic.specs.Formula.{Formula}
use Rattle.mp_wcnf.specs.Meaning.{Denotes}
use Rattle.mp_wcnf.specs.Refusals.{IsWithinLimits, IsRefused}
use Rattle.mp_wcnf.specs.declared.errors.ReadError.{ReadError}
use Rattle.mp_wcnf.specs.declared.errors.ReadError.TheVariants as errors
use Rattle.mp_modes.specs.Limits.{program_limits}
use Rattle.mp_modes.specs.declared.refusal.Exceeded.{Exceeded}
use Rattle.mp_modes.specs.declared.refusal.Exceeded.TheVariants as limits
use Rattle.mp_modes.specs.declared.refusal.TextRefusal.{TextRefusal}
use Rattle.mp_modes.specs.declared.refusal.TextRefusal.TheVariants as texts
use Rattle.mp_modes.specs.declared.refusal.Refusal.{Refusal}
use Rattle.mp_modes.specs.declared.refusal.Refusal.TheVariants as refusals

-- the text denotes an instance within the limits of what is read
pub record IsReadable (text : List ℕ) (f : Formula) : Type 0 where
  pub denotes : Denotes text f
  pub within : IsWithinLimits program_limits f

-- the text passes this limit while it is read
abbrev pub PassesReading : Exceeded → List ℕ → Type 0
PassesReading limits.Variables text = (line : ℕ) × IsRefused program_limits text (errors.TooManyVariables line)
PassesReading limits.Inner text = ⊥
PassesReading limits.Clauses text = IsRefused program_limits text errors.TooManyClauses
PassesReading limits.Literals text = IsRefused program_limits text errors.TooManyLiterals
PassesReading limits.Weight text = (line : ℕ) × IsRefused program_limits text (errors.TooHeavy line)

-- why the text of an instance can't be read
abbrev pub IsReadingFault : List ℕ → TextRefusal → Type 0
IsReadingFault text (texts.Instance line) = IsRefused program_limits text (errors.Syntax line)
IsReadingFault text (texts.Limit exceeded) = PassesReading exceeded text
IsReadingFault text _ = ⊥

-- memory was wanting, or this is why the text was refused
abbrev pub IsWantOr : (TextRefusal → Type 0) → Refusal → Type 0
IsWantOr Refuses refusals.NoMemory = Unit {0}
IsWantOr Refuses (refusals.Text refusal) = Refuses refusal
IsWantOr Refuses _ = ⊥

-- the refusal for an answer of the reader
abbrev pub refused_reading : ReadError → Refusal
refused_reading (errors.Syntax line) = refusals.Text (texts.Instance line)
refused_reading (errors.TooManyVariables line) = refusals.Text (texts.Limit limits.Variables)
refused_reading errors.TooManyClauses = refusals.Text (texts.Limit limits.Clauses)
refused_reading errors.TooManyLiterals = refusals.Text (texts.Limit limits.Literals)
refused_reading (errors.TooHeavy line) = refusals.Text (texts.Limit limits.Weight)
refused_reading errors.NoMemory = refusals.NoMemory
