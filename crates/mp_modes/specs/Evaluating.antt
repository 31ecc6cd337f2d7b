-- What evaluating makes of the texts of an instance and of a solution.
use Rattle.std.specs.Prelude.{◌≡◌, ◌⊎◌, ◌+◌, ℕ, Bool, not, List, Option, Some, None, position}
use Rattle.std.specs.Option.{option_map}
use Rattle.mp_logic.specs.Formula.{Formula}
use Rattle.mp_logic.specs.Truth.{IsHardModel, clause_value, cost_of}
use Rattle.mp_map.specs.Solutions.{Reports, solution_fault, solution_text}
use Rattle.mp_map.specs.declared.solutions.Answer.TheVariants as answers
use Rattle.mp_map.specs.declared.solutions.Solution.{Solution}
use Rattle.mp_map.specs.declared.solutions.Values.TheVariants as forms
use Rattle.mp_text.specs.Lines.{end_line}
use Rattle.mp_modes.specs.Instances.{IsReadable}
use Rattle.mp_modes.specs.declared.refusal.TextRefusal.{TextRefusal}
use Rattle.mp_modes.specs.declared.refusal.TextRefusal.TheVariants as texts

-- the number, from 1, of the first hard clause that is false
abbrev pub first_false : Formula → List Bool → Option ℕ
first_false f a = option_map (λ place. place + 1) (position (λ c. not (clause_value a c)) f.hard)

-- why an assignment is refused: the hard clause of this number is the first that is false
abbrev pub IsFalseAt : Formula → List Bool → TextRefusal → Type 0
IsFalseAt f a (texts.NotModel clause) = first_false f a ≡ Some clause
IsFalseAt f a _ = ⊥

-- the text reports a solution for so many variables, with these values or with none
abbrev pub ReportsValues : List ℕ → ℕ → Option (List Bool) → Type 0
ReportsValues text vars values = (s : Solution) × Reports text vars s × (s.values ≡ values)

-- Why the text of a solution gives no values for so many variables: a line of it is at fault, or it tells none, which is said
-- at the line of its last byte.
abbrev pub IsValuesFault : ℕ → List ℕ → TextRefusal → Type 0
IsValuesFault vars text (texts.Solution line) = (solution_fault text vars ≡ Some line) ⊎ (ReportsValues text vars None × (line ≡ end_line text))
IsValuesFault vars text _ = ⊥

-- an `o` line with the cost, and `s SATISFIABLE`
abbrev pub evaluation_text : ℕ → List ℕ
evaluation_text cost = solution_text answers.Satisfiable None forms.Bits (Some cost)

-- The output is right for the texts of an instance and of a solution: the solution gives values for the variables of the
-- instance, they make each hard clause true, and the output tells what they cost.
pub record Evaluates (text solution out : List ℕ) : Type 0 where
  pub original : Formula
  pub values : List Bool
  pub readable : IsReadable text original
  pub reports : ReportsValues solution original.vars (Some values)
  pub model : IsHardModel original values
  pub out_is : out ≡ evaluation_text (cost_of original values)
