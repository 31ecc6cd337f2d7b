-- The text that is written of an instance.
use Rattle.std.specs.Prelude.{◌≡◌, ℕ, ◌+◌, List, [], ◌∷◌, ◌++◌, length, map, fold, codes, decimal}
use Rattle.std.specs.List.{flat_map}
use Rattle.mp_logic.specs.Literal.{Literal}
use Rattle.mp_logic.specs.Formula.{Formula}
use Rattle.mp_logic.specs.Truth.{weights_of}
use Rattle.mp_logic.specs.declared.instances.Soft.{Soft}
use Rattle.mp_text.specs.Lines.{text_of}
use Rattle.mp_text.specs.Writing.{literal_word, clause_words}
use Rattle.mp_wcnf.specs.Meaning.{widest}
use Rattle.mp_wcnf.specs.declared.writer.Form.{Form}
use Rattle.mp_wcnf.specs.declared.writer.Form.TheVariants as forms

-- what stands behind the first word of a clause's line
abbrev pub clause_rest : List Literal → List ℕ
clause_rest c = flat_map (λ l. codes " " ++ literal_word l) c ++ codes " 0\n"

-- the weight of hard clauses in the P form: one more than all soft clauses weigh
abbrev pub top_weight : Formula → ℕ
top_weight f = weights_of f.soft + 1

-- the first word of a hard clause
abbrev pub hard_mark : Form → ℕ → List ℕ
hard_mark forms.H top = codes "h"
hard_mark forms.P top = decimal top

-- a hard clause stands on a line behind its first word
abbrev pub hard_line : Form → ℕ → List Literal → List (List ℕ)
hard_line form top c = hard_mark form top ∷ clause_words c

-- a soft clause stands on a line behind its weight
abbrev pub soft_line : Soft → List (List ℕ)
soft_line s = decimal s.weight ∷ clause_words s.clause

-- the comment that says the offset
abbrev pub offset_line : ℕ → List (List ℕ)
offset_line offset = codes "c" ∷ codes "offset" ∷ decimal offset ∷ []

-- the line `p wcnf n m top` of the P form
abbrev pub header_lines : Form → ℕ → ℕ → ℕ → List (List (List ℕ))
header_lines forms.H vars clauses top = []
header_lines forms.P vars clauses top = (codes "p" ∷ codes "wcnf" ∷ decimal vars ∷ decimal clauses ∷ decimal top ∷ []) ∷ []

-- the lines are the offset's, the header's, those of the hard clauses and then those of the soft ones
abbrev pub instance_lines : Form → ℕ → Formula → List (List (List ℕ))
instance_lines form offset f = offset_line offset ∷ (
    header_lines form f.vars (length f.hard + length f.soft) (top_weight f)
    ++ map (hard_line form (top_weight f)) f.hard
    ++ map soft_line f.soft)

-- the text is these lines
abbrev pub instance_text : Form → ℕ → Formula → List ℕ
instance_text form offset f = text_of (instance_lines form offset f)

-- the greatest variable of the clauses, 0 where there is none
abbrev pub greatest_variable : Formula → ℕ
greatest_variable f = fold (λ m (s : Soft). widest m s.clause) (fold widest 0 f.hard) f.soft

-- no variable above the greatest one that is used: where there is no header, a text says nothing of others
abbrev pub IsTight : Formula → Type 0
IsTight f = f.vars ≡ greatest_variable f
