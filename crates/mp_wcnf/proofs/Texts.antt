-- Texts of lines.
use Rattle.std.proofs.Common.{◌≡◌, ℕ, List, [], ◌∷◌, ◌++◌, codes, ap, ap₂, sym, ◌∙◌, append_assoc}
use Rattle.std.specs.List.{flat_map, join_with_byte}
use Rattle.mp_logic.specs.Literal.{Literal}
use Rattle.mp_text.specs.Lines.{line_text, text_of}
use Rattle.mp_text.specs.Writing.{literal_word, clause_words}
use Rattle.mp_text.proofs.Lines.{text_of-append}
use Rattle.mp_wcnf.specs.Writing.{clause_rest}

-- the line of a clause behind its first word
pub clause_line : (mark : List ℕ) (c : List Literal) → line_text (mark ∷ clause_words c) ≡ mark ++ clause_rest c
clause_line mark [] = append_assoc mark (codes " 0") (codes "\n")
clause_line mark (l ∷ c) =
    append_assoc mark (32 ∷ join_with_byte 32 (literal_word l ∷ clause_words c)) (codes "\n")
    ∙ ap (λ v. mark ++ 32 ∷ v) (clause_line (literal_word l) c ∙ sym (append_assoc (literal_word l) (flat_map (λ l. codes " " ++ literal_word l) c) (codes " 0\n")))

-- a clause's line that was written in two parts
pub line_done : (old mark mid now : List ℕ) (c written : List Literal) → mid ≡ old ++ mark → written ≡ c → now ≡ mid ++ clause_rest written → now ≡ old ++ line_text (mark ∷ clause_words c)
line_done old mark mid now c written first same second =
    second ∙ ap₂ (λ v d. v ++ clause_rest d) first same ∙ append_assoc old mark (clause_rest c) ∙ ap (λ v. old ++ v) (sym (clause_line mark c))

-- parts that were written one after the other
pub four_parts : (first : List (List ℕ)) (a b c : List (List (List ℕ))) (t u v w : List ℕ)
    → t ≡ [] ++ line_text first → u ≡ t ++ text_of a → v ≡ u ++ text_of b → w ≡ v ++ text_of c → w ≡ text_of (first ∷ (a ++ b ++ c))
four_parts first a b c t u v w ht hu hv hw =
    hw ∙ ap (λ x. x ++ text_of c) (hv ∙ ap (λ x. x ++ text_of b) (hu ∙ ap (λ x. x ++ text_of a) ht))
    ∙ ap (λ x. x ++ text_of c) (append_assoc (line_text first) (text_of a) (text_of b))
    ∙ append_assoc (line_text first) (text_of a ++ text_of b) (text_of c)
    ∙ ap (λ x. line_text first ++ x) (ap (λ x. x ++ text_of c) (sym (text_of-append a b)) ∙ sym (text_of-append (a ++ b) c))
