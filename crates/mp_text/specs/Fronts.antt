-- The rest of a text, as a cursor stands in it; only private functions and the view of a cursor speak of these.
use Rattle.std.specs.Prelude.{ℕ, Bool, List, [], ◌∷◌, ◌++◌, ◌+◌, ◌-◌, length, if◌then◌else◌}
use Rattle.std.specs.List.{slice_split}
use Rattle.mp_text.specs.Tokens.{Word, ends_line, is_blank, words_of, of_line, of_lines}

-- the tokens of the lines from n on; where the first of them has begun before, nothing leads there and no comment begins
abbrev pub left_of : Bool → ℕ → Bool → ℕ → List (List ℕ) → List Word
left_of comments n fresh start [] = []
left_of comments n fresh start (line ∷ lines) =
    (if fresh then of_line comments (words_of n start line) else words_of n start line) ++ of_lines comments (n + 1) (start + length line + 1) lines

-- the tokens of the last bytes of a text that ends at this place
abbrev pub tokens_left : Bool → ℕ → Bool → ℕ → List ℕ → List Word
tokens_left comments n fresh end bytes = left_of comments n fresh (end - length bytes) (slice_split ends_line bytes)

-- from the end of the first line on
abbrev pub from_line_end : List ℕ → List ℕ
from_line_end [] = []
from_line_end (b ∷ bs) = if ends_line b then b ∷ bs else from_line_end bs

-- up to the first blank
abbrev pub word_front : List ℕ → List ℕ
word_front [] = []
word_front (b ∷ bs) = if is_blank b then [] else b ∷ word_front bs

-- from the first blank on
abbrev pub word_rest : List ℕ → List ℕ
word_rest [] = []
word_rest (b ∷ bs) = if is_blank b then b ∷ bs else word_rest bs
