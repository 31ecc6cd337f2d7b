-- Texts of lines, lines of words, and the line of a byte.
use Rattle.std.specs.Prelude.{◌≡◌, ℕ, ◌+◌, ◌-◌, true, false, List, [], ◌∷◌, ◌++◌, codes, length, take}
use Rattle.std.specs.List.{AllByRecursion, count_by, flat_map, join_with_byte}
use Rattle.mp_text.specs.Tokens.{ends_line, is_blank, is_filled}

-- the words of a line, one space between two of them, and a line feed
abbrev pub line_text : List (List ℕ) → List ℕ
line_text words = join_with_byte 32 words ++ codes "\n"

-- lines, one after the other
abbrev pub text_of : List (List (List ℕ)) → List ℕ
text_of lines = flat_map line_text lines

-- some bytes, and none of them is blank
abbrev pub IsWord : List ℕ → Type 0
IsWord w = (is_filled w ≡ true) × AllByRecursion (λ b. is_blank b ≡ false) w

-- the line of the byte behind these, from 1
abbrev pub line_behind : List ℕ → ℕ
line_behind front = 1 + count_by ends_line front

-- the line of the last byte, and 1 where there is none
abbrev pub end_line : List ℕ → ℕ
end_line text = line_behind (take (length text - 1) text)
