-- The tokens of a text: its lines, their words, and which lines are comments.
use Rattle.std.specs.Prelude.{ℕ, Bool, true, false, List, [], ◌∷◌, ◌++◌, ◌+◌, ◌||◌, ◌&&◌, if◌then◌else◌, length, nat_eq}
use Rattle.std.specs.List.{slice_split}

-- a word of a text: its bytes, the place of the first of them from 0, its line from 1, and whether it is the first of its line
pub record Word : Type 0 where
  pub text : List ℕ
  pub start : ℕ
  pub line : ℕ
  pub leads : Bool

-- a line feed ends a line
abbrev pub ends_line : ℕ → Bool
ends_line b = nat_eq b 10

-- space, tab, carriage return and line feed separate words
abbrev pub is_blank : ℕ → Bool
is_blank b = nat_eq b 32 || nat_eq b 9 || nat_eq b 13 || nat_eq b 10

-- some byte is there
abbrev pub is_filled : List ℕ → Bool
is_filled [] = false
is_filled (b ∷ bs) = true

-- the filled ones of the pieces between blanks, where the first piece is at this place of line n
abbrev pub placed : ℕ → ℕ → List (List ℕ) → List Word
placed n start [] = []
placed n start (piece ∷ pieces) =
    if is_filled piece then record { text = piece; start = start; line = n; leads = false } ∷ placed n (start + length piece + 1) pieces
    else placed n (start + length piece + 1) pieces

-- the words of line n, which begins at this place
abbrev pub words_of : ℕ → ℕ → List ℕ → List Word
words_of n start bytes = placed n start (slice_split is_blank bytes)

-- a comment begins with a `c`
abbrev pub begins_comment : List ℕ → Bool
begins_comment [] = false
begins_comment (b ∷ bs) = nat_eq b 99

-- the tokens of a line with these words: none where it is a comment
abbrev pub of_line : Bool → List Word → List Word
of_line comments [] = []
of_line comments (word ∷ words) = if comments && begins_comment word.text then [] else record word { leads = true } ∷ words

-- the tokens of the lines from n on, which begin at this place
abbrev pub of_lines : Bool → ℕ → ℕ → List (List ℕ) → List Word
of_lines comments n start [] = []
of_lines comments n start (line ∷ lines) = of_line comments (words_of n start line) ++ of_lines comments (n + 1) (start + length line + 1) lines

-- the tokens of a text, with comments or with none
abbrev pub tokens_of : Bool → List ℕ → List Word
tokens_of comments bytes = of_lines comments 1 0 (slice_split ends_line bytes)
