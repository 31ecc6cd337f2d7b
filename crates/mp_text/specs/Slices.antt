-- What the tokens of a text are, said of the text's bytes.
use Rattle.std.specs.Prelude.{◌≡◌, ◌≤◌, ℕ, ◌+◌, Bool, List, [], ◌∷◌, length, take, drop}
use Rattle.std.specs.List.{AllByRecursion, count_by}
use Rattle.mp_text.specs.Tokens.{Word, ends_line, tokens_of}
use Rattle.mp_text.specs.Lines.{IsWord}

-- a slice of the text without blanks; its line is one more than the line feeds before it
pub record IsTokenOf (bytes : List ℕ) (w : Word) : Type 0 where
  pub word : IsWord w.text
  pub slice : take (length w.text) (drop w.start bytes) ≡ w.text
  pub line : w.line ≡ 1 + count_by ends_line (take w.start bytes)

-- each token begins behind the one before, the first at this place or behind it
abbrev pub AreInOrder : ℕ → List Word → Type 0
AreInOrder place [] = Unit {0}
AreInOrder place (w ∷ ws) = (place ≤ w.start) × AreInOrder (w.start + length w.text) ws

-- the law: the tokens of a text are slices of it, in order, each once
abbrev pub TokensAreSlices : Type 0
TokensAreSlices = (comments : Bool) (bytes : List ℕ) → AllByRecursion (IsTokenOf bytes) (tokens_of comments bytes) × AreInOrder 0 (tokens_of comments bytes)
