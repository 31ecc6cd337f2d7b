-- Which words are a command line.
use Rattle.std.specs.Prelude.{◌≡◌, ◌≢◌, ℕ, ◌&&◌, Bool, true, not, All, List, [], ◌∷◌, ◌++◌, map, Contains, Option, Some, None, codes, if◌then◌else◌}
use Rattle.std.specs.List.{list_any}
use Rattle.std.specs.Str.{bytes_eq}
use Rattle.mp_words.specs.declared.modes.Mode.{Mode}
use Rattle.mp_words.specs.Modes.{mode_word, options_of}

-- an option with its value
pub record Given : Type 0 where
  pub name : List ℕ
  pub value : List ℕ

-- what a word is
pub data Word : Type 0 where
  plain : List ℕ → Word
  option : Given → Word

-- an option is spelled `--NAME=VALUE`
abbrev pub option_text : List ℕ → List ℕ → List ℕ
option_text name value = codes "--" ++ (name ++ 61 ∷ value)

abbrev pub word_text : Word → List ℕ
word_text (plain text) = text
word_text (option given) = option_text given.name given.value

-- a plain word isn't empty and doesn't begin with `-`; an option is one of these names, and its value isn't empty
abbrev pub IsWord : List (List ℕ) → Word → Type 0
IsWord names (plain []) = ⊥
IsWord names (plain (byte ∷ bytes)) = byte ≢ 45
IsWord names (option given) = Contains names given.name × (given.value ≢ [])

abbrev pub plain_words : List Word → List (List ℕ)
plain_words [] = []
plain_words (plain text ∷ words) = text ∷ plain_words words
plain_words (option given ∷ words) = plain_words words

abbrev pub options_in : List Word → List Given
options_in [] = []
options_in (plain text ∷ words) = options_in words
options_in (option given ∷ words) = given ∷ options_in words

-- no text stands twice
abbrev pub no_twins : List (List ℕ) → Bool
no_twins [] = true
no_twins (text ∷ texts) = not (list_any (λ other. bytes_eq text other) texts) && no_twins texts

abbrev pub names_in : List Given → List (List ℕ)
names_in = map (λ given. given.name)

-- the words are the mode and its operand, in this order, and options of the mode anywhere, each at most once
pub record IsLine (mode : Mode) (words : List (List ℕ)) (operand : List ℕ) (options : List Given) : Type 0 where
  pub read : List Word
  pub spelled : words ≡ map word_text read
  pub are : All (IsWord (options_of mode)) read
  pub plain_are : plain_words read ≡ mode_word mode ∷ (operand ∷ [])
  pub options_are : options_in read ≡ options
  pub once : no_twins (names_in options) ≡ true

-- the value of an option, where it is given
abbrev pub value_of : List ℕ → List Given → Option (List ℕ)
value_of name [] = None
value_of name (given ∷ options) = if bytes_eq given.name name then Some given.value else value_of name options
