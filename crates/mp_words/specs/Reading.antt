-- Inside the crate: how far the words have been read.
use Rattle.std.specs.Prelude.{◌≡◌, ◌≢◌, ◌++◌, ℕ, Bool, true, false, List, [], ◌∷◌, map, Contains, All, Some, codes}
use Rattle.std.specs.Borrow.{Bor}
use Rattle.mp_words.specs.declared.modes.Mode.{Mode}
use Rattle.clap.specs.Matches.{first_value}
use Rattle.clap.specs.declared.parser.matches.Found.{Found}
use Rattle.mp_words.specs.Modes.{all_options, mode_word}
use Rattle.mp_words.specs.CommandLines.{Given, Word, word_text, option_text, IsWord, plain_words, options_in, names_in, IsLine, value_of}

abbrev pub texts : List (Bor (List ℕ)) → List (List ℕ)
texts = map (λ s. s.now)

-- the word is the option with some value
abbrev pub HasValue : List ℕ → List ℕ → Type 0
HasValue word name = (value : List ℕ) × (value ≢ []) × (word ≡ option_text name value)

-- the word is an option of these names
abbrev pub IsOption : List (List ℕ) → List ℕ → List ℕ → Type 0
IsOption names word name = Contains names name × HasValue word name

-- the word isn't empty and doesn't begin with `-`
abbrev pub IsPlain : List ℕ → Type 0
IsPlain [] = ⊥
IsPlain (byte ∷ bytes) = byte ≢ 45

-- the words are these plain words and options of these names, each kind in its order
pub record AreRead (names words plain_are names_are : List (List ℕ)) : Type 0 where
  pub read : List Word
  pub spelled : words ≡ map word_text read
  pub right : All (IsWord names) read
  pub plain_words_are : plain_words read ≡ plain_are
  pub options_are : names_in (options_in read) ≡ names_are

-- the word is one more plain word or name, or it is neither
abbrev pub Takes : List (List ℕ) → List ℕ → List (List ℕ) → List (List ℕ) → List (List ℕ) → List (List ℕ) → Bool → Type 0
Takes names word plain_before names_before plain_after names_after false = (w : Word) → IsWord names w → word ≡ word_text w → ⊥
Takes names word plain_before names_before plain_after names_after true =
    (w : Word) × IsWord names w × (word ≡ word_text w) × (plain_after ≡ plain_before ++ plain_words (w ∷ [])) × (names_after ≡ names_before ++ names_in (options_in (w ∷ [])))

-- the plain words are the mode and an operand
abbrev pub AreModeAndOperand : Mode → List (List ℕ) → Type 0
AreModeAndOperand mode plain = (operand : List ℕ) × (plain ≡ mode_word mode ∷ (operand ∷ []))

-- the words are a line of the mode
abbrev pub HasLine : Mode → List (List ℕ) → Type 0
HasLine mode words = (operand : List ℕ) × (options : List Given) × IsLine mode words operand options

-- what clap found is a line of the mode, with this operand and these options
pub record IsMatched (mode : Mode) (words : List (List ℕ)) (found : Found) : Type 0 where
  pub operand : List ℕ
  pub options : List Given
  pub line : IsLine mode words operand options
  pub operand_is : first_value found (codes "operand") ≡ Some operand
  pub options_are : (name : List ℕ) → Contains all_options name → first_value found name ≡ value_of name options
