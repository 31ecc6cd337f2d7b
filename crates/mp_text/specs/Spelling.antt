-- That a number which was written is read again.
use Rattle.std.specs.Prelude.{◌≡◌, ◌≤◌, ◌∷◌, ℕ, true, false, Some, decimal}
use Rattle.mp_text.specs.Numbers.{natural_of, literal_of, greatest}
use Rattle.mp_text.specs.declared.numbers.LitToken.TheVariants as kinds

-- the law: the decimal digits of a number of 128 bits are read as the number, and those of a variable as its literals
pub record IsReadAgain (n : ℕ) : Type 0 where
  pub number : natural_of (decimal n) ≡ Some n
  pub positive : 1 ≤ n → literal_of (decimal n) ≡ Some (kinds.Lit n false)
  pub negative : 1 ≤ n → literal_of (45 ∷ decimal n) ≡ Some (kinds.Lit n true)

abbrev pub NumbersAreReadAgain : Type 0
NumbersAreReadAgain = (n : ℕ) → n ≤ greatest → IsReadAgain n
