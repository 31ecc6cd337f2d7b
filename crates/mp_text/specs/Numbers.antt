-- Decimal numbers and literals.
use Rattle.std.specs.Prelude.{ℕ, true, false, List, [], ◌∷◌, ◌+◌, ◌-◌, ◌*◌, Option, Some, None, if◌then◌else◌, nat_eq, nat_le}
use Rattle.std.specs.Str.{all_ascii_digits}
use Rattle.mp_text.specs.declared.numbers.LitToken.{LitToken}
use Rattle.mp_text.specs.declared.numbers.LitToken.TheVariants as kinds

-- the number of these digits behind those of n
abbrev pub value_after : ℕ → List ℕ → ℕ
value_after n [] = n
value_after n (d ∷ ds) = value_after (10 * n + (d - 48)) ds

-- the same, where all bytes are digits
abbrev pub decimal_after : ℕ → List ℕ → Option ℕ
decimal_after n ds = if all_ascii_digits ds then Some (value_after n ds) else None

-- the value of one or more digits
abbrev pub natural_of : List ℕ → Option ℕ
natural_of [] = None
natural_of (d ∷ ds) = decimal_after 0 (d ∷ ds)

-- the number, where it is at most this
abbrev pub at_most : ℕ → Option ℕ → Option ℕ
at_most max None = None
at_most max (Some n) = if nat_le n max then Some n else None

-- the greatest number of 128 bits
abbrev pub greatest : ℕ
greatest = 340282366920938463463374607431768211455

-- the closing zero, or the positive literal
abbrev pub positive : Option ℕ → Option LitToken
positive None = None
positive (Some n) = if nat_eq n 0 then Some kinds.Close else Some (kinds.Lit n false)

-- the negative literal; zero has none
abbrev pub negative : Option ℕ → Option LitToken
negative None = None
negative (Some n) = if nat_eq n 0 then None else Some (kinds.Lit n true)

-- what stands behind the first token of a clause: digits, or digits behind a `-`
abbrev pub literal_of : List ℕ → Option LitToken
literal_of [] = None
literal_of (b ∷ bs) = if nat_eq b 45 then negative (at_most greatest (natural_of bs)) else positive (at_most greatest (natural_of (b ∷ bs)))
