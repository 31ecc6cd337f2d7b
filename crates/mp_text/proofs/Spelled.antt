-- The decimal digits of a number are a word, and are read as the number.
use Rattle.std.proofs.Common.{◌≡◌, ◌≢◌, ◌≤◌, ◌<◌, ◌^◌, ◌+◌, ◌-◌, ◌*◌, ◌/◌, ◌%◌, ℕ, Bool, true, false, cond, List, [], ◌∷◌, ◌++◌, length, get_or, Option, Some, None, refl, ap, ap₂, sym, ◌∙◌, arith, if◌then◌else◌, rules, lit<, append_assoc}
use Rattle.std.specs.Prelude.{nat_eq, nat_le, ◌||◌}
use Rattle.std.specs.Char.{is_ascii_digit}
use Rattle.std.specs.Fmt.{decimal}
use Rattle.std.specs.List.{AllByRecursion}
use Rattle.std.specs.Str.{all_ascii_digits}
use Rattle.std.proofs.lemmas.Fmt.{decimal_is_IsNumeral_wide, decimal_digit, decimal_step_wide, decimal_by_steps_wide}
use Rattle.std.proofs.lemmas.List.{append-nil, length-append, get_or_append_left}
use Rattle.std.proofs.lemmas.Str.Parse.{IsNumeralModel, numerals_by_fold}
use Rattle.std.proofs.lemmas.Bool.{and_parts, leb-true, le-leb, ne_eqb, or_from, eqb-false}
use Rattle.std.proofs.lemmas.Option.{none-some}
use Rattle.mp_text.specs.Tokens.{is_blank, is_filled, begins_comment}
use Rattle.mp_text.specs.Lines.{IsWord}
use Rattle.mp_text.specs.Numbers.{value_after, natural_of, at_most, greatest, positive, negative, literal_of}
use Rattle.mp_text.specs.declared.numbers.LitToken.{LitToken}
use Rattle.mp_text.specs.declared.numbers.LitToken.TheVariants as kinds
use Rattle.mp_text.proofs.Decimal.{value_grows}

own : IsNumeralModel (λ ds. all_ascii_digits ds ≡ true) (value_after 0)
own = numerals_by_fold _ (search rules) value_after (search rules)

abbrev IsSmall : ℕ → Type 0
IsSmall n = n ≤ greatest

wide : (n : ℕ) → n ≤ greatest → n < 10 ^ 64
wide n h = let bound : greatest < 10 ^ 64 = lit< tt in omega (arith, h, bound)

digits : (n : ℕ) → n ≤ greatest → all_ascii_digits (decimal n) ≡ true
digits n h = own.from (decimal n) (decimal_is_IsNumeral_wide n (wide n h)).0.1

value : (n : ℕ) → n ≤ greatest → value_after 0 (decimal n) ≡ n
value n h = let d = decimal_is_IsNumeral_wide n (wide n h) in own.same (decimal n) d.0.1 ∙ d.1

digit_bounds : (d : ℕ) → is_ascii_digit d ≡ true → (48 ≤ d) × (d ≤ 57)
digit_bounds d h = let p = and_parts (nat_le 48 d) (nat_le d 57) h in (leb-true 48 d p.0, leb-true d 57 p.1)

some_digit : (n : ℕ) → n ≤ greatest → 0 < length (decimal n)
some_digit n h = (decimal_is_IsNumeral_wide n (wide n h)).0.0

-- a number from 1 begins with a digit from 1
pub first_digit : (n : ℕ) → 1 ≤ n → n ≤ greatest → 48 < get_or (decimal n) 0 0
first_digit n some h = (decimal_by_steps_wide (λ m ds. (0 < length ds) × (0 < m → 48 < get_or ds 0 0)) (λ m l. (omega arith, λ a. omega arith))
    (λ m ds l k. (omega (arith, length-append ds ((48 + m % 10) ∷ [])), λ a. omega (arith, get_or_append_left ds ((48 + m % 10) ∷ []) 0 0 k.0, k.1 (omega arith)))) n (wide n h)).1 some

-- digits behind a number from 1 are written as they stand
digits_behind : (n : ℕ) (ds : List ℕ) → 1 ≤ n → all_ascii_digits ds ≡ true → value_after n ds ≤ greatest → decimal (value_after n ds) ≡ decimal n ++ ds
digits_behind n [] some k h = sym (append-nil (decimal n))
digits_behind n (d ∷ ds) some k h =
    let p = and_parts (is_ascii_digit d) (all_ascii_digits ds) k in
    let q = digit_bounds d p.0 in
    let m : ℕ = 10 * n + (d - 48) in
    let front : m / 10 ≡ n = omega (arith, q.0, q.1) in
    let end : 48 + m % 10 ≡ d = omega (arith, q.0, q.1) in
    digits_behind m ds (omega (arith, some)) p.1 h
    ∙ ap (λ v. v ++ ds) (decimal_step_wide m (omega (arith, some)) (wide m (omega (arith, value_grows m ds, h))) ∙ ap₂ (λ a b. decimal a ++ (b ∷ [])) front end)
    ∙ append_assoc (decimal n) (d ∷ []) ds

-- digits without a zero in front are what is written of their value
pub digits_are_spelled : (ds : List ℕ) → all_ascii_digits ds ≡ true → 0 < length ds → (get_or ds 0 0 ≡ 48 → length ds ≡ 1) → value_after 0 ds ≤ greatest → decimal (value_after 0 ds) ≡ ds
digits_are_spelled [] k some one h = absurd (let no : 1 ≤ 0 = omega (arith, some) in omega (arith, no))
digits_are_spelled (d ∷ []) k some one h =
    let q = digit_bounds d (and_parts (is_ascii_digit d) true k).0 in
    decimal_digit (10 * 0 + (d - 48)) (omega (arith, q.0, q.1)) ∙ ap (λ v. v ∷ []) (omega (arith, q.0, q.1))
digits_are_spelled (d ∷ e ∷ ds) k some one h =
    let p = and_parts (is_ascii_digit d) (all_ascii_digits (e ∷ ds)) k in
    let q = digit_bounds d p.0 in
    let no : d ≢ 48 = λ z. omega (arith, one z) in
    digits_behind (10 * 0 + (d - 48)) (e ∷ ds) (omega (arith, q.0, no)) p.1 h
    ∙ ap (λ v. v ++ (e ∷ ds)) (decimal_digit (10 * 0 + (d - 48)) (omega (arith, q.0, q.1)) ∙ ap (λ v. v ∷ []) (omega (arith, q.0, q.1)))

-- texts of digits
no_digit : (d k : ℕ) → is_ascii_digit d ≡ true → k < 48 → nat_eq d k ≡ false
no_digit d k h small = let low : 48 ≤ d = leb-true 48 d (and_parts (nat_le 48 d) (nat_le d 57) h).0 in ne_eqb d k (λ e. omega (arith, low, small, e))

not_blank : (d : ℕ) → is_ascii_digit d ≡ true → is_blank d ≡ false
not_blank d h =
    or_from (nat_eq d 32 || nat_eq d 9 || nat_eq d 13) (nat_eq d 10)
    (or_from (nat_eq d 32 || nat_eq d 9) (nat_eq d 13) (or_from (nat_eq d 32) (nat_eq d 9) (no_digit d 32 h (lit< tt)) (no_digit d 9 h (lit< tt))) (no_digit d 13 h (lit< tt)))
    (no_digit d 10 h (lit< tt))

digits_inner : (ds : List ℕ) → all_ascii_digits ds ≡ true → AllByRecursion (λ b. is_blank b ≡ false) ds
digits_inner [] h = tt
digits_inner (d ∷ ds) h = let k = and_parts (is_ascii_digit d) (all_ascii_digits ds) h in (not_blank d k.0, digits_inner ds k.1)

digits_filled : (ds : List ℕ) → 0 < length ds → is_filled ds ≡ true
digits_filled [] h = absurd (let no : 1 ≤ 0 = omega (arith, h) in omega (arith, no))
digits_filled (d ∷ ds) h = refl

natural_of_digits : (ds : List ℕ) → 0 < length ds → all_ascii_digits ds ≡ true → natural_of ds ≡ Some (value_after 0 ds)
natural_of_digits [] h k = absurd (let no : 1 ≤ 0 = omega (arith, h) in omega (arith, no))
natural_of_digits (d ∷ ds) h k = rw k refl

digits_are_literal : (ds : List ℕ) → 0 < length ds → all_ascii_digits ds ≡ true → literal_of ds ≡ positive (at_most greatest (natural_of ds))
digits_are_literal [] h k = absurd (let no : 1 ≤ 0 = omega (arith, h) in omega (arith, no))
digits_are_literal (d ∷ ds) h k =
    let first : nat_eq d 45 ≡ false = no_digit d 45 (and_parts (is_ascii_digit d) (all_ascii_digits ds) k).0 (lit< tt) in
    ap (λ t. if t then negative (at_most greatest (natural_of ds)) else positive (at_most greatest (natural_of (d ∷ ds)))) first

digits_no_comment : (ds : List ℕ) → all_ascii_digits ds ≡ true → begins_comment ds ≡ false
digits_no_comment [] k = refl
digits_no_comment (d ∷ ds) k =
    let high : d ≤ 57 = leb-true d 57 (and_parts (nat_le 48 d) (nat_le d 57) (and_parts (is_ascii_digit d) (all_ascii_digits ds) k).0).1 in
    ne_eqb d 99 (λ e. omega (arith, high, e))

-- numbers
pub number_is_word : (n : ℕ) → n ≤ greatest → IsWord (decimal n)
number_is_word n h = (digits_filled (decimal n) (some_digit n h), digits_inner (decimal n) (digits n h))

pub number_no_comment : (n : ℕ) → n ≤ greatest → begins_comment (decimal n) ≡ false
number_no_comment n h = digits_no_comment (decimal n) (digits n h)

pub number_is_digits : (n : ℕ) → n ≤ greatest → all_ascii_digits (decimal n) ≡ true
number_is_digits n h = digits n h

pub number_is_read : (n : ℕ) → n ≤ greatest → natural_of (decimal n) ≡ Some n
number_is_read n h = natural_of_digits (decimal n) (some_digit n h) (digits n h) ∙ ap (λ v. Some v) (value n h)

-- and where it is at most 128 bits
pub number_is_kept : (n : ℕ) → n ≤ greatest → at_most greatest (natural_of (decimal n)) ≡ Some n
number_is_kept n h = ap (at_most greatest) (number_is_read n h) ∙ ap (λ t. if t then Some n else None) (le-leb n greatest h)

-- literals
kept_positive : (n : ℕ) → 1 ≤ n → positive (Some n) ≡ Some (kinds.Lit n false)
kept_positive n h = ap (λ t. if t then Some kinds.Close else Some (kinds.Lit n false)) (ne_eqb n 0 (λ e. omega (arith, h, e)))

kept_negative : (n : ℕ) → 1 ≤ n → negative (Some n) ≡ Some (kinds.Lit n true)
kept_negative n h = ap (λ t. if t then None else Some (kinds.Lit n true)) (ne_eqb n 0 (λ e. omega (arith, h, e)))

pub positive_is_read : (n : ℕ) → 1 ≤ n → n ≤ greatest → literal_of (decimal n) ≡ Some (kinds.Lit n false)
positive_is_read n h k = digits_are_literal (decimal n) (some_digit n k) (digits n k) ∙ ap positive (number_is_kept n k) ∙ kept_positive n h

pub negative_is_read : (n : ℕ) → 1 ≤ n → n ≤ greatest → literal_of (45 ∷ decimal n) ≡ Some (kinds.Lit n true)
negative_is_read n h k = ap negative (number_is_kept n k) ∙ kept_negative n h

-- a literal that is read has a variable from 1
close_lit : (v : ℕ) (n : Bool) → Some kinds.Close ≡ Some (kinds.Lit v n) → ⊥
close_lit v n e = cc

same_lit : (v u : ℕ) (n m : Bool) → Some (kinds.Lit v n) ≡ Some (kinds.Lit u m) → v ≡ u
same_lit v u n m e = cc

from_zero : (k v : ℕ) (n m : Bool) (z : Option LitToken) → ((z ≡ Some (kinds.Lit v n)) → ⊥) → cond (nat_eq k 0) z (Some (kinds.Lit k m)) ≡ Some (kinds.Lit v n) → 1 ≤ v
from_zero k v n m z never h =
    let step : (t : Bool) → nat_eq k 0 ≡ t → cond t z (Some (kinds.Lit k m)) ≡ Some (kinds.Lit v n) → 1 ≤ v =
    λ (t : Bool). elim t as (λ t. nat_eq k 0 ≡ t → cond t z (Some (kinds.Lit k m)) ≡ Some (kinds.Lit v n) → 1 ≤ v) [
      | true ↦ λ e f. absurd (never f)
      | false ↦ λ e f. let same : k ≡ v = same_lit k v m n f in let some : k ≢ 0 = eqb-false k 0 e in omega (arith, same, some)
    ] in
    step (nat_eq k 0) refl h

positive_one : (o : Option ℕ) (v : ℕ) (n : Bool) → positive o ≡ Some (kinds.Lit v n) → 1 ≤ v
positive_one None v n h = absurd (none-some (kinds.Lit v n) h)
positive_one (Some k) v n h = from_zero k v n false (Some kinds.Close) (close_lit v n) h

negative_one : (o : Option ℕ) (v : ℕ) (n : Bool) → negative o ≡ Some (kinds.Lit v n) → 1 ≤ v
negative_one None v n h = absurd (none-some (kinds.Lit v n) h)
negative_one (Some k) v n h = from_zero k v n true None (none-some (kinds.Lit v n)) h

pub literal_from_one : (text : List ℕ) (v : ℕ) (n : Bool) → literal_of text ≡ Some (kinds.Lit v n) → 1 ≤ v
literal_from_one [] v n h = absurd (none-some (kinds.Lit v n) h)
literal_from_one (b ∷ bs) v n h =
    let step : (t : Bool) → cond t (negative (at_most greatest (natural_of bs))) (positive (at_most greatest (natural_of (b ∷ bs)))) ≡ Some (kinds.Lit v n) → 1 ≤ v =
    λ (t : Bool). elim t as (λ t. cond t (negative (at_most greatest (natural_of bs))) (positive (at_most greatest (natural_of (b ∷ bs)))) ≡ Some (kinds.Lit v n) → 1 ≤ v) [
      | true ↦ λ e. negative_one (at_most greatest (natural_of bs)) v n e
      | false ↦ λ e. positive_one (at_most greatest (natural_of (b ∷ bs))) v n e
    ] in
    step (nat_eq b 45) h
