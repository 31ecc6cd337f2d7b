use Rattle.std.proofs.Common.{◌^◌, lit<, ◌≡◌, ℕ, Bool, true, false, List, [], ◌∷◌, ◌+◌, ◌-◌, ◌*◌, ◌<◌, ◌≤◌, length, drop, get_or, refl, ap, Some, None, sym, ◌∙◌, arith, suc, drop-cons}
use Rattle.std.specs.Prelude.{nat_le}
use Rattle.std.specs.Str.{all_ascii_digits}
use Rattle.std.specs.Char.{is_ascii_digit}
use Rattle.std.proofs.lemmas.Option.{none-some}
use Rattle.std.proofs.lemmas.Bool.{leb-false}
use Rattle.std.proofs.lemmas.Grind.{pow_more}
use Rattle.std.proofs.Math.Nat.{pow-le-pow_right}
use Rattle.mp_text.specs.Numbers.{value_after, decimal_after, at_most}

pub value_grows : (n : ℕ) (ds : List ℕ) → n ≤ value_after n ds
value_grows n [] = omega arith
value_grows n (d ∷ ds) = omega (arith, value_grows (10 * n + (d - 48)) ds)

pub too_great : (max n : ℕ) (ds : List ℕ) → max < n → at_most max (decimal_after n ds) ≡ None
too_great max n ds h =
    let step : (t : Bool) → all_ascii_digits ds ≡ t → at_most max (decimal_after n ds) ≡ None =
    λ (t : Bool). elim t as (λ t. all_ascii_digits ds ≡ t → at_most max (decimal_after n ds) ≡ None) [
      | true ↦ λ e. rw e (grind (arith, value_grows n ds))
      | false ↦ λ e. rw e refl
    ] in
    step (all_ascii_digits ds) refl

pub decimal_digit : (n d : ℕ) (ds : List ℕ) → is_ascii_digit d ≡ true → decimal_after n (d ∷ ds) ≡ decimal_after (10 * n + (d - 48)) ds
decimal_digit n d ds h = rw h refl

pub decimal_other : (n d : ℕ) (ds : List ℕ) → is_ascii_digit d ≡ false → decimal_after n (d ∷ ds) ≡ None
decimal_other n d ds h = rw h refl

none_above : (max n : ℕ) → at_most max (Some n) ≡ None → max < n
none_above max n h =
    let step : (t : Bool) → nat_le n max ≡ t → max < n =
    λ (t : Bool). elim t as (λ t. nat_le n max ≡ t → max < n) [
      | true ↦ λ e. absurd (none-some n (sym (rw e at h)))
      | false ↦ λ e. leb-false n max e
    ] in
    step (nat_le n max) refl

pub stops : (max n i : ℕ) (text : List ℕ) → i < length text → is_ascii_digit (get_or text i 0) ≡ true → at_most max (Some (10 * n + (get_or text i 0 - 48))) ≡ None
    → at_most max (decimal_after n (drop i text)) ≡ None
stops max n i text h digit none =
    rw (drop-cons text i 0 h) (ap (at_most max) (decimal_digit n (get_or text i 0) (drop (suc i) text) digit) ∙ too_great max _ (drop (suc i) text) (none_above _ _ none))

-- so few digits are a number of 64 bits
pub short_value : (n i : ℕ) → n < 10 ^ i → i < 19 → n < 10 ^ 18
short_value n i h k =
    let few : i ≤ 18 = omega (arith, k) in
    let p : 10 ^ i ≤ 10 ^ 18 = pow-le-pow_right {n = 10} (lit< tt) few in
    omega (arith, h, p)

pub short_more : (n d i : ℕ) → n < 10 ^ i → d ≤ 9 → 10 * n + d < 10 ^ (i + 1)
short_more n d i h k = omega (arith, h, k, pow_more 10 i)
