-- Numbers in their one spelling are read as they are written.
use Rattle.std.proofs.Common.{◌≡◌, ◌≢◌, ◌≤◌, ◌<◌, ℕ, zero, suc, Bool, true, false, List, [], ◌∷◌, length, get_or, Some, None, refl, ap, subst, sym, ◌∙◌, arith, if◌then◌else◌}
use Rattle.std.specs.Prelude.{nat_le, nat_lt, nat_eq, ◌&&◌}
use Rattle.std.specs.List.{slice_index}
use Rattle.mp_map.specs.Reading.{exact_of}
use Rattle.std.specs.Str.{all_ascii_digits}
use Rattle.std.specs.Fmt.{decimal}
use Rattle.std.proofs.lemmas.Fmt.{decimal_digit}
use Rattle.std.proofs.lemmas.Option.{none-some, cond_some}
use Rattle.std.proofs.lemmas.Bool.{leb-true, le-leb, lt-ltb, true≢false, eqb-true}
use Rattle.mp_text.specs.Numbers.{value_after, natural_of, at_most, greatest}
use Rattle.mp_text.proofs.Spelled.{number_is_read, first_digit, digits_are_spelled}

one_zero : (text : List ℕ) → (nat_lt 1 (length text) && nat_eq (slice_index text 0) 48) ≡ false → get_or text 0 0 ≡ 48 → length text ≡ 1
one_zero [] h e = omega (arith, e)
one_zero (x ∷ []) h e = refl
one_zero (x ∷ y ∷ ys) h e =
    let t : nat_lt 1 (length (x ∷ y ∷ ys)) ≡ true = lt-ltb 1 (length (x ∷ y ∷ ys)) (omega arith) in
    absurd (true≢false (sym (ap (λ v. nat_eq v 48) e) ∙ ap (λ t. t && nat_eq x 48) (sym t) ∙ h))

two_zero : {P : Type 0} (text : List ℕ) → (nat_lt 1 (length text) && nat_eq (slice_index text 0) 48) ≡ true → (1 < length text → get_or text 0 0 ≡ 48 → P) → P
two_zero [] h k = absurd (true≢false (sym h))
two_zero (x ∷ []) h k = absurd (true≢false (sym h))
two_zero (x ∷ y ∷ ys) h k =
    let t : nat_lt 1 (length (x ∷ y ∷ ys)) ≡ true = lt-ltb 1 (length (x ∷ y ∷ ys)) (omega arith) in
    k (omega arith) (eqb-true x 48 (ap (λ t. t && nat_eq x 48) (sym t) ∙ h))

-- a value found is the text's
pub exact_found : (text : List ℕ) (max n : ℕ) → max ≤ greatest → (get_or text 0 0 ≡ 48 → length text ≡ 1) → at_most max (natural_of text) ≡ Some n → (text ≡ decimal n) × (n ≤ max)
exact_found [] max n small one h = absurd (none-some n h)
exact_found (d ∷ ds) max n small one h =
    let step : (t : Bool) → all_ascii_digits (d ∷ ds) ≡ t → (d ∷ ds ≡ decimal n) × (n ≤ max) =
    λ (t : Bool). elim t as (λ t. all_ascii_digits (d ∷ ds) ≡ t → (d ∷ ds ≡ decimal n) × (n ≤ max)) [
      | true ↦ λ e.
          let k : at_most max (Some (value_after 0 (d ∷ ds))) ≡ Some n = ap (λ t. at_most max (if t then Some (value_after 0 (d ∷ ds)) else None)) (sym e) ∙ h in
          let f = cond_some (nat_le (value_after 0 (d ∷ ds)) max) _ _ k in
          let bound : value_after 0 (d ∷ ds) ≤ max = leb-true _ _ f.0 in
          (sym (digits_are_spelled (d ∷ ds) e (omega arith) one (omega (arith, bound, small))) ∙ ap decimal f.1, subst (λ v. v ≤ max) f.1 bound)
      | false ↦ λ e. absurd (none-some n (ap (λ t. at_most max (if t then Some (value_after 0 (d ∷ ds)) else None)) (sym e) ∙ h))
    ] in
    step (all_ascii_digits (d ∷ ds)) refl

-- a number's spelling is read
exact_read : (max n : ℕ) → n ≤ greatest → n ≤ max → at_most max (natural_of (decimal n)) ≡ Some n
exact_read max n small h = ap (at_most max) (number_is_read n small) ∙ ap (λ t. if t then Some n else None) (le-leb n max h)

-- and has no zero in front
exact_front : (n : ℕ) → n ≤ greatest → 1 < length (decimal n) → get_or (decimal n) 0 0 ≢ 48
exact_front zero small long e = let one : length (decimal 0) ≡ 1 = ap length (decimal_digit 0 (omega arith)) in omega (arith, one, long)
exact_front (suc n) small long e = omega (arith, first_digit (suc n) (omega arith) small, e)

zero_test : List ℕ → Bool
zero_test text = nat_lt 1 (length text) && nat_eq (slice_index text 0) 48

pub found : (max : ℕ) (text : List ℕ) (n : ℕ) → max ≤ greatest → exact_of max text ≡ Some n → (text ≡ decimal n) × (n ≤ max)
unfolding zero_test
found max text n small h =
    let step : (t : Bool) → zero_test text ≡ t → (text ≡ decimal n) × (n ≤ max) =
    λ (t : Bool). elim t as (λ t. zero_test text ≡ t → (text ≡ decimal n) × (n ≤ max)) [
      | true ↦ λ e. absurd (none-some n (ap (λ t. if t then None else at_most max (natural_of text)) (sym e) ∙ h))
      | false ↦ λ e. exact_found text max n small (one_zero text e) (ap (λ t. if t then None else at_most max (natural_of text)) (sym e) ∙ h)
    ] in
    step (zero_test text) refl

pub exact_complete : (max n : ℕ) → max ≤ greatest → n ≤ max → exact_of max (decimal n) ≡ Some n
unfolding zero_test
exact_complete max n small bound =
    let fits : n ≤ greatest = omega (arith, bound, small) in
    let step : (t : Bool) → zero_test (decimal n) ≡ t → exact_of max (decimal n) ≡ Some n =
    λ (t : Bool). elim t as (λ t. zero_test (decimal n) ≡ t → exact_of max (decimal n) ≡ Some n) [
      | true ↦ λ e. absurd (two_zero (decimal n) e (λ long zero. exact_front n fits long zero))
      | false ↦ λ e. ap (λ t. if t then None else at_most max (natural_of (decimal n))) e ∙ exact_read max n fits bound
    ] in
    step (zero_test (decimal n)) refl
