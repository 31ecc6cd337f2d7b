-- Names that rise, their numbers, and the table of numbers.
use Rattle.std.proofs.Common.{◌≡◌, ◌<◌, ◌≤◌, ◌+◌, ◌-◌, ◌&&◌, ℕ, zero, suc, Bool, true, false, cond, IsTrue, List, [], ◌∷◌, Contains, get_or, set, length, drop, filter, refl, ap, sym, ◌∙◌, arith, inl, inr}
use Rattle.std.specs.Prelude.{nat_eq, nat_lt, nat_le}
use Rattle.std.specs.List.{range_with_len}
use Rattle.std.proofs.lemmas.Bool.{and_parts, and_from, ltb-true, leb-true, lt-ltb, le-leb, eq-eqb, ne_eqb, cases_eq, cond-true, cond-false}
use Rattle.std.proofs.lemmas.List.{get_or-set_same, get_or-set_other, get_or-drop, length-set}
use Rattle.mp_logic.specs.Labelled.{names_rise}
use Rattle.mp_logic.specs.Truth.{value_of}
use Rattle.mp_logic.specs.Carrying.{named}
use Rattle.mp_logic.proofs.Members.{Contains-none, Contains-cases}
use Rattle.mp_labels.specs.UnitForm.{number_of}
use Rattle.mp_labels.specs.Tables.{IsNumbering}

-- the parts of rising names
pub record Rises (least n m : ℕ) (ms : List ℕ) : Type 0 where
  pub above : least < m
  pub within : m ≤ n
  pub rest : IsTrue (names_rise m n ms)

pub rises_parts : (least n m : ℕ) (ms : List ℕ) → IsTrue (names_rise least n (m ∷ ms)) → Rises least n m ms
rises_parts least n m ms h =
    let w = and_parts (nat_lt least m && nat_le m n) (names_rise m n ms) h in
    let u = and_parts (nat_lt least m) (nat_le m n) w.0 in
    record { above = ltb-true least m u.0; within = leb-true m n u.1; rest = w.1 }

-- each name is above the least number and within n
pub name_bounds : (names : List ℕ) (least n v : ℕ) → IsTrue (names_rise least n names) → Contains names v → (least < v) × (v ≤ n)
name_bounds [] least n v h i = absurd (Contains-none v i)
name_bounds (m ∷ ms) least n v h i =
    let r = rises_parts least n m ms h in
    elim (Contains-cases m ms v i) [
      | inl e ↦ (omega (arith, r.above), omega (arith, r.within))
      | inr j ↦ let w = name_bounds ms m n v r.rest j in (omega (arith, r.above), w.1)
    ]

pub length_names : (names : List ℕ) (least n : ℕ) → IsTrue (names_rise least n names) → least ≤ n → length names + least ≤ n
length_names [] least n h l = omega arith
length_names (m ∷ ms) least n h l =
    let r = rises_parts least n m ms h in
    let w = length_names ms m n r.rest r.within in
    omega (arith, r.above)

number_of_first : (m v : ℕ) (ms : List ℕ) → m ≡ v → number_of (m ∷ ms) v ≡ 1
number_of_first m v ms e = cond-true (nat_eq m v) 1 (1 + number_of ms v) (eq-eqb m v e)

number_of_later : (m v : ℕ) (ms : List ℕ) → (m ≡ v → ⊥) → number_of (m ∷ ms) v ≡ 1 + number_of ms v
number_of_later m v ms n = cond-false (nat_eq m v) 1 (1 + number_of ms v) (ne_eqb m v n)

-- numbers are from 1 to the number of names
pub number_bounds : (names : List ℕ) (v : ℕ) → Contains names v → (1 ≤ number_of names v) × (number_of names v ≤ length names)
number_bounds [] v i = absurd (Contains-none v i)
number_bounds (m ∷ ms) v i =
    elim (cases_eq m v) [
      | inl e ↦ let f = number_of_first m v ms e in (omega arith, omega arith)
      | inr n ↦ let f = number_of_later m v ms n in
          elim (Contains-cases m ms v i) [
            | inl e ↦ absurd (n (sym e))
            | inr j ↦ let w = number_bounds ms v j in (omega arith, omega arith)
          ]
    ]

-- the name at a number
pub name_at_number : (names : List ℕ) (v d : ℕ) → Contains names v → get_or names (number_of names v - 1) d ≡ v
name_at_number [] v d i = absurd (Contains-none v i)
name_at_number (m ∷ ms) v d i =
    elim (cases_eq m v) [
      | inl e ↦ ap (λ k. get_or (m ∷ ms) (k - 1) d) (number_of_first m v ms e) ∙ e
      | inr n ↦
          elim (Contains-cases m ms v i) [
            | inl e ↦ absurd (n (sym e))
            | inr j ↦
                let w = number_bounds ms v j in
                let place : number_of (m ∷ ms) v - 1 ≡ suc (number_of ms v - 1) = omega (arith, number_of_later m v ms n) in
                ap (λ k. get_or (m ∷ ms) k d) place ∙ name_at_number ms v d j
          ]
    ]

get_or_same : (xs : List ℕ) (k d : ℕ) → k < length xs → get_or xs k (get_or xs k d) ≡ get_or xs k d
get_or_same [] k d l = absurd (omega arith)
get_or_same (x ∷ xs) zero d l = refl
get_or_same (x ∷ xs) (suc k) d l = get_or_same xs k d (omega arith)

-- the number of a name at a place
pub number_at_place : (names : List ℕ) (least n k d : ℕ) → IsTrue (names_rise least n names) → k < length names → number_of names (get_or names k d) ≡ k + 1
number_at_place [] least n k d h l = absurd (omega arith)
number_at_place (m ∷ ms) least n zero d h l = number_of_first m m ms refl
number_at_place (m ∷ ms) least n (suc k) d h l =
    let r = rises_parts least n m ms h in
    let short : k < length ms = omega arith in
    let v = get_or ms k d in
    let w = name_bounds ms m n v r.rest (k, short, get_or_same ms k d short) in
    let f = number_of_later m v ms (λ e. absurd (omega arith)) in
    let rest = number_at_place ms m n k d r.rest short in
    omega arith

-- the variables that pass a test rise
pub filter-range_rises : (p : ℕ → Bool) (a k least n : ℕ) → least < a → a + k ≤ n + 1 → IsTrue (names_rise least n (filter p (range_with_len a k)))
filter-range_rises p a zero least n l h = refl
filter-range_rises p a (suc k) least n l h =
    elim (p a) as (λ b. IsTrue (names_rise least n (cond b (a ∷ filter p (range_with_len (a + 1) k)) (filter p (range_with_len (a + 1) k))))) [
      | true ↦ and_from (nat_lt least a && nat_le a n) (names_rise a n (filter p (range_with_len (a + 1) k)))
          (and_from (nat_lt least a) (nat_le a n) (lt-ltb least a l) (le-leb a n (omega arith)))
          (filter-range_rises p (a + 1) k a n (omega arith) (omega arith))
      | false ↦ filter-range_rises p (a + 1) k least n (omega arith) (omega arith)
    ]

-- the table with the numbers after k for these names
abbrev pub numbered : ℕ → List ℕ → List ℕ → List ℕ
numbered k [] t = t
numbered k (m ∷ ms) t = numbered (k + 1) ms (set t (m - 1) (k + 1))

pub length-numbered : (names : List ℕ) (k : ℕ) (t : List ℕ) → length (numbered k names t) ≡ length t
length-numbered [] k t = refl
length-numbered (m ∷ ms) k t = length-numbered ms (k + 1) (set t (m - 1) (k + 1)) ∙ length-set t (m - 1) (k + 1)

numbered_other : (names : List ℕ) (least n k v : ℕ) (t : List ℕ) → IsTrue (names_rise least n names) → 1 ≤ v → v ≤ least → get_or (numbered k names t) (v - 1) 0 ≡ get_or t (v - 1) 0
numbered_other [] least n k v t h a b = refl
numbered_other (m ∷ ms) least n k v t h a b =
    let r = rises_parts least n m ms h in
    let above = r.above in
    numbered_other ms m n (k + 1) v (set t (m - 1) (k + 1)) r.rest a (omega arith) ∙ get_or-set_other t (m - 1) (v - 1) (k + 1) 0 (λ e. absurd (omega arith))

pub numbered_at : (names : List ℕ) (least n k v : ℕ) (t : List ℕ) → IsTrue (names_rise least n names) → n ≤ length t → Contains names v → get_or (numbered k names t) (v - 1) 0 ≡ k + number_of names v
numbered_at [] least n k v t h l i = absurd (Contains-none v i)
numbered_at (m ∷ ms) least n k v t h l i =
    let r = rises_parts least n m ms h in
    let above = r.above in
    let within = r.within in
    let t' = set t (m - 1) (k + 1) in
    elim (Contains-cases m ms v i) [
      | inl e ↦
          let at : get_or (numbered (k + 1) ms t') (v - 1) 0 ≡ get_or t' (v - 1) 0 = numbered_other ms m n (k + 1) v t' r.rest (omega arith) (omega arith) in
          let own : get_or t' (v - 1) 0 ≡ k + 1 = ap (λ w. get_or t' (w - 1) 0) e ∙ get_or-set_same t (m - 1) (k + 1) 0 (omega arith) in
          let f = number_of_first m v ms (sym e) in
          at ∙ (own ∙ omega arith)
      | inr j ↦
          let w = name_bounds ms m n v r.rest j in
          let f = number_of_later m v ms (λ e. absurd (omega arith)) in
          numbered_at ms m n (k + 1) v t' r.rest (omega (arith, length-set t (m - 1) (k + 1))) j ∙ omega arith
    ]

pub IsNumbering-numbered : (names : List ℕ) (n : ℕ) (t : List ℕ) → IsTrue (names_rise 0 n names) → n ≤ length t → IsNumbering names (numbered 0 names t)
IsNumbering-numbered names n t h l = record {
  within = λ v i. let w = name_bounds names 0 n v h i in (omega arith, omega (arith, length-numbered names 0 t));
  at = λ v i. numbered_at names 0 n 0 v t h l i ∙ omega arith;
}

named_other : (names : List ℕ) (least n v : ℕ) (values a : List Bool) → IsTrue (names_rise least n names) → 1 ≤ v → v ≤ least → value_of (named names values a) v ≡ value_of a v
named_other [] least n v values a h p q = refl
named_other (m ∷ ms) least n v values a h p q =
    let r = rises_parts least n m ms h in
    let above = r.above in
    named_other ms m n v (drop 1 values) (set a (m - 1) (value_of values 1)) r.rest p (omega arith) ∙ get_or-set_other a (m - 1) (v - 1) (value_of values 1) false (λ e. absurd (omega arith))

-- each name has the value of its number
pub named_at : (names : List ℕ) (least n v : ℕ) (values a : List Bool) → IsTrue (names_rise least n names) → n ≤ length a → Contains names v
    → value_of (named names values a) v ≡ value_of values (number_of names v)
named_at [] least n v values a h l i = absurd (Contains-none v i)
named_at (m ∷ ms) least n v values a h l i =
    let r = rises_parts least n m ms h in
    let above = r.above in
    let within = r.within in
    let a' = set a (m - 1) (value_of values 1) in
    elim (Contains-cases m ms v i) [
      | inl e ↦
          let at : value_of (named ms (drop 1 values) a') v ≡ value_of a' v = named_other ms m n v (drop 1 values) a' r.rest (omega arith) (omega arith) in
          let own : value_of a' v ≡ value_of values 1 = ap (λ w. value_of a' w) e ∙ get_or-set_same a (m - 1) (value_of values 1) false (omega arith) in
          at ∙ (own ∙ ap (value_of values) (sym (number_of_first m v ms (sym e))))
      | inr j ↦
          let w = name_bounds ms m n v r.rest j in
          let b = number_bounds ms v j in
          let rest : value_of (named ms (drop 1 values) a') v ≡ value_of (drop 1 values) (number_of ms v) = named_at ms m n v (drop 1 values) a' r.rest (omega (arith, length-set a (m - 1) (value_of values 1))) j in
          let shift : value_of (drop 1 values) (number_of ms v) ≡ value_of values (1 + number_of ms v) = get_or-drop 1 values (number_of ms v - 1) false ∙ ap (λ k. get_or values k false) (omega arith) in
          rest ∙ (shift ∙ ap (value_of values) (sym (number_of_later m v ms (λ e. absurd (omega arith)))))
    ]
