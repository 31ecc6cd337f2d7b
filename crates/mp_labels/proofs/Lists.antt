-- What a filter, a map, a range and a sum have.
use Rattle.std.proofs.Common.{◌≡◌, ◌⊎◌, ◌<◌, ◌≤◌, ◌+◌, ℕ, zero, suc, Bool, true, false, not, cond, List, [], ◌∷◌, ◌++◌, All, Contains, map, filter, sum_by, refl, ap, sym, ◌∙◌, subst, arith, inl, inr}
use Rattle.std.specs.Prelude.{nat_eq}
use Rattle.std.specs.List.{flat_map, range_with_len}
use Rattle.std.proofs.lemmas.Bool.{cases_order, true≢false, eq-eqb, ne_eqb, cond-true, cond-false}
use Rattle.std.proofs.lemmas.List.{get_or-map, length-map, map-id}
use Rattle.std.proofs.lemmas.List.FromFn.{map-range_with_len_more}
use Rattle.std.proofs.lemmas.List.Sums.{sum_by-cons, sum_by-append}
pub use Rattle.mp_logic.proofs.Chosen.{Contains-map as Contains-from_map}
use Rattle.mp_logic.proofs.Members.{Contains-none, Contains-first, Contains-later, Contains-cases}

pub not_cond : (b : Bool) (n : ℕ) → cond (not b) n 0 ≡ cond b 0 n
not_cond true n = refl
not_cond false n = refl

pub Contains-map : {X Y : Type 0} (f : X → Y) (xs : List X) (x : X) → Contains xs x → Contains (map f xs) (f x)
Contains-map f [] x h = absurd (Contains-none x h)
Contains-map {X} {Y} f (z ∷ xs) x h =
    elim (Contains-cases z xs x h) [
      | inl e ↦ subst (λ w. Contains (f z ∷ map f xs) (f w)) (sym e) (Contains-first (f z) (map f xs))
      | inr i ↦ Contains-later (f z) (map f xs) (f x) (Contains-map f xs x i)
    ]

pub All-from_map : {X Y : Type 0} (P : Y → Type 0) (f : X → Y) (xs : List X) → All P (map f xs) → All (λ x. P (f x)) xs
All-from_map P f xs h = λ k d l. subst P (get_or-map f xs k d (f d) l) (h k (f d) (omega (arith, length-map xs f)))

pub map_agree_at : {X Y : Type 0} (f g : X → Y) (xs : List X) → ((x : X) → Contains xs x → f x ≡ g x) → map f xs ≡ map g xs
map_agree_at f g [] h = refl
map_agree_at f g (x ∷ xs) h = ap (λ y. y ∷ map f xs) (h x (Contains-first x xs)) ∙ ap (λ ys. g x ∷ ys) (map_agree_at f g xs (λ y i. h y (Contains-later x xs y i)))

pub sum_by-map : {X Y : Type 0} (g : Y → ℕ) (f : X → Y) (xs : List X) → sum_by g (map f xs) ≡ sum_by (λ x. g (f x)) xs
sum_by-map g f [] = refl
sum_by-map g f (x ∷ xs) = omega (arith, sum_by-cons g (f x) (map f xs), sum_by-cons (λ x. g (f x)) x xs, sum_by-map g f xs)

pub sum_by_agree : {X : Type 0} (f g : X → ℕ) (xs : List X) → ((x : X) → Contains xs x → f x ≡ g x) → sum_by f xs ≡ sum_by g xs
sum_by_agree f g [] h = refl
sum_by_agree f g (x ∷ xs) h =
    let rest = sum_by_agree f g xs (λ y i. h y (Contains-later x xs y i)) in
    let first = h x (Contains-first x xs) in
    omega (arith, rest, first, sum_by-cons f x xs, sum_by-cons g x xs)

pub sum_by_add : {X : Type 0} (f g : X → ℕ) (xs : List X) → sum_by (λ x. f x + g x) xs ≡ sum_by f xs + sum_by g xs
sum_by_add f g [] = refl
sum_by_add f g (x ∷ xs) = omega (arith, sum_by-cons (λ x. f x + g x) x xs, sum_by-cons f x xs, sum_by-cons g x xs, sum_by_add f g xs)

pub sum_by_none : {X : Type 0} (xs : List X) → sum_by (λ (x : X). 0) xs ≡ 0
sum_by_none [] = refl
sum_by_none {X} (x ∷ xs) = omega (arith, sum_by-cons (λ (x : X). 0) x xs, sum_by_none xs)

pub sum_by-filter : {X : Type 0} (f : X → ℕ) (p : X → Bool) (xs : List X) → sum_by f (filter p xs) ≡ sum_by (λ x. cond (p x) (f x) 0) xs
sum_by-filter f p [] = refl
sum_by-filter {X} f p (x ∷ xs) =
    let rest = sum_by-filter f p xs in
    let all = sum_by-cons (λ (x : X). cond (p x) (f x) 0) x xs in
    let step : (b : Bool) → sum_by f (cond b (x ∷ filter p xs) (filter p xs)) ≡ cond b (f x) 0 + sum_by f (filter p xs) =
    λ (b : Bool). elim b as (λ b. sum_by f (cond b (x ∷ filter p xs) (filter p xs)) ≡ cond b (f x) 0 + sum_by f (filter p xs)) [ true ↦ sum_by-cons f x (filter p xs) | false ↦ omega arith ] in
    omega (arith, rest, all, step (p x))

pub sum_by-flat_map : {X Y : Type 0} (g : Y → ℕ) (f : X → List Y) (xs : List X) → sum_by g (flat_map f xs) ≡ sum_by (λ x. sum_by g (f x)) xs
sum_by-flat_map g f [] = refl
sum_by-flat_map {X} g f (x ∷ xs) = omega (arith, sum_by-append g (f x) (flat_map f xs), sum_by-cons (λ (x : X). sum_by g (f x)) x xs, sum_by-flat_map g f xs)

cases_first : (a v : ℕ) → a ≤ v → (a ≡ v) ⊎ (a < v)
cases_first a v h = elim (cases_order a v) [ inl e ↦ inl e | inr o ↦ elim o [ inl l ↦ inr l | inr g ↦ absurd (omega arith) ] ]

sum_by_past : (a n x y : ℕ) → x < a → sum_by (λ v. cond (nat_eq x v) y 0) (range_with_len a n) ≡ 0
sum_by_past a zero x y h = refl
sum_by_past a (suc n) x y h =
    let all = sum_by-cons (λ v. cond (nat_eq x v) y 0) a (range_with_len (a + 1) n) in
    let here : cond (nat_eq x a) y 0 ≡ 0 = cond-false (nat_eq x a) y 0 (ne_eqb x a (λ e. absurd (omega arith))) in
    omega (arith, all, here, sum_by_past (a + 1) n x y (omega arith))

-- of a range only one number counts
pub sum_by_one : (a n x y : ℕ) → a ≤ x → x < a + n → sum_by (λ v. cond (nat_eq x v) y 0) (range_with_len a n) ≡ y
sum_by_one a zero x y h l = absurd (omega arith)
sum_by_one a (suc n) x y h l =
    let all = sum_by-cons (λ v. cond (nat_eq x v) y 0) a (range_with_len (a + 1) n) in
    elim (cases_first a x h) [
      | inl e ↦
          let here : cond (nat_eq x a) y 0 ≡ y = cond-true (nat_eq x a) y 0 (eq-eqb x a (sym e)) in
          omega (arith, all, here, sum_by_past (a + 1) n x y (omega arith))
      | inr m ↦
          let here : cond (nat_eq x a) y 0 ≡ 0 = cond-false (nat_eq x a) y 0 (ne_eqb x a (λ e. absurd (omega arith))) in
          omega (arith, all, here, sum_by_one (a + 1) n x y (omega arith) (omega arith))
    ]

pub filter_agree_at : {X : Type 0} (p q : X → Bool) (xs : List X) → ((x : X) → Contains xs x → p x ≡ q x) → filter p xs ≡ filter q xs
filter_agree_at p q [] h = refl
filter_agree_at p q (x ∷ xs) h =
    let rest = filter_agree_at p q xs (λ y i. h y (Contains-later x xs y i)) in
    ap (λ b. cond b (x ∷ filter p xs) (filter p xs)) (h x (Contains-first x xs)) ∙ ap (λ ys. cond (q x) (x ∷ ys) ys) rest

pub Contains-filter : {X : Type 0} (p : X → Bool) (xs : List X) (x : X) → Contains xs x → p x ≡ true → Contains (filter p xs) x
Contains-filter p [] x h t = absurd (Contains-none x h)
Contains-filter {X} p (z ∷ xs) x h t =
    let step : (b : Bool) → p z ≡ b → Contains (cond b (z ∷ filter p xs) (filter p xs)) x =
    λ (b : Bool). elim b as (λ b. p z ≡ b → Contains (cond b (z ∷ filter p xs) (filter p xs)) x) [
      | true ↦ λ e. elim (Contains-cases z xs x h) [
        | inl s ↦ subst (λ w. Contains (z ∷ filter p xs) w) (sym s) (Contains-first z (filter p xs))
        | inr i ↦ Contains-later z (filter p xs) x (Contains-filter p xs x i t)
      ]
      | false ↦ λ e. elim (Contains-cases z xs x h) [
        | inl s ↦ absurd (true≢false (sym t ∙ (ap p s ∙ e)))
        | inr i ↦ Contains-filter p xs x i t
      ]
    ] in
    step (p z) refl

pub Contains-from_filter : {X : Type 0} (p : X → Bool) (xs : List X) (x : X) → Contains (filter p xs) x → Contains xs x × (p x ≡ true)
Contains-from_filter p [] x h = absurd (Contains-none x h)
Contains-from_filter {X} p (z ∷ xs) x h =
    let step : (b : Bool) → p z ≡ b → Contains (cond b (z ∷ filter p xs) (filter p xs)) x → Contains (z ∷ xs) x × (p x ≡ true) =
    λ (b : Bool). elim b as (λ b. p z ≡ b → Contains (cond b (z ∷ filter p xs) (filter p xs)) x → Contains (z ∷ xs) x × (p x ≡ true)) [
      | true ↦ λ e i. elim (Contains-cases z (filter p xs) x i) [
        | inl s ↦ (subst (λ w. Contains (z ∷ xs) w) (sym s) (Contains-first z xs), ap p s ∙ e)
        | inr j ↦ let w = Contains-from_filter p xs x j in (Contains-later z xs x w.0, w.1)
      ]
      | false ↦ λ e i. let w = Contains-from_filter p xs x i in (Contains-later z xs x w.0, w.1)
    ] in
    step (p z) refl h

pub Contains-range : (a n v : ℕ) → a ≤ v → v < a + n → Contains (range_with_len a n) v
Contains-range a zero v h l = absurd (omega arith)
Contains-range a (suc n) v h l =
    elim (cases_first a v h) [
      | inl e ↦ subst (λ w. Contains (a ∷ range_with_len (a + 1) n) w) e (Contains-first a (range_with_len (a + 1) n))
      | inr m ↦ Contains-later a (range_with_len (a + 1) n) v (Contains-range (a + 1) n v (omega arith) (omega arith))
    ]

pub Contains-from_range : (a n v : ℕ) → Contains (range_with_len a n) v → (a ≤ v) × (v < a + n)
Contains-from_range a zero v h = absurd (Contains-none v h)
Contains-from_range a (suc n) v h =
    elim (Contains-cases a (range_with_len (a + 1) n) v h) [
      | inl e ↦ (omega arith, omega arith)
      | inr i ↦ let w = Contains-from_range (a + 1) n v i in (omega arith, omega arith)
    ]

pub range_with_len_more : (a n : ℕ) → range_with_len a (n + 1) ≡ range_with_len a n ++ (a + n) ∷ []
range_with_len_more a n =
    sym (map-id (range_with_len a (n + 1))) ∙ (map-range_with_len_more (λ x. x) a n (a + n) refl ∙ ap (λ xs. xs ++ (a + n) ∷ []) (map-id (range_with_len a n)))
