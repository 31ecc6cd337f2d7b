-- What tests on literals mean: membership, places in tables, and the first literal of a clause that passes.
use Rattle.std.proofs.Common.{◌≡◌, ◌≢◌, ◌⊎◌, ◌≤◌, ◌<◌, ◌+◌, ◌*◌, ℕ, Bool, true, false, not, cond, ◌||◌, List, [], ◌∷◌, Some, None, Contains, length, refl, ap, sym, ◌∙◌, subst, arith, inl, inr}
use Rattle.std.specs.Prelude.{count_by, nat_eq, nat_le, nat_lt}
use Rattle.std.specs.List.{find}
use Rattle.std.specs.Option.{option_to_list}
use Rattle.std.specs.Ordering.{is_eq}
use Rattle.std.proofs.lemmas.Bool.{false_from_ne_true, true≢false, eq-eqb, ne_eqb, not-true, not_from_false, and_parts, ltb-true, leb-true}
use Rattle.mp_logic.specs.Literal.{Literal}
use Rattle.mp_logic.specs.Normal.{lit_cmp, rises}
use Rattle.mp_logic.proofs.Literals.{cases_literal}
use Rattle.mp_logic.proofs.Members.{Contains-first, Contains-later, any_found, any_by, sum_by_same}
use Rattle.mp_labels.proofs.NormalForms.{same_from_tie, tie_itself}
use Rattle.mp_labels.proofs.Lists.{Contains-filter, Contains-from_filter}
use Rattle.mp_clauses.specs.Places.{place_of, has}
use Rattle.mp_clauses.specs.Tables.{apart}
use Rattle.mp_clauses.proofs.Pricing.{same-place}
use Rattle.mp_merging.specs.MergedForm.{has_literal, without}

pub tie_from : (k l : Literal) → k ≡ l → is_eq (lit_cmp k l) ≡ true
tie_from k l e = ap (λ j. is_eq (lit_cmp j l)) e ∙ tie_itself l

pub no_tie : (k l : Literal) → k ≢ l → is_eq (lit_cmp k l) ≡ false
no_tie k l n = false_from_ne_true (is_eq (lit_cmp k l)) (λ t. n (same_from_tie k l t))

pub has_literal-by : (l : Literal) (c : List Literal) → Contains c l → has_literal l c ≡ true
has_literal-by l c i = any_by (λ k. is_eq (lit_cmp k l)) c l i (tie_itself l)

pub has_literal-from : (l : Literal) (c : List Literal) → has_literal l c ≡ true → Contains c l
has_literal-from l c h = let w = any_found (λ k. is_eq (lit_cmp k l)) c h in subst (λ k. Contains c k) (same_from_tie w.0 l w.2) w.1

-- a literal of a clause is in it without another literal
pub without-by : (l k : Literal) (c : List Literal) → Contains c k → k ≢ l → Contains (without l c) k
without-by l k c i n = Contains-filter (λ j. not (is_eq (lit_cmp j l))) c k i (not_from_false (is_eq (lit_cmp k l)) (no_tie k l n))

pub without-from : (l k : Literal) (c : List Literal) → Contains (without l c) k → Contains c k × (k ≢ l)
without-from l k c i =
    let w = Contains-from_filter (λ j. not (is_eq (lit_cmp j l))) c k i in
    (w.0, λ e. true≢false (sym (tie_from k l e) ∙ not-true (is_eq (lit_cmp k l)) w.1))

same_test : (k l : Literal) → is_eq (lit_cmp k l) ≡ nat_eq (place_of k) (place_of l)
same_test k l =
    elim (cases_literal k l) [
      | inl e ↦ tie_from k l e ∙ sym (eq-eqb (place_of k) (place_of l) (ap place_of e))
      | inr n ↦ no_tie k l n ∙ sym (ne_eqb (place_of k) (place_of l) (λ e. n (same-place k l e)))
    ]

pub has_place : (l : Literal) (c : List Literal) → has_literal l c ≡ has (place_of l) c
has_place l [] = refl
has_place l (k ∷ c) = ap (λ b. b || has_literal l c) (same_test k l) ∙ ap (λ b. nat_eq (place_of k) (place_of l) || b) (has_place l c)

pub count_places : (l : Literal) (cs : List (List Literal)) → count_by (has (place_of l)) cs ≡ count_by (has_literal l) cs
count_places l cs = sum_by_same (λ c. cond (has (place_of l) c) 1 0) (λ c. cond (has_literal l c) 1 0) cs (λ c i. ap (λ b. cond b 1 0) (sym (has_place l c)))

rises_above : (n p : ℕ) (c : List Literal) → rises n c ≡ true → p < 2 * n + 2 → has p c ≡ false
rises_above n p [] h l = refl
rises_above n p (x ∷ c) h l =
    let parts = and_parts (nat_lt n x.variable) (rises x.variable c) h in
    let above = ltb-true n x.variable parts.0 in
    let rest = rises_above x.variable p c parts.1 (omega arith) in
    let own : nat_eq (place_of x) p ≡ false = ne_eqb (place_of x) p (λ e. omega arith) in
    rw (own, rest) refl

one_at_most : (b : Bool) → cond b 1 0 ≤ 1
one_at_most true = omega arith
one_at_most false = omega arith

pub rises_apart : (n : ℕ) (c : List Literal) → rises n c ≡ true → apart c ≡ true
rises_apart n [] h = refl
rises_apart n (x ∷ c) h =
    let parts = and_parts (nat_lt n x.variable) (rises x.variable c) h in
    let first = rises_above x.variable (place_of x) c parts.1 (omega (arith, one_at_most x.negative)) in
    let rest = rises_apart x.variable c parts.1 in
    rw (first, rest) refl

pub place_below : (n : ℕ) (l : Literal) → l.variable ≤ n → place_of l < 2 * n + 2
place_below n l h = omega (arith, one_at_most l.negative)

-- what a search finds
find_cases : {X : Type 0} (p : X → Bool) (xs : List X) → (find p xs ≡ None) ⊎ ((x : X) × (find p xs ≡ Some x) × Contains xs x × (p x ≡ true))
find_cases p [] = inl refl
find_cases {X} p (y ∷ xs) =
    let step : (b : Bool) → p y ≡ b → (cond b (Some y) (find p xs) ≡ None) ⊎ ((x : X) × (cond b (Some y) (find p xs) ≡ Some x) × Contains (y ∷ xs) x × (p x ≡ true)) =
    λ (t : Bool). elim t as (λ b. p y ≡ b → (cond b (Some y) (find p xs) ≡ None) ⊎ ((x : X) × (cond b (Some y) (find p xs) ≡ Some x) × Contains (y ∷ xs) x × (p x ≡ true))) [
      | true ↦ λ e. inr (y, refl, Contains-first y xs, e)
      | false ↦ λ e. elim (find_cases p xs) [ inl n ↦ inl n | inr w ↦ inr (w.0, w.1, Contains-later y xs w.0 w.2, w.3) ]
    ] in
    step (p y) refl

find_agree : {X : Type 0} (p q : X → Bool) (xs : List X) → ((x : X) → Contains xs x → p x ≡ q x) → find p xs ≡ find q xs
find_agree p q [] h = refl
find_agree p q (x ∷ xs) h =
    ap (λ b. cond b (Some x) (find p xs)) (h x (Contains-first x xs)) ∙ ap (λ o. cond (q x) (Some x) o) (find_agree p q xs (λ y i. h y (Contains-later x xs y i)))

-- the first literal that passes, of a clause with at least two
abbrev pub first_in : (Literal → Bool) → List Literal → List Literal
first_in p c = cond (nat_le 2 (length c)) (option_to_list (find p c)) []

pub record IsFirst (p : Literal → Bool) (c : List Literal) (l : Literal) : Type 0 where
  pub is : first_in p c ≡ l ∷ []
  pub own : Contains c l
  pub passes : p l ≡ true
  pub long : 2 ≤ length c

pub first_cases : (p : Literal → Bool) (c : List Literal) → (first_in p c ≡ []) ⊎ ((l : Literal) × IsFirst p c l)
first_cases p c =
    let step : (b : Bool) → nat_le 2 (length c) ≡ b → (cond b (option_to_list (find p c)) [] ≡ []) ⊎ ((l : Literal) × IsFirst p c l) =
    λ (t : Bool). elim t as (λ b. nat_le 2 (length c) ≡ b → (cond b (option_to_list (find p c)) [] ≡ []) ⊎ ((l : Literal) × IsFirst p c l)) [
      | true ↦ λ e. elim (find_cases p c) [
        | inl n ↦ inl (ap option_to_list n)
        | inr w ↦ inr (w.0, record { is = ap (λ b. cond b (option_to_list (find p c)) []) e ∙ ap option_to_list w.1; own = w.2; passes = w.3; long = leb-true 2 (length c) e })
      ]
      | false ↦ λ e. inl refl
    ] in
    step (nat_le 2 (length c)) refl

pub first_agree : (p q : Literal → Bool) (c : List Literal) → ((l : Literal) → Contains c l → p l ≡ q l) → first_in p c ≡ first_in q c
first_agree p q c h = ap (λ o. cond (nat_le 2 (length c)) (option_to_list o) []) (find_agree p q c h)
