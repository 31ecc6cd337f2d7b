-- Which ids a list has.
use Rattle.std.proofs.Common.{◌≡◌, ℕ, ◌+◌, ◌<◌, ◌≤◌, Bool, true, false, cond, List, [], ◌∷◌, ◌++◌, length, get_or, drop, add-one, drop-cons, append_assoc, zero, suc, refl, sym, ◌∙◌, ap, subst, arith, inl, inr, Contains, leb}
use Rattle.std.specs.Prelude.{Option, Some, None, ◌==◌}
use Rattle.std.specs.List.{list_any}
use Rattle.std.specs.List.Sorted.{IsStrictlyIncreasing}
use Rattle.std.proofs.lemmas.Bool.{cases_eq, cases_lt, eqb-true, eq-eqb, ne_eqb, or_cases, or_left, or_right, and_parts, and_from, false≢true, leb-true, leb-false, cases_Bool}
use Rattle.mp_logic.specs.Literal.{Literal, negation}
use Rattle.mp_logic.proofs.Members.{Contains-none, Contains-first, Contains-later, Contains-cases}
use Rattle.mp_clauses.specs.Places.{place_of, has, is_in, no_repeats}
use Rattle.mp_clauses.specs.Slots.{clause_of}
use Rattle.mp_clauses.specs.Occurrences.{ids_where, slot_has, ids_with, AreExactOccurrences}
use Rattle.mp_clauses.specs.Tables.{rising_from}
use Rattle.mp_clauses.proofs.Pricing.{same-place}

pub both-ways : (a b : Bool) → (a ≡ true → b ≡ true) → (b ≡ true → a ≡ true) → a ≡ b
both-ways true true f g = refl
both-ways true false f g = sym (f refl)
both-ways false true f g = g refl
both-ways false false f g = refl

pub any-by : {X : Type 0} (p : X → Bool) (xs : List X) (x : X) → Contains xs x → p x ≡ true → list_any p xs ≡ true
any-by p [] x h t = absurd (Contains-none x h)
any-by p (y ∷ xs) x h t = elim (Contains-cases y xs x h) [ inl e ↦ or_left (p y) (list_any p xs) (ap p (sym e) ∙ t) | inr r ↦ or_right (p y) (list_any p xs) (any-by p xs x r t) ]

pub any-found : {X : Type 0} (p : X → Bool) (xs : List X) → list_any p xs ≡ true → (x : X) × Contains xs x × (p x ≡ true)
any-found p [] h = absurd (false≢true h)
any-found p (y ∷ xs) h =
    elim (or_cases (p y) (list_any p xs) h) [ inl t ↦ (y, Contains-first y xs, t) | inr t ↦ let w = any-found p xs t in (w.0, Contains-later y xs w.0 w.1, w.2) ]

pub is_in-by : (xs : List ℕ) (k : ℕ) → Contains xs k → is_in k xs ≡ true
is_in-by xs k h = any-by (λ y. y == k) xs k h (eq-eqb k k refl)

pub is_in-contains : (xs : List ℕ) (k : ℕ) → is_in k xs ≡ true → Contains xs k
is_in-contains xs k h = let w = any-found (λ y. y == k) xs h in subst (Contains xs) (eqb-true w.0 k w.2) w.1

-- a clause has a literal where it has one at its place
pub has-by : (c : List Literal) (l : Literal) → Contains c l → has (place_of l) c ≡ true
has-by c l h = any-by (λ k. place_of k == place_of l) c l h (eq-eqb (place_of l) (place_of l) refl)

pub has-contains : (c : List Literal) (l : Literal) → has (place_of l) c ≡ true → Contains c l
has-contains c l h = let w = any-found (λ k. place_of k == place_of l) c h in subst (Contains c) (same-place w.0 l (eqb-true (place_of w.0) (place_of l) w.2)) w.1

-- ids from a number on are not below it
pub ids_where-low : (test : Option (List Literal) → Bool) (i : ℕ) (s : List (Option (List Literal))) (j : ℕ) → j < i → is_in j (ids_where test i s) ≡ false
ids_where-low test i [] j h = refl
ids_where-low test i (x ∷ s) j h =
    let rest = ids_where-low test (i + 1) s j (omega arith) in
    let own : (i == j) ≡ false = ne_eqb i j (λ e. omega arith) in
    elim (test x) as (λ b. is_in j (cond b (i ∷ ids_where test (i + 1) s) (ids_where test (i + 1) s)) ≡ false) [ true ↦ rw (own, rest) refl | false ↦ rest ]

pub ids_where-in : (test : Option (List Literal) → Bool) (i : ℕ) (s : List (Option (List Literal))) (k : ℕ) → test None ≡ false → is_in (i + k) (ids_where test i s) ≡ test (get_or s k None)
ids_where-in test i [] k z = sym z
ids_where-in test i (x ∷ s) zero z =
    let low = ids_where-low test (i + 1) s (i + 0) (omega arith) in
    let own : (i == (i + 0)) ≡ true = eq-eqb i (i + 0) (omega arith) in
    elim (test x) as (λ b. is_in (i + 0) (cond b (i ∷ ids_where test (i + 1) s) (ids_where test (i + 1) s)) ≡ b) [ true ↦ or_left (i == (i + 0)) (is_in (i + 0) (ids_where test (i + 1) s)) own | false ↦ low ]
ids_where-in test i (x ∷ s) (suc k) z =
    let n : i + suc k ≡ i + 1 + k = omega arith in
    let rest = ids_where-in test (i + 1) s k z in
    let own : (i == (i + 1 + k)) ≡ false = ne_eqb i (i + 1 + k) (λ e. omega arith) in
    let step : (b : Bool) → is_in (i + 1 + k) (cond b (i ∷ ids_where test (i + 1) s) (ids_where test (i + 1) s)) ≡ test (get_or s k None) =
    λ (t : Bool). elim t as (λ b. is_in (i + 1 + k) (cond b (i ∷ ids_where test (i + 1) s) (ids_where test (i + 1) s)) ≡ test (get_or s k None)) [ true ↦ rw (own, rest) refl | false ↦ rest ] in
    rw n (step (test x))

pub ids_where-at : (test : Option (List Literal) → Bool) (s : List (Option (List Literal))) (k : ℕ) → test None ≡ false → is_in k (ids_where test 0 s) ≡ test (clause_of s k)
ids_where-at test s k z = let n : 0 + k ≡ k = omega arith in ap (λ j. is_in j (ids_where test 0 s)) (sym n) ∙ ids_where-in test 0 s k z

pub ids_where-once : (test : Option (List Literal) → Bool) (i : ℕ) (s : List (Option (List Literal))) → no_repeats (ids_where test i s) ≡ true
ids_where-once test i [] = refl
ids_where-once test i (x ∷ s) =
    let rest = ids_where-once test (i + 1) s in
    let low = ids_where-low test (i + 1) s i (omega arith) in
    elim (test x) as (λ b. no_repeats (cond b (i ∷ ids_where test (i + 1) s) (ids_where test (i + 1) s)) ≡ true) [ true ↦ rw (low, rest) refl | false ↦ rest ]

le-leb : (a b : ℕ) → a ≤ b → leb a b ≡ true
le-leb a b h = elim (cases_Bool (leb a b)) [ inl t ↦ t | inr f ↦ absurd (omega (arith, leb-false a b f)) ]

pub rising-more : (i j : ℕ) (xs : List ℕ) → j ≤ i → rising_from i xs ≡ true → rising_from j xs ≡ true
rising-more i j [] h r = refl
rising-more i j (x ∷ xs) h r = let parts = and_parts (leb i x) (rising_from (x + 1) xs) r in and_from (leb j x) (rising_from (x + 1) xs) (le-leb j x (let a = leb-true i x parts.0 in omega arith)) parts.1

pub ids_where-rising : (test : Option (List Literal) → Bool) (i : ℕ) (s : List (Option (List Literal))) → rising_from i (ids_where test i s) ≡ true
ids_where-rising test i [] = refl
ids_where-rising test i (x ∷ s) =
    let rest = ids_where-rising test (i + 1) s in
    elim (test x) as (λ b. rising_from i (cond b (i ∷ ids_where test (i + 1) s) (ids_where test (i + 1) s)) ≡ true) [ true ↦ and_from (leb i i) (rising_from (i + 1) (ids_where test (i + 1) s)) (le-leb i i (omega arith)) rest | false ↦ rising-more (i + 1) i (ids_where test (i + 1) s) (omega arith) rest ]

rising-low : (i j : ℕ) (xs : List ℕ) → rising_from i xs ≡ true → j < i → is_in j xs ≡ false
rising-low i j [] r h = refl
rising-low i j (x ∷ xs) r h =
    let parts = and_parts (leb i x) (rising_from (x + 1) xs) r in
    let above = leb-true i x parts.0 in
    let own : (x == j) ≡ false = ne_eqb x j (λ e. omega arith) in
    let rest = rising-low (x + 1) j xs parts.1 (omega arith) in
    rw (own, rest) refl

rest_in : (x : ℕ) (xs : List ℕ) (y : ℕ) (ys : List ℕ) (k : ℕ) → x ≡ y → rising_from (x + 1) xs ≡ true → rising_from (y + 1) ys ≡ true → is_in k (x ∷ xs) ≡ is_in k (y ∷ ys) → is_in k xs ≡ is_in k ys
rest_in x xs y ys k e r s h =
    elim (cases_eq x k) [
      | inl f ↦ rising-low (x + 1) k xs r (omega arith) ∙ sym (rising-low (y + 1) k ys s (omega arith))
      | inr n ↦
          let a : (x == k) ≡ false = ne_eqb x k n in
          let b : (y == k) ≡ false = ne_eqb y k (λ g. n (e ∙ g)) in
          sym (rw a refl) ∙ (h ∙ rw b refl)
    ]

-- rising lists with the same numbers are the same
pub rising-same : (xs ys : List ℕ) (i j : ℕ) → rising_from i xs ≡ true → rising_from j ys ≡ true → ((k : ℕ) → is_in k xs ≡ is_in k ys) → xs ≡ ys
rising-same [] [] i j r s h = refl
rising-same [] (y ∷ ys) i j r s h = absurd (false≢true (h y ∙ or_left (y == y) (is_in y ys) (eq-eqb y y refl)))
rising-same (x ∷ xs) [] i j r s h = absurd (false≢true (sym (h x) ∙ or_left (x == x) (is_in x xs) (eq-eqb x x refl)))
rising-same (x ∷ xs) (y ∷ ys) i j r s h =
    let a = and_parts (leb i x) (rising_from (x + 1) xs) r in
    let b = and_parts (leb j y) (rising_from (y + 1) ys) s in
    let whole_x : rising_from x (x ∷ xs) ≡ true = and_from (leb x x) (rising_from (x + 1) xs) (le-leb x x (omega arith)) a.1 in
    let whole_y : rising_from y (y ∷ ys) ≡ true = and_from (leb y y) (rising_from (y + 1) ys) (le-leb y y (omega arith)) b.1 in
    let in_x : is_in x (x ∷ xs) ≡ true = or_left (x == x) (is_in x xs) (eq-eqb x x refl) in
    let in_y : is_in y (y ∷ ys) ≡ true = or_left (y == y) (is_in y ys) (eq-eqb y y refl) in
    let not_less : x < y → ⊥ = λ l. false≢true (sym (rising-low y x (y ∷ ys) whole_y l) ∙ (sym (h x) ∙ in_x)) in
    let not_more : y < x → ⊥ = λ l. false≢true (sym (rising-low x y (x ∷ xs) whole_x l) ∙ (h y ∙ in_y)) in
    let same : x ≡ y = elim (cases_lt x y) [ inl l ↦ absurd (not_less l) | inr g ↦ elim (cases_lt y x) [ inl m ↦ absurd (not_more m) | inr n ↦ omega arith ] ] in
    let rest : (k : ℕ) → is_in k xs ≡ is_in k ys = λ k. rest_in x xs y ys k same a.1 b.1 (h k) in
    let tails : xs ≡ ys = rising-same xs ys (x + 1) (y + 1) a.1 b.1 rest in
    rw (same, tails) refl

pub incr-rising : (xs : List ℕ) (i : ℕ) → IsStrictlyIncreasing xs → (0 < length xs → i ≤ get_or xs 0 0) → rising_from i xs ≡ true
incr-rising [] i h g = refl
incr-rising (x ∷ xs) i h g =
    let first = g (omega arith) in
    and_from (leb i x) (rising_from (x + 1) xs) (le-leb i x first) (incr-rising xs (x + 1) (λ k l. let n : suc k + 1 ≡ suc (k + 1) = omega arith in rw n at (h (suc k) (omega arith))) (λ l. let n = h 0 (omega arith) in omega arith))

pub slot-clause : (p : ℕ) (l : Literal) → p ≡ place_of l → (slot : Option (List Literal)) → slot_has p slot ≡ true → (c : List Literal) × (slot ≡ Some c) × Contains c l
slot-clause p l e None h = absurd (false≢true h)
slot-clause p l e (Some c) h = (c, refl, has-contains c l (rw e at h))

-- the occurrence list of a literal
pub exact-ids : (l : Literal) (s : List (Option (List Literal))) → AreExactOccurrences l s (ids_with (place_of l) s)
exact-ids l s = record {
  once = ids_where-once (slot_has (place_of l)) 0 s;
  each = λ id. (
    λ h. slot-clause (place_of l) l refl (clause_of s id) (sym (ids_where-at (slot_has (place_of l)) s id refl) ∙ is_in-by (ids_with (place_of l) s) id h),
    λ w. is_in-contains (ids_with (place_of l) s) id (ids_where-at (slot_has (place_of l)) s id refl ∙ (ap (slot_has (place_of l)) w.1 ∙ has-by w.0 l w.2)),
  );
}
