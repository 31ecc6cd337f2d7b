-- The literals of the variables that occur, as candidates.
use Rattle.std.proofs.Common.{◌≡◌, ◌≢◌, ◌⊎◌, ℕ, ◌+◌, ◌-◌, ◌*◌, ◌/◌, ◌%◌, ◌<◌, ◌≤◌, Bool, true, false, not, cond, List, [], ◌∷◌, ◌++◌, length, get_or, zero, suc, refl, sym, ◌∙◌, ap, subst, arith, inl, inr, Contains, All}
use Rattle.std.specs.Prelude.{◌==◌, Option}
use Rattle.std.specs.List.{filter, range_with_len}
use Rattle.std.proofs.lemmas.Bool.{cases_Bool, cases_eq, ne_eqb, eq-eqb}
use Rattle.std.proofs.lemmas.List.{length-append, append-nil}
use Rattle.std.proofs.lemmas.List.Elements.{Contains-get_or}
use Rattle.std.proofs.lemmas.List.FromFn.{length-range_with_len, get_or-range_with_len}
use Rattle.mp_logic.specs.Literal.{Literal, negation, IsUpTo}
use Rattle.mp_logic.proofs.Literals.{same_or_negation}
use Rattle.mp_logic.proofs.Members.{Contains-first}
use Rattle.std.proofs.lemmas.List.Elements.{All-contains}
use Rattle.mp_clauses.specs.Places.{place_of, literal_at, is_in, no_repeats}
use Rattle.mp_clauses.specs.Slots.{live_clauses}
use Rattle.mp_clauses.specs.Occurrences.{ids_with}
use Rattle.mp_clauses.proofs.Found.{exact-ids}
use Rattle.mp_store.specs.Held.{Held}
use Rattle.mp_store.specs.Soundness.{IsStore}
use Rattle.mp_store.specs.Measures.{occurs, occurring}
use Rattle.mp_store.proofs.Fixes.{filter-has}
use Rattle.mp_store.proofs.KeptFixing.{live-at, live-id}
use Rattle.mp_store.proofs.Measured.{occurs-by, occurs-found}

-- numbers of a range that pass a test are different
range-low : (p : ℕ → Bool) (a n k : ℕ) → k < a → is_in k (filter p (range_with_len a n)) ≡ false
range-low p a zero k h = refl
range-low p a (suc n) k h =
    let rest = range-low p (a + 1) n k (omega arith) in
    elim (p a) as (λ b. is_in k (cond b (a ∷ filter p (range_with_len (a + 1) n)) (filter p (range_with_len (a + 1) n))) ≡ false) [ true ↦ rw (ne_eqb a k (λ e. omega arith), rest) refl | false ↦ rest ]

pub range-once : (p : ℕ → Bool) (a n : ℕ) → no_repeats (filter p (range_with_len a n)) ≡ true
range-once p a zero = refl
range-once p a (suc n) =
    let rest = range-once p (a + 1) n in
    let own = range-low p (a + 1) n a (omega arith) in
    elim (p a) as (λ b. no_repeats (cond b (a ∷ filter p (range_with_len (a + 1) n)) (filter p (range_with_len (a + 1) n))) ≡ true) [ true ↦ rw (own, rest) refl | false ↦ rest ]

-- a longer range has one number more
range-more : (p : ℕ → Bool) (a n : ℕ) → filter p (range_with_len a (suc n)) ≡ filter p (range_with_len a n) ++ cond (p (a + n)) ((a + n) ∷ []) []
range-more p a zero = let e : a + 0 ≡ a = omega arith in rw e refl
range-more p a (suc n) =
    let e : a + 1 + n ≡ a + suc n = omega arith in
    let rest : filter p (range_with_len (a + 1) (suc n)) ≡ filter p (range_with_len (a + 1) n) ++ cond (p (a + suc n)) ((a + suc n) ∷ []) [] = range-more p (a + 1) n ∙ ap (λ k. filter p (range_with_len (a + 1) n) ++ cond (p k) (k ∷ []) []) e in
    elim (p a) as (λ b. cond b (a ∷ filter p (range_with_len (a + 1) (suc n))) (filter p (range_with_len (a + 1) (suc n))) ≡ cond b (a ∷ filter p (range_with_len (a + 1) n)) (filter p (range_with_len (a + 1) n)) ++ cond (p (a + suc n)) ((a + suc n) ∷ []) []) [ true ↦ ap (λ xs. a ∷ xs) rest | false ↦ rest ]

abbrev test : List (List Literal) → ℕ → Bool
test cs p = occurs (p / 2) cs

listed-more : (cs : List (List Literal)) (n : ℕ) → filter (test cs) (range_with_len 2 (n + 1)) ≡ filter (test cs) (range_with_len 2 n) ++ cond (test cs (n + 2)) ((n + 2) ∷ []) []
listed-more cs n =
    let e : n + 1 ≡ suc n = omega arith in
    let f : 2 + n ≡ n + 2 = omega arith in
    ap (λ k. filter (test cs) (range_with_len 2 k)) e ∙ (range-more (test cs) 2 n ∙ ap (λ k. filter (test cs) (range_with_len 2 n) ++ cond (test cs k) (k ∷ []) []) f)

pub listed-yes : (cs : List (List Literal)) (n : ℕ) (made new : List ℕ) → made ≡ filter (test cs) (range_with_len 2 n) → occurs ((n + 2) / 2) cs ≡ true → new ≡ made ++ (n + 2) ∷ [] → new ≡ filter (test cs) (range_with_len 2 (n + 1))
listed-yes cs n made new e t is = is ∙ (ap (λ xs. xs ++ (n + 2) ∷ []) e ∙ sym (listed-more cs n ∙ ap (λ b. filter (test cs) (range_with_len 2 n) ++ cond b ((n + 2) ∷ []) []) t))

pub listed-no : (cs : List (List Literal)) (n : ℕ) (made : List ℕ) → made ≡ filter (test cs) (range_with_len 2 n) → occurs ((n + 2) / 2) cs ≡ false → made ≡ filter (test cs) (range_with_len 2 (n + 1))
listed-no cs n made e f = e ∙ sym (listed-more cs n ∙ (ap (λ b. filter (test cs) (range_with_len 2 n) ++ cond b ((n + 2) ∷ []) []) f ∙ append-nil (filter (test cs) (range_with_len 2 n))))

-- a variable that occurs is one of the store's
pub occurs-within : (h : Held) (v : ℕ) → IsStore h → occurs v (live_clauses h.slots) ≡ true → (1 ≤ v) × (v ≤ h.vars)
occurs-within h v s t =
    let o = occurs-found v (live_clauses h.slots) t in
    let c : All (IsUpTo h.vars) o.clause = All-contains (All (IsUpTo h.vars)) (live_clauses h.slots) o.clause s.labelled.hard_within o.live in
    let l = All-contains (IsUpTo h.vars) o.clause o.literal c o.has in
    let e = o.variable in
    (omega (arith, e, l.0), omega (arith, e, l.1))

-- its literals are listed
pub listed : (h : Held) (i : ℕ) → IsStore h → occurs (i / 2) (live_clauses h.slots) ≡ true → Contains (filter (λ p. occurs (p / 2) (live_clauses h.slots)) (range_with_len 2 (2 * h.vars))) i
listed h i s t =
    let w = occurs-within h (i / 2) s t in
    let at : get_or (range_with_len 2 (2 * h.vars)) (i - 2) 0 ≡ i = get_or-range_with_len 2 (2 * h.vars) (i - 2) 0 (omega arith) ∙ (omega arith) in
    filter-has (λ p. occurs (p / 2) (live_clauses h.slots)) (range_with_len 2 (2 * h.vars)) i (subst (Contains (range_with_len 2 (2 * h.vars))) at (Contains-get_or (range_with_len 2 (2 * h.vars)) (i - 2) 0 (let many = length-range_with_len 2 (2 * h.vars) in omega (arith, many)))) t

-- how many are listed
listed-many : (cs : List (List Literal)) (n : ℕ) → length (filter (test cs) (range_with_len 2 (2 * n))) ≡ 2 * occurring n cs
listed-many cs zero = refl
listed-many cs (suc n) =
    let F = filter (test cs) (range_with_len 2 (2 * n)) in
    let two : 2 * suc n ≡ suc (suc (2 * n)) = omega arith in
    let first = range-more (test cs) 2 (2 * n) in
    let second = range-more (test cs) 2 (suc (2 * n)) in
    let a : (2 + 2 * n) / 2 ≡ suc n = omega arith in
    let b : (2 + suc (2 * n)) / 2 ≡ suc n = omega arith in
    let step : (xs : List ℕ) (t : Bool) (k : ℕ) → length (xs ++ cond t (k ∷ []) []) ≡ length xs + cond t 1 0 = λ xs (t : Bool) k. elim t as (λ t. length (xs ++ cond t (k ∷ []) []) ≡ length xs + cond t 1 0) [ true ↦ length-append xs (k ∷ []) | false ↦ length-append xs [] ] in
    let G = filter (test cs) (range_with_len 2 (suc (2 * n))) in
    let x : length G ≡ length F + cond (test cs (2 + 2 * n)) 1 0 = ap (λ (xs : List ℕ). length xs) first ∙ step F (test cs (2 + 2 * n)) (2 + 2 * n) in
    let y : length (filter (test cs) (range_with_len 2 (suc (suc (2 * n))))) ≡ length G + cond (test cs (2 + suc (2 * n))) 1 0 = ap (λ (xs : List ℕ). length xs) second ∙ step G (test cs (2 + suc (2 * n))) (2 + suc (2 * n)) in
    let c : cond {A = ℕ} (test cs (2 + 2 * n)) 1 0 ≡ cond {A = ℕ} (occurs (suc n) cs) 1 0 = ap (λ v. cond {A = ℕ} (occurs v cs) 1 0) a in
    let d : cond {A = ℕ} (test cs (2 + suc (2 * n))) 1 0 ≡ cond {A = ℕ} (occurs (suc n) cs) 1 0 = ap (λ v. cond {A = ℕ} (occurs v cs) 1 0) b in
    let z : length (filter (test cs) (range_with_len 2 (2 * suc n))) ≡ length (filter (test cs) (range_with_len 2 (suc (suc (2 * n))))) = ap (λ k. length (filter (test cs) (range_with_len 2 k))) two in
    omega (arith, x, y, z, c, d, listed-many cs n)

pub listed-count : (cs : List (List Literal)) (n : ℕ) → length (filter (λ p. occurs (p / 2) cs) (range_with_len 2 (2 * n))) ≡ 2 * occurring n cs
listed-count cs n = listed-many cs n

-- whether an occurrence list has an id
some-id : (xs : List ℕ) → length xs ≢ 0 → (x : ℕ) × Contains xs x
some-id [] n = absurd (n refl)
some-id (x ∷ xs) n = (x, Contains-first x xs)

no-id : (xs : List ℕ) (x : ℕ) → length xs ≡ 0 → Contains xs x → ⊥
no-id xs x e i = let less = i.1 in omega (arith, e, less)

pub occurs-some : (l : Literal) (slots : List (Option (List Literal))) (xs : List ℕ) → xs ≡ ids_with (place_of l) slots → length xs ≢ 0 → occurs l.variable (live_clauses slots) ≡ true
occurs-some l slots xs e n =
    let id = some-id xs n in
    let w = ((exact-ids l slots).each id.0).0 (subst (λ ys. Contains ys id.0) e id.1) in
    occurs-by l.variable (live_clauses slots) w.0 l (live-at slots id.0 w.0 w.1) w.2 refl

pub occurs-none : (l m : Literal) (slots : List (Option (List Literal))) (xs ys : List ℕ) → m ≡ negation l → xs ≡ ids_with (place_of l) slots → ys ≡ ids_with (place_of m) slots → length xs ≡ 0 → length ys ≡ 0 → occurs l.variable (live_clauses slots) ≡ false
occurs-none l m slots xs ys k e f a b =
    elim (cases_Bool (occurs l.variable (live_clauses slots))) [
      | inr g ↦ g
      | inl t ↦
          let o = occurs-found l.variable (live_clauses slots) t in
          let at = live-id slots o.clause o.live in
          absurd (elim (same_or_negation o.literal l o.variable) [
            | inl s ↦ no-id xs at.0 a (subst (λ zs. Contains zs at.0) (sym e) (((exact-ids l slots).each at.0).1 (o.clause, at.1, subst (Contains o.clause) s o.has)))
            | inr s ↦ no-id ys at.0 b (subst (λ zs. Contains zs at.0) (sym f) (((exact-ids m slots).each at.0).1 (o.clause, at.1, subst (Contains o.clause) (s ∙ sym k) o.has)))
          ])
    ]

-- the literal of a place
pub literal-is : (l : Literal) (item : ℕ) → l.variable ≡ item / 2 → l.negative ≡ (item % 2 == 1) → l ≡ literal_at item
literal-is l item e f =
    let first : l ≡ record { variable = item / 2; negative = l.negative } = ap (λ (v : ℕ). record { variable = v; negative = l.negative }) e in
    first ∙ ap (λ (n : Bool). record { variable = item / 2; negative = n }) f

-- a number past the places of the store's variables
pub occurs-past : (h : Held) (v : ℕ) → IsStore h → ((v ≡ 0) ⊎ (h.vars < v)) → occurs v (live_clauses h.slots) ≡ false
occurs-past h v s out =
    elim (cases_Bool (occurs v (live_clauses h.slots))) [
      | inr f ↦ f
      | inl t ↦ let w = occurs-within h v s t in absurd (elim out [ inl e ↦ omega (arith, e, w.0) | inr b ↦ omega (arith, b, w.1) ])
    ]

-- the answer of a test of both lists
pub does-first : (v : ℕ) (slots : List (Option (List Literal))) (l : Literal) (xs : List ℕ) → l.variable ≡ v → xs ≡ ids_with (place_of l) slots → length xs ≢ 0 → not (length xs == 0) ≡ occurs v (live_clauses slots)
does-first v slots l xs e f n = ap not (ne_eqb (length xs) 0 n) ∙ sym (subst (λ w. occurs w (live_clauses slots) ≡ true) e (occurs-some l slots xs f n))

pub does-second : (v : ℕ) (slots : List (Option (List Literal))) (l m : Literal) (xs ys : List ℕ) → l.variable ≡ v → m ≡ negation l → xs ≡ ids_with (place_of l) slots → ys ≡ ids_with (place_of m) slots → length xs ≡ 0 → not (length ys == 0) ≡ occurs v (live_clauses slots)
does-second v slots l m xs ys e k f g z =
    elim (cases_eq (length ys) 0) [
      | inl y ↦ ap not (eq-eqb (length ys) 0 y) ∙ sym (subst (λ w. occurs w (live_clauses slots) ≡ false) e (occurs-none l m slots xs ys k f g z y))
      | inr n ↦ ap not (ne_eqb (length ys) 0 n) ∙ sym (subst (λ w. occurs w (live_clauses slots) ≡ true) (ap (λ (x : Literal). x.variable) k ∙ e) (occurs-some m slots ys g n))
    ]
