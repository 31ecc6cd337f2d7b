-- The variables that occur, as candidates.
use Rattle.std.proofs.Common.{◌≡◌, ◌⊎◌, ℕ, ◌+◌, ◌-◌, ◌<◌, ◌≤◌, Bool, true, false, cond, List, [], ◌∷◌, ◌++◌, length, get_or, zero, suc, refl, sym, ◌∙◌, ap, subst, arith, inl, inr, Contains}
use Rattle.std.specs.Prelude.{nat_le}
use Rattle.std.specs.List.{filter, range_with_len}
use Rattle.std.proofs.lemmas.Bool.{cases_Bool, leb-true, leb-false, ne_eqb}
use Rattle.std.proofs.lemmas.List.{length-append, append-nil}
use Rattle.std.proofs.lemmas.List.Elements.{Contains-get_or}
use Rattle.std.proofs.lemmas.List.FromFn.{length-range_with_len, get_or-range_with_len}
use Rattle.mp_logic.specs.Literal.{Literal}
use Rattle.mp_logic.specs.Keeping.{State}
use Rattle.mp_logic.proofs.Members.{Contains-none, Contains-cases}
use Rattle.mp_clauses.specs.Places.{is_in, no_repeats}
use Rattle.mp_store.specs.Measures.{occurs, occurring}
use Rattle.mp_store.proofs.Fixes.{filter-from, filter-has}
use Rattle.t_elim.specs.Eliminating.{occurring_variables}

-- numbers of a range that pass a test are different
range-low : (p : ℕ → Bool) (a n k : ℕ) → k < a → is_in k (filter p (range_with_len a n)) ≡ false
range-low p a zero k h = refl
range-low p a (suc n) k h =
    let rest = range-low p (a + 1) n k (omega arith) in
    elim (p a) as (λ b. is_in k (cond b (a ∷ filter p (range_with_len (a + 1) n)) (filter p (range_with_len (a + 1) n))) ≡ false) [ true ↦ rw (ne_eqb a k (λ e. omega arith), rest) refl | false ↦ rest ]

range-once : (p : ℕ → Bool) (a n : ℕ) → no_repeats (filter p (range_with_len a n)) ≡ true
range-once p a zero = refl
range-once p a (suc n) =
    let rest = range-once p (a + 1) n in
    let own = range-low p (a + 1) n a (omega arith) in
    elim (p a) as (λ b. no_repeats (cond b (a ∷ filter p (range_with_len (a + 1) n)) (filter p (range_with_len (a + 1) n))) ≡ true) [ true ↦ rw (own, rest) refl | false ↦ rest ]

-- a longer range has one number more
range-more : (p : ℕ → Bool) (a n : ℕ) → filter p (range_with_len a (suc n)) ≡ filter p (range_with_len a n) ++ cond (p (a + n)) ((a + n) ∷ []) []
range-more p a zero = let e : a + 0 ≡ a = omega arith in rw e refl
range-more p a (suc n) =
    let e : a + 1 + n ≡ a + suc n = omega arith in
    let rest : filter p (range_with_len (a + 1) (suc n)) ≡ filter p (range_with_len (a + 1) n) ++ cond (p (a + suc n)) ((a + suc n) ∷ []) [] = range-more p (a + 1) n ∙ ap (λ k. filter p (range_with_len (a + 1) n) ++ cond (p k) (k ∷ []) []) e in
    elim (p a) as (λ b. cond b (a ∷ filter p (range_with_len (a + 1) (suc n))) (filter p (range_with_len (a + 1) (suc n))) ≡ cond b (a ∷ filter p (range_with_len (a + 1) n)) (filter p (range_with_len (a + 1) n)) ++ cond (p (a + suc n)) ((a + suc n) ∷ []) []) [ true ↦ ap (λ xs. a ∷ xs) rest | false ↦ rest ]

listed-more : (cs : List (List Literal)) (n : ℕ) → filter (λ v. occurs v cs) (range_with_len 1 (n + 1)) ≡ filter (λ v. occurs v cs) (range_with_len 1 n) ++ cond (occurs (n + 1) cs) ((n + 1) ∷ []) []
listed-more cs n =
    let e : n + 1 ≡ suc n = omega arith in
    let f : 1 + n ≡ n + 1 = omega arith in
    ap (λ k. filter (λ v. occurs v cs) (range_with_len 1 k)) e ∙ (range-more (λ v. occurs v cs) 1 n ∙ ap (λ k. filter (λ v. occurs v cs) (range_with_len 1 n) ++ cond (occurs k cs) (k ∷ []) []) f)

pub listed-yes : (cs : List (List Literal)) (n : ℕ) (made new : List ℕ) → made ≡ filter (λ v. occurs v cs) (range_with_len 1 n) → occurs (n + 1) cs ≡ true → new ≡ made ++ (n + 1) ∷ [] → new ≡ filter (λ v. occurs v cs) (range_with_len 1 (n + 1))
listed-yes cs n made new e t is = is ∙ (ap (λ xs. xs ++ (n + 1) ∷ []) e ∙ sym (listed-more cs n ∙ ap (λ b. filter (λ v. occurs v cs) (range_with_len 1 n) ++ cond b ((n + 1) ∷ []) []) t))

pub listed-no : (cs : List (List Literal)) (n : ℕ) (made : List ℕ) → made ≡ filter (λ v. occurs v cs) (range_with_len 1 n) → occurs (n + 1) cs ≡ false → made ≡ filter (λ v. occurs v cs) (range_with_len 1 (n + 1))
listed-no cs n made e f = e ∙ sym (listed-more cs n ∙ (ap (λ b. filter (λ v. occurs v cs) (range_with_len 1 n) ++ cond b ((n + 1) ∷ []) []) f ∙ append-nil (filter (λ v. occurs v cs) (range_with_len 1 n))))

-- which variables are listed
pub listed : (s : State) (v : ℕ) → 1 ≤ v → v ≤ s.vars → occurs v s.hard ≡ true → Contains (occurring_variables s) v
listed s v a b o =
    let at : get_or (range_with_len 1 s.vars) (v - 1) 0 ≡ v = get_or-range_with_len 1 s.vars (v - 1) 0 (omega arith) ∙ (omega arith) in
    filter-has (λ v. occurs v s.hard) (range_with_len 1 s.vars) v (subst (Contains (range_with_len 1 s.vars)) at (Contains-get_or (range_with_len 1 s.vars) (v - 1) 0 (let many = length-range_with_len 1 s.vars in omega (arith, many)))) o

pub range-low-of : (a n k : ℕ) → Contains (range_with_len a n) k → (a ≤ k) × (k < a + n)
range-low-of a zero k m = absurd (Contains-none k m)
range-low-of a (suc n) k m = elim (Contains-cases a (range_with_len (a + 1) n) k m) [ inl e ↦ (omega arith, omega arith) | inr r ↦ let w = range-low-of (a + 1) n k r in (omega (arith, w.0), omega (arith, w.1)) ]

pub listed-up : (s : State) (v : ℕ) → Contains (occurring_variables s) v → (1 ≤ v) × (v ≤ s.vars)
listed-up s v m = let w = range-low-of 1 s.vars v (filter-from (λ v. occurs v s.hard) (range_with_len 1 s.vars) v m).0 in (w.0, omega (arith, w.1))

pub listed-once : (s : State) → no_repeats (occurring_variables s) ≡ true
listed-once s = range-once (λ v. occurs v s.hard) 1 s.vars

-- how many are listed
listed-many : (cs : List (List Literal)) (n : ℕ) → length (filter (λ v. occurs v cs) (range_with_len 1 n)) ≡ occurring n cs
listed-many cs zero = refl
listed-many cs (suc n) =
    let more = range-more (λ v. occurs v cs) 1 n in
    let f : 1 + n ≡ suc n = omega arith in
    let F = filter (λ v. occurs v cs) (range_with_len 1 n) in
    let step : (b : Bool) → length (F ++ cond b ((1 + n) ∷ []) []) ≡ cond b 1 0 + length F = λ (t : Bool). elim t as (λ b. length (F ++ cond b ((1 + n) ∷ []) []) ≡ cond b 1 0 + length F) [ true ↦ omega (arith, length-append F ((1 + n) ∷ [])) | false ↦ omega (arith, length-append F []) ] in
    let own : length (filter (λ v. occurs v cs) (range_with_len 1 (suc n))) ≡ cond (occurs (1 + n) cs) 1 0 + length F = ap (λ (xs : List ℕ). length xs) more ∙ step (occurs (1 + n) cs) in
    let same : cond {A = ℕ} (occurs (1 + n) cs) 1 0 ≡ cond (occurs (suc n) cs) 1 0 = ap (λ k. cond {A = ℕ} (occurs k cs) 1 0) f in
    omega (arith, own, same, listed-many cs n)

pub listed-count : (s : State) → length (occurring_variables s) ≡ occurring s.vars s.hard
listed-count s = listed-many s.hard s.vars

-- a number is a variable of so many, or not
pub within-or : (v n : ℕ) → ((1 ≤ v) × (v ≤ n)) ⊎ (1 ≤ v → v ≤ n → ⊥)
within-or v n =
    elim (cases_Bool (nat_le 1 v)) [
      | inr f ↦ inr (λ a b. omega (arith, a, leb-false 1 v f))
      | inl t ↦ elim (cases_Bool (nat_le v n)) [
        | inr g ↦ inr (λ a b. omega (arith, b, leb-false v n g))
        | inl u ↦ inl (leb-true 1 v t, leb-true v n u)
      ]
    ]
