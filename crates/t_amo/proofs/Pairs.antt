-- How many pairs of labels pass a test, as weights fall: tables of weights side by side.
use Rattle.std.proofs.Common.{◌≡◌, ◌≢◌, ℕ, ◌+◌, ◌-◌, ◌≤◌, Bool, true, false, cond, List, [], ◌∷◌, length, get_or, suc, refl, sym, ◌∙◌, ap, arith, inl, inr}
use Rattle.std.specs.Prelude.{◌==◌}
use Rattle.std.specs.List.{count_by}
use Rattle.std.proofs.lemmas.Bool.{cases_Bool, cases_eq, ne_eqb, true≢false}
use Rattle.std.proofs.lemmas.List.Sums.{sum_by-cons}
use Rattle.mp_logic.specs.Literal.{Literal}
use Rattle.mp_logic.specs.declared.instances.Cost.{Cost}
use Rattle.mp_clauses.specs.Places.{literal_at}
use Rattle.mp_clauses.specs.Weighing.{costs_from}
use Rattle.t_amo.specs.Labels.{pairs_of}

abbrev count : (Literal → Bool) → List Cost → ℕ
count P cs = count_by (λ (q : Cost). P q.lit) cs

-- the table has these weights from a place on
abbrev IsTable : ℕ → List ℕ → (ℕ → ℕ) → Type 0
IsTable i ws A = (k : ℕ) → get_or ws k 0 ≡ A (i + k)

table-rest : (i w : ℕ) (ws : List ℕ) (A : ℕ → ℕ) → IsTable i (w ∷ ws) A → IsTable (i + 1) ws A
table-rest i w ws A h k = let n : i + suc k ≡ i + 1 + k = omega arith in h (suc k) ∙ ap A n

table-first : (i w : ℕ) (ws : List ℕ) (A : ℕ → ℕ) → IsTable i (w ∷ ws) A → w ≡ A i
table-first i w ws A h = let n : i + 0 ≡ i = omega arith in h 0 ∙ ap A n

table-none : (i q : ℕ) (A : ℕ → ℕ) → IsTable i [] A → i ≤ q → A q ≡ 0
table-none i q A h le = let n : i + (q - i) ≡ q = omega arith in sym (h (q - i) ∙ ap A n)

-- what the first place of a table adds
count-cons : (P : Literal → Bool) (i w : ℕ) (ws : List ℕ) → count P (costs_from i (w ∷ ws)) ≡ cond (w == 0) 0 (cond (P (literal_at i)) 1 0) + count P (costs_from (i + 1) ws)
count-cons P i w ws =
    let c : Cost = record { lit = literal_at i; weight = w } in
    let cs = costs_from (i + 1) ws in
    elim (w == 0) as (λ b. count P (cond b cs (c ∷ cs)) ≡ cond b 0 (cond (P (literal_at i)) 1 0) + count P cs) [
      | true ↦ omega arith
      | false ↦ sum_by-cons (λ (q : Cost). cond {A = ℕ} (P q.lit) 1 0) c cs
    ]

pairs-cons : (R : Literal → Literal → Bool) (i w : ℕ) (ws : List ℕ) → pairs_of R (costs_from i (w ∷ ws)) ≡ cond (w == 0) 0 (count (R (literal_at i)) (costs_from (i + 1) ws)) + pairs_of R (costs_from (i + 1) ws)
pairs-cons R i w ws =
    let c : Cost = record { lit = literal_at i; weight = w } in
    let cs = costs_from (i + 1) ws in
    elim (w == 0) as (λ b. pairs_of R (cond b cs (c ∷ cs)) ≡ cond b 0 (count (R (literal_at i)) cs) + pairs_of R cs) [ true ↦ omega arith | false ↦ refl ]

count-false : (cs : List Cost) → count (λ k. false) cs ≡ 0
count-false [] = refl
count-false (c ∷ cs) = omega (arith, count-false cs, sum_by-cons (λ (q : Cost). 0) c cs)

tick_le : (v w : ℕ) (a b : Bool) → (v ≢ 0 → a ≡ true → (w ≢ 0) × (b ≡ true)) → cond {A = ℕ} (v == 0) 0 (cond a 1 0) ≤ cond {A = ℕ} (w == 0) 0 (cond b 1 0)
tick_le v w a b h =
    elim (cases_eq v 0) [
      | inl e ↦ rw e (omega arith)
      | inr n ↦ elim (cases_Bool a) [
        | inl t ↦ let g = h n t in rw (t, ne_eqb v 0 n, ne_eqb w 0 g.0, g.1) (omega arith)
        | inr f ↦ rw (f, ne_eqb v 0 n) (omega arith)
      ]
    ]

-- what is counted stays or falls
count_le : (P Q : Literal → Bool) (A B : ℕ → ℕ) (i : ℕ) (vs ws : List ℕ) → IsTable i vs A → IsTable i ws B → length vs ≡ length ws → ((q : ℕ) → A q ≢ 0 → P (literal_at q) ≡ true → (B q ≢ 0) × (Q (literal_at q) ≡ true)) → count P (costs_from i vs) ≤ count Q (costs_from i ws)
count_le P Q A B i [] [] s t len h = omega arith
count_le P Q A B i [] (w ∷ ws) s t len h = absurd (omega (arith, len))
count_le P Q A B i (v ∷ vs) [] s t len h = absurd (omega (arith, len))
count_le P Q A B i (v ∷ vs) (w ∷ ws) s t len h =
    let rest = count_le P Q A B (i + 1) vs ws (table-rest i v vs A s) (table-rest i w ws B t) (omega (arith, len)) h in
    let a = table-first i v vs A s in
    let b = table-first i w ws B t in
    let first = tick_le v w (P (literal_at i)) (Q (literal_at i)) (λ n e. let g = h i (λ z. n (a ∙ z)) e in (λ z. g.0 (sym b ∙ z), g.1)) in
    omega (arith, rest, first, count-cons P i v vs, count-cons Q i w ws)

count-less : (P Q : Literal → Bool) (A B : ℕ → ℕ) (i : ℕ) (vs ws : List ℕ) (q : ℕ) → IsTable i vs A → IsTable i ws B → length vs ≡ length ws → ((q : ℕ) → A q ≢ 0 → P (literal_at q) ≡ true → (B q ≢ 0) × (Q (literal_at q) ≡ true))
    → i ≤ q → B q ≢ 0 → Q (literal_at q) ≡ true → (A q ≢ 0 → P (literal_at q) ≡ true → ⊥) → count P (costs_from i vs) + 1 ≤ count Q (costs_from i ws)
count-less P Q A B i [] [] q s t len h le n e lost = absurd (n (table-none i q B t le))
count-less P Q A B i [] (w ∷ ws) q s t len h le n e lost = absurd (omega (arith, len))
count-less P Q A B i (v ∷ vs) [] q s t len h le n e lost = absurd (omega (arith, len))
count-less P Q A B i (v ∷ vs) (w ∷ ws) q s t len h le n e lost =
    let a = table-first i v vs A s in
    let b = table-first i w ws B t in
    let short : length vs ≡ length ws = omega (arith, len) in
    let f = count-cons P i v vs in
    let g = count-cons Q i w ws in
    elim (cases_eq q i) [
      | inl o ↦
          let rest = count_le P Q A B (i + 1) vs ws (table-rest i v vs A s) (table-rest i w ws B t) short h in
          let none : cond {A = ℕ} (v == 0) 0 (cond (P (literal_at i)) 1 0) ≡ 0 = elim (cases_eq v 0) [
            | inl z ↦ rw z refl
            | inr m ↦ elim (cases_Bool (P (literal_at i))) [
              | inl y ↦ absurd (lost (λ z. m (a ∙ (ap A (sym o) ∙ z))) (ap (λ k. P (literal_at k)) o ∙ y))
              | inr y ↦ rw (y, ne_eqb v 0 m) refl
            ]
          ] in
          let one : cond {A = ℕ} (w == 0) 0 (cond (Q (literal_at i)) 1 0) ≡ 1 = (let y : Q (literal_at i) ≡ true = ap (λ k. Q (literal_at k)) (sym o) ∙ e in rw (ne_eqb w 0 (λ z. n (ap B o ∙ (sym b ∙ z))), y) refl) in
          omega (arith, rest, none, one, f, g)
      | inr m ↦
          let rest = count-less P Q A B (i + 1) vs ws q (table-rest i v vs A s) (table-rest i w ws B t) short h (omega (arith, le, m)) n e lost in
          let first = tick_le v w (P (literal_at i)) (Q (literal_at i)) (λ n e. let g = h i (λ z. n (a ∙ z)) e in (λ z. g.0 (sym b ∙ z), g.1)) in
          omega (arith, rest, first, f, g)
    ]

count-some : (Q : Literal → Bool) (B : ℕ → ℕ) (i : ℕ) (ws : List ℕ) (q : ℕ) → IsTable i ws B → i ≤ q → B q ≢ 0 → Q (literal_at q) ≡ true → 1 ≤ count Q (costs_from i ws)
count-some Q B i ws q t le n e =
    let more = count-less (λ k. false) Q B B i ws ws q t t refl (λ q m f. absurd (true≢false (sym f))) le n e (λ m f. true≢false (sym f)) in
    omega (arith, more)

head_le : (v w m n : ℕ) → (v ≢ 0 → w ≢ 0 → m ≤ n) → (v ≢ 0 → w ≡ 0 → m ≡ 0) → cond {A = ℕ} (v == 0) 0 m ≤ cond {A = ℕ} (w == 0) 0 n
head_le v w m n f g =
    elim (cases_eq v 0) [
      | inl e ↦ rw e (omega arith)
      | inr o ↦ elim (cases_eq w 0) [
        | inl e ↦ let z = g o e in rw (ne_eqb v 0 o, z) (omega arith)
        | inr p ↦ let le = f o p in rw (ne_eqb v 0 o, ne_eqb w 0 p) le
      ]
    ]

-- a pair that passes the test then was one that passed it before
abbrev pub AreOld : (R S : Literal → Literal → Bool) (A B : ℕ → ℕ) → Type 0
AreOld R S A B = (p q : ℕ) → A p ≢ 0 → A q ≢ 0 → R (literal_at p) (literal_at q) ≡ true → (B p ≢ 0) × (B q ≢ 0) × (S (literal_at p) (literal_at q) ≡ true)

first_le : (R S : Literal → Literal → Bool) (A B : ℕ → ℕ) (i v w : ℕ) (vs ws : List ℕ) → IsTable i (v ∷ vs) A → IsTable i (w ∷ ws) B → length vs ≡ length ws → AreOld R S A B
    → cond {A = ℕ} (v == 0) 0 (count (R (literal_at i)) (costs_from (i + 1) vs)) ≤ cond {A = ℕ} (w == 0) 0 (count (S (literal_at i)) (costs_from (i + 1) ws))
first_le R S A B i v w vs ws s t len h =
    let a = table-first i v vs A s in
    let b = table-first i w ws B t in
    head_le v w (count (R (literal_at i)) (costs_from (i + 1) vs)) (count (S (literal_at i)) (costs_from (i + 1) ws))
    (λ n o. count_le (R (literal_at i)) (S (literal_at i)) A B (i + 1) vs ws (table-rest i v vs A s) (table-rest i w ws B t) len (λ q m e. let g = h i q (λ z. n (a ∙ z)) m e in (g.1, g.2)))
    (λ n o.
    let none = count_le (R (literal_at i)) (λ k. false) A B (i + 1) vs ws (table-rest i v vs A s) (table-rest i w ws B t) len (λ q m e. let g = h i q (λ z. n (a ∙ z)) m e in absurd (g.0 (sym b ∙ o))) in
    omega (arith, none, count-false (costs_from (i + 1) ws)))

pairs_le : (R S : Literal → Literal → Bool) (A B : ℕ → ℕ) (i : ℕ) (vs ws : List ℕ) → IsTable i vs A → IsTable i ws B → length vs ≡ length ws → AreOld R S A B → pairs_of R (costs_from i vs) ≤ pairs_of S (costs_from i ws)
pairs_le R S A B i [] [] s t len h = omega arith
pairs_le R S A B i [] (w ∷ ws) s t len h = absurd (omega (arith, len))
pairs_le R S A B i (v ∷ vs) [] s t len h = absurd (omega (arith, len))
pairs_le R S A B i (v ∷ vs) (w ∷ ws) s t len h =
    let short : length vs ≡ length ws = omega (arith, len) in
    let rest = pairs_le R S A B (i + 1) vs ws (table-rest i v vs A s) (table-rest i w ws B t) short h in
    omega (arith, rest, first_le R S A B i v w vs ws s t short h, pairs-cons R i v vs, pairs-cons S i w ws)

-- the weight of p is used up, and it was in a pair with q
pub record IsLost (S : Literal → Literal → Bool) (A B : ℕ → ℕ) (p q : ℕ) : Type 0 where
  pub other : p ≢ q
  pub used : A p ≡ 0
  pub had_p : B p ≢ 0
  pub had_q : B q ≢ 0
  pub pair : S (literal_at p) (literal_at q) ≡ true
  pub back : S (literal_at q) (literal_at p) ≡ true

pub pairs-less : (R S : Literal → Literal → Bool) (A B : ℕ → ℕ) (i : ℕ) (vs ws : List ℕ) (p q : ℕ) → IsTable i vs A → IsTable i ws B → length vs ≡ length ws → AreOld R S A B → IsLost S A B p q → i ≤ p → i ≤ q
    → pairs_of R (costs_from i vs) + 1 ≤ pairs_of S (costs_from i ws)
pairs-less R S A B i [] [] p q s t len h lost le ge = absurd (lost.had_p (table-none i p B t le))
pairs-less R S A B i [] (w ∷ ws) p q s t len h lost le ge = absurd (omega (arith, len))
pairs-less R S A B i (v ∷ vs) [] p q s t len h lost le ge = absurd (omega (arith, len))
pairs-less R S A B i (v ∷ vs) (w ∷ ws) p q s t len h lost le ge =
    let short : length vs ≡ length ws = omega (arith, len) in
    let a = table-first i v vs A s in
    let b = table-first i w ws B t in
    let s1 = table-rest i v vs A s in
    let t1 = table-rest i w ws B t in
    let f = pairs-cons R i v vs in
    let g = pairs-cons S i w ws in
    let apart = lost.other in
    elim (cases_eq p i) [
      | inl o ↦
          let rest = pairs_le R S A B (i + 1) vs ws s1 t1 short h in
          let none : v ≡ 0 = a ∙ (ap A (sym o) ∙ lost.used) in
          let some : w ≢ 0 = λ z. lost.had_p (ap B o ∙ (sym b ∙ z)) in
          let pair : S (literal_at i) (literal_at q) ≡ true = ap (λ k. S (literal_at k) (literal_at q)) (sym o) ∙ lost.pair in
          let one = count-some (S (literal_at i)) B (i + 1) ws q t1 (omega (arith, ge, o, apart)) lost.had_q pair in
          let here : cond {A = ℕ} (v == 0) 0 (count (R (literal_at i)) (costs_from (i + 1) vs)) ≡ 0 = rw none refl in
          let there : cond {A = ℕ} (w == 0) 0 (count (S (literal_at i)) (costs_from (i + 1) ws)) ≡ count (S (literal_at i)) (costs_from (i + 1) ws) = rw (ne_eqb w 0 some) refl in
          omega (arith, rest, one, here, there, f, g)
      | inr m ↦ elim (cases_eq q i) [
        | inl o ↦
            let rest = pairs_le R S A B (i + 1) vs ws s1 t1 short h in
            let some : w ≢ 0 = λ z. lost.had_q (ap B o ∙ (sym b ∙ z)) in
            let pair : S (literal_at i) (literal_at p) ≡ true = ap (λ k. S (literal_at k) (literal_at p)) (sym o) ∙ lost.back in
            let there : cond {A = ℕ} (w == 0) 0 (count (S (literal_at i)) (costs_from (i + 1) ws)) ≡ count (S (literal_at i)) (costs_from (i + 1) ws) = rw (ne_eqb w 0 some) refl in
            elim (cases_eq v 0) [
              | inl z ↦
                  let one = count-some (S (literal_at i)) B (i + 1) ws p t1 (omega (arith, le, m)) lost.had_p pair in
                  let here : cond {A = ℕ} (v == 0) 0 (count (R (literal_at i)) (costs_from (i + 1) vs)) ≡ 0 = rw z refl in
                  omega (arith, rest, one, here, there, f, g)
              | inr n ↦
                  let less = count-less (R (literal_at i)) (S (literal_at i)) A B (i + 1) vs ws p s1 t1 short (λ k c e. let x = h i k (λ z. n (a ∙ z)) c e in (x.1, x.2)) (omega (arith, le, m)) lost.had_p pair (λ c e. c lost.used) in
                  let here : cond {A = ℕ} (v == 0) 0 (count (R (literal_at i)) (costs_from (i + 1) vs)) ≡ count (R (literal_at i)) (costs_from (i + 1) vs) = rw (ne_eqb v 0 n) refl in
                  omega (arith, rest, less, here, there, f, g)
            ]
        | inr n ↦
            let rest = pairs-less R S A B (i + 1) vs ws p q s1 t1 short h lost (omega (arith, le, m)) (omega (arith, ge, n)) in
            omega (arith, rest, first_le R S A B i v w vs ws s t short h, f, g)
      ]
    ]
