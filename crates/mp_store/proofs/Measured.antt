-- How the measures of a state change with its clauses.
use Rattle.std.proofs.Common.{◌≡◌, ◌⊎◌, ℕ, ◌<◌, ◌≤◌, Bool, true, false, not, cond, List, [], ◌∷◌, zero, suc, refl, ◌∙◌, ap, subst, arith, inl, inr, Contains}
use Rattle.std.specs.Prelude.{◌==◌, ◌||◌}
use Rattle.std.specs.List.{list_any, list_all, count_by}
use Rattle.std.proofs.lemmas.Bool.{cases_eq, eqb-true, eq-eqb, or_cases, or_left, or_right, and_parts, and_from, false≢true}
use Rattle.mp_logic.specs.Literal.{Literal}
use Rattle.mp_logic.specs.declared.instances.Cost.{Cost}
use Rattle.mp_logic.proofs.Members.{Contains-none, Contains-first, Contains-later, Contains-cases, sum_by_le}
use Rattle.mp_clauses.specs.Places.{place_of}
use Rattle.mp_store.specs.Measures.{occurs, occurring, is_covered, uncovered, IsLower}
use Rattle.mp_clauses.proofs.Pricing.{same-place}
use Rattle.mp_clauses.proofs.Found.{any-by, any-found}

-- a variable occurs by a clause and a literal of it
pub record OccursBy (v : ℕ) (cs : List (List Literal)) : Type 0 where
  pub clause : List Literal
  pub live : Contains cs clause
  pub literal : Literal
  pub has : Contains clause literal
  pub variable : literal.variable ≡ v

pub occurs-by : (v : ℕ) (cs : List (List Literal)) (c : List Literal) (k : Literal) → Contains cs c → Contains c k → k.variable ≡ v → occurs v cs ≡ true
occurs-by v cs c k i j e = any-by (λ c. list_any (λ (l : Literal). l.variable == v) c) cs c i (any-by (λ (l : Literal). l.variable == v) c k j (eq-eqb k.variable v e))

pub occurs-found : (v : ℕ) (cs : List (List Literal)) → occurs v cs ≡ true → OccursBy v cs
occurs-found v cs h =
    let w = any-found (λ c. list_any (λ (l : Literal). l.variable == v) c) cs h in
    let k = any-found (λ (l : Literal). l.variable == v) w.0 w.2 in
    record { clause = w.0; live = w.1; literal = k.0; has = k.1; variable = eqb-true k.0.variable v k.2 }

pub all-at : {X : Type 0} (p : X → Bool) (xs : List X) (x : X) → list_all p xs ≡ true → Contains xs x → p x ≡ true
all-at p [] x h m = absurd (Contains-none x m)
all-at p (y ∷ xs) x h m =
    let parts = and_parts (p y) (list_all p xs) h in
    elim (Contains-cases y xs x m) [ inl e ↦ ap p e ∙ parts.0 | inr r ↦ all-at p xs x parts.1 r ]

pub all-by : {X : Type 0} (p : X → Bool) (xs : List X) → ((x : X) → Contains xs x → p x ≡ true) → list_all p xs ≡ true
all-by p [] h = refl
all-by p (y ∷ xs) h = and_from (p y) (list_all p xs) (h y (Contains-first y xs)) (all-by p xs (λ x i. h x (Contains-later y xs x i)))

count_le : (x y : Bool) → (x ≡ true → y ≡ true) → cond x 1 0 ≤ cond y 1 0
count_le true true f = omega arith
count_le true false f = absurd (false≢true (f refl))
count_le false y f = omega arith

counted-true : (b : Bool) → b ≡ true → cond {A = ℕ} b 1 0 ≡ 1
counted-true b e = ap {B = ℕ} (λ x. cond x 1 0) e

counted-false : (b : Bool) → b ≡ false → cond {A = ℕ} b 1 0 ≡ 0
counted-false b e = ap {B = ℕ} (λ x. cond x 1 0) e

pub occurring-le : (n : ℕ) (cs ds : List (List Literal)) → ((v : ℕ) → occurs v ds ≡ true → occurs v cs ≡ true) → occurring n ds ≤ occurring n cs
occurring-le zero cs ds h = omega arith
occurring-le (suc n) cs ds h =
    let rest = occurring-le n cs ds h in
    let own = count_le (occurs (suc n) ds) (occurs (suc n) cs) (h (suc n)) in
    omega arith

pub occurring-lower : (n : ℕ) (cs ds : List (List Literal)) (v : ℕ) → 1 ≤ v → v ≤ n → ((x : ℕ) → occurs x ds ≡ true → occurs x cs ≡ true) → occurs v cs ≡ true → occurs v ds ≡ false → occurring n ds < occurring n cs
occurring-lower zero cs ds v a b h t f = absurd (omega arith)
occurring-lower (suc n) cs ds v a b h t f =
    elim (cases_eq v (suc n)) [
      | inl e ↦
          let rest = occurring-le n cs ds h in
          let x : cond {A = ℕ} (occurs (suc n) cs) 1 0 ≡ 1 = counted-true (occurs (suc n) cs) (subst (λ k. occurs k cs ≡ true) e t) in
          let y : cond {A = ℕ} (occurs (suc n) ds) 1 0 ≡ 0 = counted-false (occurs (suc n) ds) (subst (λ k. occurs k ds ≡ false) e f) in
          omega arith
      | inr o ↦
          let rest = occurring-lower n cs ds v a (omega arith) h t f in
          let own = count_le (occurs (suc n) ds) (occurs (suc n) cs) (h (suc n)) in
          omega arith
    ]

one_le : (x y : Bool) → (y ≡ true → x ≡ true) → cond (not x) 1 0 ≤ cond (not y) 1 0
one_le true y f = omega arith
one_le false true f = absurd (false≢true (f refl))
one_le false false f = omega arith

-- where what was covered stays covered, no more pairs are uncovered
pub uncovered-le : (cs ds : List (List Literal)) (ps : List Cost) → ((p q : Cost) → Contains ps p → Contains ps q → is_covered cs p.lit q.lit ≡ true → is_covered ds p.lit q.lit ≡ true) → uncovered ds ps ≤ uncovered cs ps
uncovered-le cs ds [] h = omega arith
uncovered-le cs ds (p ∷ ps) h =
    let rest = uncovered-le cs ds ps (λ x y i j. h x y (Contains-later p ps x i) (Contains-later p ps y j)) in
    let first : count_by (λ q. not (is_covered ds p.lit q.lit)) ps ≤ count_by (λ q. not (is_covered cs p.lit q.lit)) ps =
    sum_by_le (λ (q : Cost). cond (not (is_covered ds p.lit q.lit)) 1 0) (λ (q : Cost). cond (not (is_covered cs p.lit q.lit)) 1 0) ps (λ q i. one_le (is_covered ds p.lit q.lit) (is_covered cs p.lit q.lit) (h p q (Contains-first p ps) (Contains-later p ps q i))) in
    omega arith

-- the literals of a covering clause are the two
pub covered-only : (a b : Literal) (c : List Literal) → list_all (λ k. (place_of k == place_of a) || (place_of k == place_of b)) c ≡ true → (k : Literal) → Contains c k → (k ≡ a) ⊎ (k ≡ b)
covered-only a b c h k i =
    elim (or_cases (place_of k == place_of a) (place_of k == place_of b) (all-at (λ k. (place_of k == place_of a) || (place_of k == place_of b)) c k h i)) [
      | inl e ↦ inl (same-place k a (eqb-true (place_of k) (place_of a) e))
      | inr e ↦ inr (same-place k b (eqb-true (place_of k) (place_of b) e))
    ]

pub only-covered : (a b : Literal) (c : List Literal) → ((k : Literal) → Contains c k → (k ≡ a) ⊎ (k ≡ b)) → list_all (λ k. (place_of k == place_of a) || (place_of k == place_of b)) c ≡ true
only-covered a b c h =
    all-by (λ k. (place_of k == place_of a) || (place_of k == place_of b)) c (λ k i. elim (h k i) [
      | inl e ↦ or_left (place_of k == place_of a) (place_of k == place_of b) (eq-eqb (place_of k) (place_of a) (ap place_of e))
      | inr e ↦ or_right (place_of k == place_of a) (place_of k == place_of b) (eq-eqb (place_of k) (place_of b) (ap place_of e))
    ])

pub lower-or-same : (x y : ℕ) (xs ys : List ℕ) → x ≤ y → IsLower xs ys → IsLower (x ∷ xs) (y ∷ ys)
lower-or-same x y xs ys h k = elim (cases_eq x y) [ inl e ↦ inr (e, k) | inr n ↦ inl (omega arith) ]
