-- Two normal clauses that clash on one variable alone have one normal resolvent.
use Rattle.std.proofs.Common.{◌≡◌, ◌≢◌, ◌⊎◌, ℕ, ◌<◌, ◌≤◌, Bool, true, false, not, cond, List, [], ◌∷◌, ◌++◌, refl, sym, ◌∙◌, ap, subst, arith, inl, inr, Contains, All, IsTrue}
use Rattle.std.specs.Prelude.{◌==◌, nat_lt}
use Rattle.std.specs.List.{filter}
use Rattle.std.proofs.lemmas.Bool.{cases_lt, cases_eq, eqb-true, eq-eqb, ne_eqb, and_parts, and_from, ltb-true, lt-ltb, true≢false, not-true}
use Rattle.std.proofs.lemmas.List.Elements.{All-contains, Contains-append_cases, Contains-append_left, Contains-append_right}
use Rattle.mp_logic.specs.Literal.{Literal, negation, IsUpTo}
use Rattle.mp_logic.specs.Normal.{rises}
use Rattle.mp_logic.specs.Eliminating.{IsResolvent}
use Rattle.mp_logic.proofs.Members.{Contains-none, Contains-first, Contains-later, Contains-cases, All-from_contained}
use Rattle.mp_logic.proofs.Literals.{same_or_negation}
use Rattle.mp_logic.proofs.Rising.{rising_is_normal}
use Rattle.mp_store.specs.Clashing.{clash_beside}
use Rattle.mp_store.proofs.Fixes.{filter-from, filter-has}
use Rattle.mp_store.proofs.Clashes.{clash-by}
use Rattle.t_elim.specs.Resolving.{below, from, past, merged, resolvent}

-- what is split is all there was
below-in : (v : ℕ) (d : List Literal) (k : Literal) → Contains (below v d) k → Contains d k
below-in v [] k h = absurd (Contains-none k h)
below-in v (b ∷ d) k h =
    let step : (t : Bool) → Contains (cond t (b ∷ below v d) []) k → Contains (b ∷ d) k =
    λ (t : Bool). elim t as (λ t. Contains (cond t (b ∷ below v d) []) k → Contains (b ∷ d) k) [
      | true ↦ λ h. elim (Contains-cases b (below v d) k h) [ inl e ↦ subst (Contains (b ∷ d)) (sym e) (Contains-first b d) | inr r ↦ Contains-later b d k (below-in v d k r) ]
      | false ↦ λ h. absurd (Contains-none k h)
    ] in
    step (nat_lt b.variable v) h

from-in : (v : ℕ) (d : List Literal) (k : Literal) → Contains (from v d) k → Contains d k
from-in v [] k h = h
from-in v (b ∷ d) k h =
    let step : (t : Bool) → Contains (cond t (from v d) (b ∷ d)) k → Contains (b ∷ d) k =
    λ (t : Bool). elim t as (λ t. Contains (cond t (from v d) (b ∷ d)) k → Contains (b ∷ d) k) [ true ↦ λ h. Contains-later b d k (from-in v d k h) | false ↦ λ h. h ] in
    step (nat_lt b.variable v) h

past-in : (v : ℕ) (d : List Literal) (k : Literal) → Contains (past v d) k → Contains d k
past-in v [] k h = h
past-in v (b ∷ d) k h =
    let step : (t : Bool) → Contains (cond t d (b ∷ d)) k → Contains (b ∷ d) k =
    λ (t : Bool). elim t as (λ t. Contains (cond t d (b ∷ d)) k → Contains (b ∷ d) k) [ true ↦ λ h. Contains-later b d k h | false ↦ λ h. h ] in
    step (b.variable == v) h

below-or-from : (v : ℕ) (d : List Literal) (k : Literal) → Contains d k → Contains (below v d) k ⊎ Contains (from v d) k
below-or-from v [] k h = inr h
below-or-from v (b ∷ d) k h =
    let step : (t : Bool) → Contains (cond t (b ∷ below v d) []) k ⊎ Contains (cond t (from v d) (b ∷ d)) k =
    λ (t : Bool). elim t as (λ t. Contains (cond t (b ∷ below v d) []) k ⊎ Contains (cond t (from v d) (b ∷ d)) k) [
      | true ↦ elim (Contains-cases b d k h) [
        | inl e ↦ inl (subst (Contains (b ∷ below v d)) (sym e) (Contains-first b (below v d)))
        | inr r ↦ elim (below-or-from v d k r) [ inl x ↦ inl (Contains-later b (below v d) k x) | inr y ↦ inr y ]
      ]
      | false ↦ inr h
    ] in
    step (nat_lt b.variable v)

past-or-same : (v : ℕ) (d : List Literal) (k : Literal) → Contains d k → Contains (past v d) k ⊎ (k.variable ≡ v)
past-or-same v [] k h = inl h
past-or-same v (b ∷ d) k h =
    let step : (t : Bool) → (b.variable == v) ≡ t → Contains (cond t d (b ∷ d)) k ⊎ (k.variable ≡ v) =
    λ (t : Bool). elim t as (λ t. (b.variable == v) ≡ t → Contains (cond t d (b ∷ d)) k ⊎ (k.variable ≡ v)) [
      | true ↦ λ e. elim (Contains-cases b d k h) [ inl s ↦ inr (ap (λ (x : Literal). x.variable) s ∙ eqb-true b.variable v e) | inr r ↦ inl r ]
      | false ↦ λ e. inl h
    ] in
    step (b.variable == v) refl

-- what two clauses have together
pub merged-in : (c d : List Literal) (k : Literal) → Contains (merged c d) k → Contains c k ⊎ Contains d k
merged-in [] d k h = inr h
merged-in (a ∷ c) d k h =
    let rest = past a.variable (from a.variable d) in
    elim (Contains-append_cases (below a.variable d) (a ∷ merged c rest) k h) [
      | inl x ↦ inr (below-in a.variable d k x)
      | inr y ↦ elim (Contains-cases a (merged c rest) k y) [
        | inl e ↦ inl (subst (Contains (a ∷ c)) (sym e) (Contains-first a c))
        | inr r ↦ elim (merged-in c rest k r) [ inl z ↦ inl (Contains-later a c k z) | inr w ↦ inr (from-in a.variable d k (past-in a.variable (from a.variable d) k w)) ]
      ]
    ]

pub in-merged-left : (c d : List Literal) (k : Literal) → Contains c k → Contains (merged c d) k
in-merged-left [] d k h = absurd (Contains-none k h)
in-merged-left (a ∷ c) d k h =
    let rest = past a.variable (from a.variable d) in
    Contains-append_right (below a.variable d) (a ∷ merged c rest) k (elim (Contains-cases a c k h) [
      | inl e ↦ subst (Contains (a ∷ merged c rest)) (sym e) (Contains-first a (merged c rest))
      | inr r ↦ Contains-later a (merged c rest) k (in-merged-left c rest k r)
    ])

pub in-merged-right : (c d : List Literal) (k : Literal) → Contains d k → Contains (merged c d) k ⊎ ((a : Literal) × Contains c a × (k.variable ≡ a.variable))
in-merged-right [] d k h = inl h
in-merged-right (a ∷ c) d k h =
    let rest = past a.variable (from a.variable d) in
    elim (below-or-from a.variable d k h) [
      | inl x ↦ inl (Contains-append_left (below a.variable d) (a ∷ merged c rest) k x)
      | inr y ↦ elim (past-or-same a.variable (from a.variable d) k y) [
        | inr e ↦ inr (a, Contains-first a c, e)
        | inl r ↦ elim (in-merged-right c rest k r) [
          | inl z ↦ inl (Contains-append_right (below a.variable d) (a ∷ merged c rest) k (Contains-later a (merged c rest) k z))
          | inr w ↦ inr (w.0, Contains-later a c w.0 w.1, w.2)
        ]
      ]
    ]

-- variables keep rising
rises-more : (n m : ℕ) (c : List Literal) → n ≤ m → rises m c ≡ true → rises n c ≡ true
rises-more n m [] h r = refl
rises-more n m (a ∷ c) h r =
    let parts = and_parts (nat_lt m a.variable) (rises a.variable c) r in
    let more = ltb-true m a.variable parts.0 in
    and_from (nat_lt n a.variable) (rises a.variable c) (lt-ltb n a.variable (omega arith)) parts.1

below-rises : (n v : ℕ) (d rest : List Literal) (a : Literal) → a.variable ≡ v → n < v → rises n d ≡ true → rises v rest ≡ true → rises n (below v d ++ a ∷ rest) ≡ true
below-rises n v [] rest a e h r s = and_from (nat_lt n a.variable) (rises a.variable rest) (lt-ltb n a.variable (omega arith)) (subst (λ x. rises x rest ≡ true) (sym e) s)
below-rises n v (b ∷ d) rest a e h r s =
    let parts = and_parts (nat_lt n b.variable) (rises b.variable d) r in
    let step : (t : Bool) → nat_lt b.variable v ≡ t → rises n (cond t (b ∷ below v d) [] ++ a ∷ rest) ≡ true =
    λ (t : Bool). elim t as (λ t. nat_lt b.variable v ≡ t → rises n (cond t (b ∷ below v d) [] ++ a ∷ rest) ≡ true) [
      | true ↦ λ f. and_from (nat_lt n b.variable) (rises b.variable (below v d ++ a ∷ rest)) parts.0 (below-rises b.variable v d rest a e (ltb-true b.variable v f) parts.1 s)
      | false ↦ λ f. and_from (nat_lt n a.variable) (rises a.variable rest) (lt-ltb n a.variable (omega arith)) (subst (λ x. rises x rest ≡ true) (sym e) s)
    ] in
    step (nat_lt b.variable v) refl

past-rises : (n v : ℕ) (d : List Literal) → rises n d ≡ true → rises v (past v (from v d)) ≡ true
past-rises n v [] r = refl
past-rises n v (b ∷ d) r =
    let parts = and_parts (nat_lt n b.variable) (rises b.variable d) r in
    let last : (t : Bool) → (b.variable == v) ≡ t → (b.variable < v → ⊥) → rises v (cond t d (b ∷ d)) ≡ true =
    λ (t : Bool). elim t as (λ t. (b.variable == v) ≡ t → (b.variable < v → ⊥) → rises v (cond t d (b ∷ d)) ≡ true) [
      | true ↦ λ e f. subst (λ x. rises x d ≡ true) (eqb-true b.variable v e) parts.1
      | false ↦ λ e f.
          let other : b.variable ≢ v = λ g. true≢false (sym (eq-eqb b.variable v g) ∙ e) in
          let above : v < b.variable = elim (cases_lt v b.variable) [ inl l ↦ l | inr m ↦ absurd (elim (cases_eq b.variable v) [ inl g ↦ other g | inr g ↦ f (omega arith) ]) ] in
          and_from (nat_lt v b.variable) (rises b.variable d) (lt-ltb v b.variable above) parts.1
    ] in
    let step : (t : Bool) → nat_lt b.variable v ≡ t → rises v (past v (cond t (from v d) (b ∷ d))) ≡ true =
    λ (t : Bool). elim t as (λ t. nat_lt b.variable v ≡ t → rises v (past v (cond t (from v d) (b ∷ d))) ≡ true) [
      | true ↦ λ f. past-rises b.variable v d parts.1
      | false ↦ λ f. last (b.variable == v) refl (λ l. true≢false (sym (lt-ltb b.variable v l) ∙ f))
    ] in
    step (nat_lt b.variable v) refl

pub merged-rises : (n : ℕ) (c d : List Literal) → rises n c ≡ true → rises n d ≡ true → rises n (merged c d) ≡ true
merged-rises n [] d r s = s
merged-rises n (a ∷ c) d r s =
    let parts = and_parts (nat_lt n a.variable) (rises a.variable c) r in
    let rest = past a.variable (from a.variable d) in
    below-rises n a.variable d (merged c rest) a refl (ltb-true n a.variable parts.0) s (merged-rises a.variable c rest parts.1 (past-rises n a.variable d s))

filter-rises : (p : Literal → Bool) (n : ℕ) (c : List Literal) → rises n c ≡ true → rises n (filter p c) ≡ true
filter-rises p n [] r = refl
filter-rises p n (a ∷ c) r =
    let parts = and_parts (nat_lt n a.variable) (rises a.variable c) r in
    let rest = filter-rises p a.variable c parts.1 in
    let up = ltb-true n a.variable parts.0 in
    elim (p a) as (λ t. rises n (cond t (a ∷ filter p c) (filter p c)) ≡ true) [
      | true ↦ and_from (nat_lt n a.variable) (rises a.variable (filter p c)) parts.0 rest
      | false ↦ rises-more n a.variable (filter p c) (omega arith) rest
    ]

pub resolvent-normal : (v : ℕ) (c d : List Literal) → IsTrue (rises 0 c) → IsTrue (rises 0 d) → IsTrue (rises 0 (resolvent v c d))
resolvent-normal v c d r s = filter-rises (λ (l : Literal). not (l.variable == v)) 0 (merged c d) (merged-rises 0 c d r s)

-- what the resolvent has
pub resolvent-only : (v : ℕ) (c d : List Literal) (k : Literal) → Contains (resolvent v c d) k → (k.variable ≢ v) × (Contains c k ⊎ Contains d k)
resolvent-only v c d k h =
    let w = filter-from (λ (l : Literal). not (l.variable == v)) (merged c d) k h in
    (λ e. true≢false (sym (eq-eqb k.variable v e) ∙ not-true (k.variable == v) w.1), merged-in c d k w.0)

kept-other : (v : ℕ) (c d : List Literal) (k : Literal) → k.variable ≢ v → Contains (merged c d) k → Contains (resolvent v c d) k
kept-other v c d k n m = filter-has (λ (l : Literal). not (l.variable == v)) (merged c d) k m (ap not (ne_eqb k.variable v n))

-- a normal clause has one literal of a variable
pub one-literal-of : (c : List Literal) (l k : Literal) → ((j : Literal) → Contains c j → 1 ≤ j.variable) → IsTrue (rises 0 c) → Contains c l → Contains c k → k.variable ≡ l.variable → k ≡ l
one-literal-of c l k vs normal own other e =
    elim (same_or_negation k l e) [ inl s ↦ s | inr n ↦ absurd ((rising_is_normal c vs).1 normal (l, own, subst (Contains c) n other)) ]

pub resolvent-is : (x : Literal) (c d : List Literal) → ((j : Literal) → Contains c j → 1 ≤ j.variable) → ((j : Literal) → Contains d j → 1 ≤ j.variable) → IsTrue (rises 0 c) → IsTrue (rises 0 d)
    → Contains c x → Contains d (negation x) → clash_beside x.variable c d ≡ false → IsResolvent x c d (resolvent x.variable c d)
resolvent-is x c d vc vd normal_c normal_d own against apart = record {
  left = λ k i. elim (cases_eq k.variable x.variable) [
    | inl e ↦ inr (one-literal-of c x k vc normal_c own i e)
    | inr n ↦ inl (kept-other x.variable c d k n (in-merged-left c d k i))
  ];
  right = λ k i. elim (cases_eq k.variable x.variable) [
    | inl e ↦ inr (one-literal-of d (negation x) k vd normal_d against i e)
    | inr n ↦ elim (in-merged-right c d k i) [
      | inl m ↦ inl (kept-other x.variable c d k n m)
      | inr w ↦ elim (same_or_negation k w.0 w.2) [
        | inl s ↦ inl (kept-other x.variable c d k n (in-merged-left c d k (subst (Contains c) (sym s) w.1)))
        | inr s ↦
            let far : w.0.variable ≢ x.variable = λ e. n (w.2 ∙ e) in
            absurd (true≢false (sym (clash-by x.variable c d w.0 far w.1 (subst (Contains d) s i)) ∙ apart))
      ]
    ]
  ];
  only = λ k m. resolvent-only x.variable c d k m;
}

pub resolvent-within : (n v : ℕ) (c d : List Literal) → All (IsUpTo n) c → All (IsUpTo n) d → All (IsUpTo n) (resolvent v c d)
resolvent-within n v c d a b = All-from_contained (IsUpTo n) (resolvent v c d) (λ k m. elim (resolvent-only v c d k m).1 [ inl i ↦ All-contains (IsUpTo n) c k a i | inr i ↦ All-contains (IsUpTo n) d k b i ])
