-- Clauses that propagation settles.
use Rattle.std.proofs.Common.{◌≡◌, ◌≢◌, ℕ, ◌+◌, ◌<◌, ◌≤◌, Bool, true, List, [], ◌∷◌, ◌++◌, length, get_or, take, drop, append_assoc, zero, suc, refl, sym, ◌∙◌, ap, subst, arith, inl, inr, Contains, All}
use Rattle.std.specs.Prelude.{nat_lt}
use Rattle.std.proofs.lemmas.Bool.{cases_eq, cases_lt, and_parts, ltb-true}
use Rattle.std.proofs.lemmas.List.{drop-append-le, drop_all, append-nil, length-append, take-append-drop, drop_more, get_or_read}
use Rattle.std.proofs.lemmas.List.Elements.{Contains-get_or, Contains-append_left, Contains-append_right, Contains-append_cases, Contains-push, Contains-push_cases, All-contains}
use Rattle.mp_logic.specs.Literal.{Literal, negation, IsUpTo}
use Rattle.mp_logic.specs.Normal.{rises}
use Rattle.mp_logic.specs.Truth.{literal_value, IsSatisfied}
use Rattle.mp_logic.specs.Learning.{IsConsistent, IsAtRest, MakesFalse, IsPropagated}
use Rattle.mp_logic.proofs.Literals.{cases_contains, negation-negation, never_both}
use Rattle.mp_logic.proofs.Members.{Contains-none, Contains-one, Contains-cases, satisfied, witness}
use Rattle.mp_clauses.proofs.Steps.{get_or-any}
use Rattle.mp_store.specs.Measures.{occurs}
use Rattle.mp_store.proofs.Measured.{occurs-by}
use Rattle.t_failed.specs.Propagating.{AreUpTo, OthersAreFalse, AreFalseFrom, IsNextOpen, IsSettled, AreSettled, Agrees, IsRefuted, IsExtended}

-- a part of a list
contains-drop : {X : Type 0} (n : ℕ) (xs : List X) (x : X) → Contains (drop n xs) x → Contains xs x
contains-drop n xs x i = let e = take-append-drop n xs in subst (λ ys. Contains ys x) e (Contains-append_right (take n xs) (drop n xs) x i)

pub contains-part : {X : Type 0} (m n : ℕ) (xs : List X) (x : X) → Contains (take m (drop n xs)) x → Contains xs x
contains-part m n xs x i = let e = take-append-drop m (drop n xs) in contains-drop n xs x (subst (λ ys. Contains ys x) e (Contains-append_left (take m (drop n xs)) (drop m (drop n xs)) x i))

drop-less : {X : Type 0} (m n : ℕ) (xs : List X) (x : X) → m ≤ n → Contains (drop n xs) x → Contains (drop m xs) x
drop-less zero n xs x h i = contains-drop n xs x i
drop-less (suc m) zero xs x h i = absurd (omega arith)
drop-less (suc m) (suc n) [] x h i = i
drop-less (suc m) (suc n) (y ∷ xs) x h i = drop-less m n xs x (omega arith) i

-- a list that grows leaves a clause settled
pub settled-grown : (p more : List Literal) (n : ℕ) (c : List Literal) → n ≤ length p → IsSettled p n c → IsSettled (p ++ more) n c
settled-grown p more n c h s =
    let tail : drop n (p ++ more) ≡ drop n p ++ more = drop-append-le n p more h in
    let late : (k : Literal) → Contains c k → Contains more (negation k) → IsSettled (p ++ more) n c = λ k i j. inr (k, i, subst (λ xs. Contains xs (negation k)) (sym tail) (Contains-append_right (drop n p) more (negation k) j)) in
    let fresh : (k : Literal) → (Contains p (negation k) → ⊥) → Contains (p ++ more) (negation k) → Contains more (negation k) = λ k o j. elim (Contains-append_cases p more (negation k) j) [ inl a ↦ absurd (o a) | inr b ↦ b ] in
    elim s [
      | inr w ↦ inr (w.0, w.1, subst (λ xs. Contains xs (negation w.0)) (sym tail) (Contains-append_left (drop n p) more (negation w.0) w.2))
      | inl r ↦ elim r [
        | inl w ↦ inl (inl (w.0, w.1, Contains-append_left p more w.0 w.2))
        | inr w ↦
            let o = w.2 in
            elim (cases_contains (negation w.0) (p ++ more)) [
              | inl j ↦ late w.0 o.first (fresh w.0 o.first_open j)
              | inr a ↦ elim (cases_contains (negation w.1) (p ++ more)) [
                | inl j ↦ late w.1 o.second (fresh w.1 o.second_open j)
                | inr b ↦ inl (inr (w.0, w.1, record { first = o.first; second = o.second; apart = o.apart; first_open = a; second_open = b }))
              ]
            ]
      ]
    ]

pub settled-less : (p : List Literal) (m n : ℕ) (c : List Literal) → m ≤ n → IsSettled p n c → IsSettled p m c
settled-less p m n c h s = elim s [ inl r ↦ inl r | inr w ↦ inr (w.0, w.1, drop-less m n p (negation w.0) h w.2) ]

-- at its end a list leaves settled clauses at rest
pub settled-end : (p : List Literal) (c : List Literal) → IsSettled p (length p) c → IsAtRest p c
settled-end p c s =
    elim s [
      | inl r ↦ r
      | inr w ↦ absurd (Contains-none (negation w.0) (subst (λ xs. Contains xs (negation w.0)) (drop_all (length p) p (omega arith)) w.2))
    ]

pub settled-propagated : (p : List Literal) (cs : List (List Literal)) → IsConsistent p → AreSettled cs p (length p) → IsPropagated p cs
settled-propagated p cs k s = record { consistent = k; at_rest = λ c i. settled-end p c (s c i) }

pub rest-settled : (p : List Literal) (n : ℕ) (c : List Literal) → IsAtRest p c → IsSettled p n c
rest-settled p n c r = inl r

-- the literals of a normal clause differ
rises-above : (n : ℕ) (c : List Literal) (k : Literal) → rises n c ≡ true → Contains c k → n < k.variable
rises-above n [] k h i = absurd (Contains-none k i)
rises-above n (l ∷ c) k h i =
    let parts = and_parts (nat_lt n l.variable) (rises l.variable c) h in
    let low = ltb-true n l.variable parts.0 in
    elim (Contains-cases l c k i) [
      | inl e ↦ subst (λ (x : Literal). n < x.variable) (sym e) low
      | inr j ↦ let high = rises-above l.variable c k parts.1 j in omega (arith, low, high)
    ]

rises-apart : (n : ℕ) (c : List Literal) (i j : ℕ) (d : Literal) → rises n c ≡ true → i < j → j < length c → get_or c i d ≢ get_or c j d
rises-apart n [] i j d h a b e = omega (arith, b)
rises-apart n (l ∷ c) i zero d h a b e = omega (arith, a)
rises-apart n (l ∷ c) zero (suc j) d h a b e =
    let parts = and_parts (nat_lt n l.variable) (rises l.variable c) h in
    let high = rises-above l.variable c (get_or c j d) parts.1 (Contains-get_or c j d (omega arith)) in
    omega (arith, high, ap (λ (x : Literal). x.variable) e)
rises-apart n (l ∷ c) (suc i) (suc j) d h a b e =
    let parts = and_parts (nat_lt n l.variable) (rises l.variable c) h in
    rises-apart l.variable c i j d parts.1 (omega arith) (omega arith) e

-- what a look at a clause finds
pub look-conflict : (p c : List Literal) → AreFalseFrom p c 0 (length c) → MakesFalse p c
look-conflict p c f l i = f i.0 l (omega arith) i.1 i.1 i.2

-- one more false literal
pub false-more : (p c : List Literal) (from i : ℕ) (r : Literal) → i < length c → r ≡ get_or c i r → Contains p (negation r) → AreFalseFrom p c from i → AreFalseFrom p c from (i + 1)
false-more p c from i r inside e m f k l a b d g =
    elim (cases_lt k i) [
      | inl less ↦ f k l a less d g
      | inr more ↦
          let same : k ≡ i = omega arith in
          let read : r ≡ l = get_or_read c i r inside e l ∙ (ap (λ j. get_or c j l) (sym same) ∙ g) in
          subst (λ x. Contains p (negation x)) read m
    ]

pub false-none : (p c : List Literal) (from i : ℕ) → i ≤ from → AreFalseFrom p c from i
false-none p c from i h k l a b d g = absurd (omega arith)

pub false-end : (p c : List Literal) (from i : ℕ) → length c ≤ i → AreFalseFrom p c from i → AreFalseFrom p c from (length c)
false-end p c from i h f k l a b d g = f k l a (omega arith) d g

pub next-found : (p c : List Literal) (from i : ℕ) (r : Literal) → from ≤ i → i < length c → r ≡ get_or c i r → (Contains p (negation r) → ⊥) → AreFalseFrom p c from i → IsNextOpen p c from i
next-found p c from i r h inside e n f = record {
  least = h;
  within = inside;
  before = f;
  not_false = λ l g m. n (subst (λ x. Contains p (negation x)) (sym (get_or_read c i r inside e l ∙ g)) m);
}

-- a literal of the clause that is true
pub look-true : (p c : List Literal) (i : ℕ) (r : Literal) → i < length c → r ≡ get_or c i r → Contains p r → IsAtRest p c
look-true p c i r inside e m = inl (r, (i, inside, sym e), m)

-- two that are not false
pub look-open : (p c : List Literal) (i j : ℕ) (r : Literal) → rises 0 c ≡ true → r ≡ get_or c i r → IsNextOpen p c 0 i → IsNextOpen p c (i + 1) j → IsAtRest p c
look-open p c i j r n e a b =
    let first_in = a.within in
    let second_in = b.within in
    let least = b.least in
    inr (
      r,
      get_or c j r,
      record {
        first = (i, first_in, sym e);
        second = Contains-get_or c j r second_in;
        apart = λ s. rises-apart 0 c i j r n (omega arith) second_in (sym e ∙ s);
        first_open = a.not_false r (sym e);
        second_open = b.not_false (get_or c j r) (get_or-any c j (get_or c j r) r second_in);
      },
    )

-- one that is not false
pub look-unit : (p c : List Literal) (i : ℕ) (r : Literal) → r ≡ get_or c i r → IsNextOpen p c 0 i → AreFalseFrom p c (i + 1) (length c) → (Contains p r → ⊥) → Contains c r × (Contains p r → ⊥) × (Contains p (negation r) → ⊥) × OthersAreFalse p c r
look-unit p c i r e a f n = (
  (i, a.within, sym e),
  n,
  a.not_false r (sym e),
  λ k m. elim (cases_lt m.0 i) [
    | inl less ↦ inr (a.before m.0 k (omega arith) less m.1 m.2)
    | inr more ↦ elim (cases_eq m.0 i) [
      | inl same ↦ inl (sym (get_or_read c i r a.within e k ∙ (ap (λ j. get_or c j k) (sym same) ∙ m.2)))
      | inr other ↦ inr (f m.0 k (omega arith) m.1 m.1 m.2)
    ]
  ],
)

-- what a model that agrees with a list makes of a clause
false-here : (cs : List (List Literal)) (a : List Bool) (p c : List Literal) (k : Literal) → Agrees cs a p → Contains cs c → Contains c k → Contains p (negation k) → literal_value a k ≡ true → ⊥
false-here cs a p c k g i m j t =
    let o = occurs-by k.variable cs c k i m refl in
    never_both a k (negation k) (g (negation k) j o) t (sym (negation-negation k))

pub conflict-refutes : (cs : List (List Literal)) (p c : List Literal) → Contains cs c → MakesFalse p c → IsRefuted cs p
conflict-refutes cs p c i f a m g =
    let w = witness a c (satisfied a cs c m i) in
    false-here cs a p c w.0 g i w.1 (f w.0 w.1) w.2

unit-forced : (cs : List (List Literal)) (p c : List Literal) (l : Literal) → Contains cs c → OthersAreFalse p c l → (a : List Bool) → IsSatisfied a cs → Agrees cs a p → literal_value a l ≡ true
unit-forced cs p c l i f a m g =
    let w = witness a c (satisfied a cs c m i) in
    elim (f w.0 w.1) [
      | inl e ↦ subst (λ x. literal_value a x ≡ true) e w.2
      | inr j ↦ absurd (false-here cs a p c w.0 g i w.1 j w.2)
    ]

-- how lists grow
pub extended-none : (vars : ℕ) (cs : List (List Literal)) (p : List Literal) → IsExtended vars cs p p
extended-none vars cs p = record { more = []; is = sym (append-nil p); within = λ u. u; occur = λ l i. absurd (Contains-none l i); forced = λ a m g. g }

pub extended-one : (vars : ℕ) (cs : List (List Literal)) (p new c : List Literal) (l : Literal) → Contains cs c → All (IsUpTo vars) c → Contains c l → OthersAreFalse p c l → new ≡ p ++ l ∷ [] → IsExtended vars cs p new
extended-one vars cs p new c l i up m f e =
    let o = occurs-by l.variable cs c l i m refl in
    record {
      more = l ∷ [];
      is = e;
      within = λ u. subst (AreUpTo vars) (sym e) (λ k j. elim (Contains-push_cases p l k j) [ inl a ↦ u k a | inr s ↦ subst (IsUpTo vars) s (All-contains (IsUpTo vars) c l up m) ]);
      occur = λ k j. subst (λ (x : Literal). occurs x.variable cs ≡ true) (sym (Contains-one l k j)) o;
      forced = λ a s g. subst (Agrees cs a) (sym e) (λ k j o. elim (Contains-push_cases p l k j) [
        | inl b ↦ g k b o
        | inr t ↦ subst (λ x. literal_value a x ≡ true) t (unit-forced cs p c l i f a s g)
      ]);
    }

pub extended-then : (vars : ℕ) (cs : List (List Literal)) (p q r : List Literal) → IsExtended vars cs p q → IsExtended vars cs q r → IsExtended vars cs p r
extended-then vars cs p q r f g = record {
  more = f.more ++ g.more;
  is = g.is ∙ (ap (λ xs. xs ++ g.more) f.is ∙ append_assoc p f.more g.more);
  within = λ u. g.within (f.within u);
  occur = λ l i. elim (Contains-append_cases f.more g.more l i) [ inl a ↦ f.occur l a | inr b ↦ g.occur l b ];
  forced = λ a m s. g.forced a m (f.forced a m s);
}

pub extended-longer : (vars : ℕ) (cs : List (List Literal)) (p q : List Literal) → IsExtended vars cs p q → length p ≤ length q
extended-longer vars cs p q f = let e : length q ≡ length p + length f.more = ap (λ (xs : List Literal). length xs) f.is ∙ length-append p f.more in omega (arith, e)

pub extended-settled : (vars : ℕ) (cs : List (List Literal)) (p q : List Literal) (n : ℕ) (c : List Literal) → n ≤ length p → IsExtended vars cs p q → IsSettled p n c → IsSettled q n c
extended-settled vars cs p q n c h f s = subst (λ x. IsSettled x n c) (sym f.is) (settled-grown p f.more n c h s)

pub refuted-before : (vars : ℕ) (cs : List (List Literal)) (p q : List Literal) → IsExtended vars cs p q → IsRefuted cs q → IsRefuted cs p
refuted-before vars cs p q f r a m g = r a m (f.forced a m g)

-- a literal that was put last makes a clause at rest
pub unit-settled : (p new c : List Literal) (l : Literal) → Contains c l → new ≡ p ++ l ∷ [] → IsSettled new (length p) c
unit-settled p new c l m e = inl (inl (l, m, subst (λ xs. Contains xs l) (sym e) (Contains-push p l)))

-- a step of propagation: the literal at the head was followed
pub step-settled : (vars : ℕ) (cs : List (List Literal)) (p q : List Literal) (n : ℕ) (l : Literal) → n < length p → get_or p n l ≡ l → AreSettled cs p n → IsExtended vars cs p q → ((c : List Literal) → Contains cs c → Contains c (negation l) → IsSettled q (length p) c) → AreSettled cs q (n + 1)
step-settled vars cs p q n l h at s f v c i =
    let head : drop n p ≡ l ∷ drop (n + 1) p = drop_more p n l h ∙ ap (λ x. x ∷ drop (n + 1) p) at in
    elim (s c i) [
      | inl r ↦ extended-settled vars cs p q (n + 1) c (omega arith) f (inl r)
      | inr w ↦ elim (Contains-cases l (drop (n + 1) p) (negation w.0) (subst (λ xs. Contains xs (negation w.0)) head w.2)) [
        | inl e ↦
            let own : Contains c (negation l) = subst (Contains c) (sym (negation-negation w.0) ∙ ap negation e) w.1 in
            settled-less q (n + 1) (length p) c (omega arith) (v c i own)
        | inr j ↦ extended-settled vars cs p q (n + 1) c (omega arith) f (inr (w.0, w.1, j))
      ]
    ]
