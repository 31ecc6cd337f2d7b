-- Where each variable occurs, the number of variables is the greatest one.
use Rattle.std.proofs.Common.{◌≡◌, ◌≤◌, ℕ, Bool, true, false, cond, List, [], ◌∷◌, All, Contains, fold, refl, ap, arith, inl, inr}
use Rattle.std.specs.Prelude.{nat_lt}
use Rattle.std.proofs.lemmas.Bool.{ltb-true, ltb-false, cases_lt}
use Rattle.std.proofs.lemmas.List.Elements.{All-head, All-tail}
use Rattle.mp_logic.specs.Literal.{Literal, IsUpTo}
use Rattle.mp_logic.specs.Formula.{Formula, IsFormula}
use Rattle.mp_logic.specs.declared.instances.Soft.{Soft}
use Rattle.mp_logic.proofs.Members.{Contains-none, Contains-cases}
use Rattle.mp_wcnf.specs.Meaning.{max_of, widest}
use Rattle.mp_wcnf.specs.Writing.{IsTight, greatest_variable}
use Rattle.mp_labels.specs.UnitForm.{Occurs}

record Greater (a b m : ℕ) : Type 0 where
  first : a ≤ m
  second : b ≤ m
  most : (v : ℕ) → a ≤ v → b ≤ v → m ≤ v

greater : (a b : ℕ) → Greater a b (max_of a b)
greater a b =
    let step : (t : Bool) → nat_lt a b ≡ t → Greater a b (cond t b a) =
    λ (t : Bool). elim t as (λ t. nat_lt a b ≡ t → Greater a b (cond t b a)) [
      | true ↦ λ e. record { first = let l = ltb-true a b e in omega (arith, l); second = omega arith; most = λ v p q. q }
      | false ↦ λ e. record { first = omega arith; second = ltb-false a b e; most = λ v p q. p }
    ] in
    step (nat_lt a b) refl

widest_least : (n : ℕ) (c : List Literal) → n ≤ widest n c
widest_least n [] = omega arith
widest_least n (l ∷ c) = let more = widest_least (max_of n l.variable) c in omega (arith, more, (greater n l.variable).first)

widest_has : (n : ℕ) (c : List Literal) (l : Literal) → Contains c l → l.variable ≤ widest n c
widest_has n [] l i = absurd (Contains-none l i)
widest_has n (k ∷ c) l i =
    elim (Contains-cases k c l i) [
      | inl e ↦
          let v = ap (λ (x : Literal). x.variable) e in
          let more = widest_least (max_of n k.variable) c in
          omega (arith, v, more, (greater n k.variable).second)
      | inr j ↦ widest_has (max_of n k.variable) c l j
    ]

widest_most : (n v : ℕ) (c : List Literal) → n ≤ v → All (IsUpTo v) c → widest n c ≤ v
widest_most n v [] h a = h
widest_most n v (l ∷ c) h a =
    let here = All-head (IsUpTo v) l c a in
    widest_most (max_of n l.variable) v c ((greater n l.variable).most v h here.1) (All-tail (IsUpTo v) l c a)

-- the same over lists of things that have a clause
abbrev widest_of : {X : Type 0} → (X → List Literal) → ℕ → List X → ℕ
widest_of g n xs = fold (λ m x. widest m (g x)) n xs

all_least : {X : Type 0} (g : X → List Literal) (n : ℕ) (xs : List X) → n ≤ widest_of g n xs
all_least g n [] = omega arith
all_least g n (x ∷ xs) = let more = all_least g (widest n (g x)) xs in omega (arith, more, widest_least n (g x))

all_has : {X : Type 0} (g : X → List Literal) (n : ℕ) (xs : List X) (x : X) (l : Literal) → Contains xs x → Contains (g x) l → l.variable ≤ widest_of g n xs
all_has g n [] x l i j = absurd (Contains-none x i)
all_has g n (y ∷ xs) x l i j =
    elim (Contains-cases y xs x i) [
      | inl e ↦
          let here = widest_has n (g x) l j in
          let same = ap (λ z. widest n (g z)) e in
          let more = all_least g (widest n (g y)) xs in
          omega (arith, here, same, more)
      | inr k ↦ all_has g (widest n (g y)) xs x l k j
    ]

all_most : {X : Type 0} (g : X → List Literal) (n v : ℕ) (xs : List X) → n ≤ v → All (λ x. All (IsUpTo v) (g x)) xs → widest_of g n xs ≤ v
all_most g n v [] h a = h
all_most g n v (x ∷ xs) h a = all_most g (widest n (g x)) v xs (widest_most n v (g x) h (All-head (λ x. All (IsUpTo v) (g x)) x xs a)) (All-tail (λ x. All (IsUpTo v) (g x)) x xs a)

abbrev hards_widest : Formula → ℕ
hards_widest f = widest_of (λ (c : List Literal). c) 0 f.hard

occurring_within : (f : Formula) (v : ℕ) → Occurs f v → v ≤ greatest_variable f
occurring_within f v o =
    elim o [
      | inl h ↦
          let here = all_has (λ (c : List Literal). c) 0 f.hard h.0 h.2.0 h.1 h.2.1 in
          let more = all_least (λ (s : Soft). s.clause) (hards_widest f) f.soft in
          omega (arith, here, more, h.2.2)
      | inr h ↦
          let here = all_has (λ (s : Soft). s.clause) (hards_widest f) f.soft h.0 h.2.0 h.1 h.2.1 in
          omega (arith, here, h.2.2)
    ]

pub tight : (f : Formula) → IsFormula f.vars f.hard f.soft → ((v : ℕ) → 1 ≤ v → v ≤ f.vars → Occurs f v) → IsTight f
tight f ok each =
    let most = all_most (λ (s : Soft). s.clause) (hards_widest f) f.vars f.soft (all_most (λ (c : List Literal). c) 0 f.vars f.hard (omega arith) ok.hard_within) ok.soft_within in
    elim (cases_lt 0 f.vars) [
      | inl some ↦ let least = occurring_within f f.vars (each f.vars some (omega arith)) in omega (arith, most, least)
      | inr none ↦ omega (arith, most, none)
    ]
