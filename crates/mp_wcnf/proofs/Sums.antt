-- What one clause more adds to an instance.
use Rattle.std.proofs.Common.{◌≡◌, ◌≤◌, ℕ, Bool, true, false, List, [], ◌∷◌, ◌++◌, ◌+◌, length, Option, Some, None, refl, ap, ◌∙◌, arith, length-append}
use Rattle.std.specs.Prelude.{nat_lt}
use Rattle.std.specs.List.{sum_by}
use Rattle.std.proofs.lemmas.List.Sums.{sum_by-append, fold-append}
use Rattle.std.proofs.lemmas.Grind.{flat_map-append}
use Rattle.std.proofs.lemmas.Bool.{ltb-true}
use Rattle.mp_logic.specs.Literal.{Literal}
use Rattle.mp_logic.specs.Formula.{Formula}
use Rattle.mp_logic.specs.Truth.{weights_of}
use Rattle.mp_logic.specs.declared.instances.Soft.{Soft}
use Rattle.mp_wcnf.specs.Grammar.{Header, Item}
use Rattle.mp_wcnf.specs.Meaning.{max_of, widest, size_of, vars_of, hard_of, soft_of, formula_of}
use Rattle.mp_wcnf.specs.Refusals.{clauses_in, literals_in}

abbrev pub item : Option ℕ → List Literal → Item
item w ls = record { weight = w; lits = ls }

-- what a clause adds to the weights
abbrev pub paid : Option ℕ → ℕ
paid None = 0
paid (Some w) = w

pub hard_more : (h : Option Header) (items : List Item) (w : Option ℕ) (ls : List Literal)
    → (formula_of h (items ++ item w ls ∷ [])).hard ≡ (formula_of h items).hard ++ hard_of (item w ls) w
hard_more h items None ls = flat_map-append (λ (i : Item). hard_of i i.weight) items (item None ls ∷ [])
hard_more h items (Some w) ls = flat_map-append (λ (i : Item). hard_of i i.weight) items (item (Some w) ls ∷ [])

pub soft_more : (h : Option Header) (items : List Item) (w : Option ℕ) (ls : List Literal)
    → (formula_of h (items ++ item w ls ∷ [])).soft ≡ (formula_of h items).soft ++ soft_of (item w ls) w
soft_more h items None ls = flat_map-append (λ (i : Item). soft_of i i.weight) items (item None ls ∷ [])
soft_more h items (Some w) ls = flat_map-append (λ (i : Item). soft_of i i.weight) items (item (Some w) ls ∷ [])

one_of_them : (w : Option ℕ) (ls : List Literal) → length (hard_of (item w ls) w) + length (soft_of (item w ls) w) ≡ 1
one_of_them None ls = refl
one_of_them (Some w) ls = refl

own_weight : (w : Option ℕ) (ls : List Literal) → weights_of (soft_of (item w ls) w) ≡ paid w
own_weight None ls = refl
own_weight (Some w) ls = omega arith

own_literals : (w : Option ℕ) (ls : List Literal)
    → sum_by (λ (c : List Literal). length c) (hard_of (item w ls) w) + sum_by (λ (s : Soft). length s.clause) (soft_of (item w ls) w) ≡ length ls
own_literals None ls = omega arith
own_literals (Some w) ls = omega arith

pub clauses_more : (h : Option Header) (items : List Item) (w : Option ℕ) (ls : List Literal)
    → clauses_in (formula_of h (items ++ item w ls ∷ [])) ≡ clauses_in (formula_of h items) + 1
clauses_more h items w ls =
    let f : Formula = formula_of h items in
    let hard = ap (λ (v : List (List Literal)). length v) (hard_more h items w ls) ∙ length-append f.hard (hard_of (item w ls) w) in
    let soft = ap (λ (v : List Soft). length v) (soft_more h items w ls) ∙ length-append f.soft (soft_of (item w ls) w) in
    omega (arith, hard, soft, one_of_them w ls)

pub weights_more : (h : Option Header) (items : List Item) (w : Option ℕ) (ls : List Literal)
    → weights_of (formula_of h (items ++ item w ls ∷ [])).soft ≡ weights_of (formula_of h items).soft + paid w
weights_more h items w ls =
    let f : Formula = formula_of h items in
    ap weights_of (soft_more h items w ls) ∙ sum_by-append (λ (s : Soft). s.weight) f.soft (soft_of (item w ls) w) ∙ ap (λ n. weights_of f.soft + n) (own_weight w ls)

pub literals_more : (h : Option Header) (items : List Item) (w : Option ℕ) (ls : List Literal)
    → literals_in (formula_of h (items ++ item w ls ∷ [])) ≡ literals_in (formula_of h items) + length ls
literals_more h items w ls =
    let f : Formula = formula_of h items in
    let i : Item = item w ls in
    let hard = ap (λ v. sum_by (λ (c : List Literal). length c) v) (hard_more h items w ls) ∙ sum_by-append (λ (c : List Literal). length c) f.hard (hard_of i w) in
    let soft = ap (λ v. sum_by (λ (s : Soft). length s.clause) v) (soft_more h items w ls) ∙ sum_by-append (λ (s : Soft). length s.clause) f.soft (soft_of i w) in
    omega (arith, hard, soft, own_literals w ls)

pub vars_more : (h : Option Header) (items : List Item) (w : Option ℕ) (ls : List Literal) → vars_of h (items ++ item w ls ∷ []) ≡ widest (vars_of h items) ls
vars_more h items w ls = fold-append (λ m (i : Item). widest m i.lits) (size_of h) items (item w ls ∷ [])

pub widest_more : (n : ℕ) (ls : List Literal) (l : Literal) → widest n (ls ++ l ∷ []) ≡ max_of (widest n ls) l.variable
widest_more n ls l = fold-append (λ n (k : Literal). max_of n k.variable) n ls (l ∷ [])

pub max_least : (a b : ℕ) → a ≤ max_of a b
max_least a b =
    let step : (t : Bool) → nat_lt a b ≡ t → a ≤ max_of a b =
    λ (t : Bool). elim t as (λ t. nat_lt a b ≡ t → a ≤ max_of a b) [
      | true ↦ λ e. rw e (omega (arith, ltb-true a b e))
      | false ↦ λ e. rw e (omega arith)
    ] in
    step (nat_lt a b) refl

pub widest_least : (n : ℕ) (ls : List Literal) → n ≤ widest n ls
widest_least n [] = omega arith
widest_least n (l ∷ ls) = omega (arith, max_least n l.variable, widest_least (max_of n l.variable) ls)
