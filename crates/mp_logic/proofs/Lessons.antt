-- What a clause that a conflict teaches says of models and of the clauses before it.
use Rattle.std.proofs.Common.{◌≡◌, ◌<◌, ◌≤◌, ℕ, zero, suc, Bool, true, List, [], ◌∷◌, ◌++◌, take, length, get_or, Contains, ap, sym, ◌∙◌, subst, arith, inl, inr, cond}
use Rattle.std.proofs.lemmas.Bool.{true≢false, cases_Bool}
use Rattle.std.proofs.Math.Seq.{take-suc}
use Rattle.std.proofs.lemmas.List.{take_all}
use Rattle.std.proofs.lemmas.List.Elements.{Contains-append_left, Contains-append_right, Contains-append_cases, Contains-push_cases}
use Rattle.mp_logic.specs.Literal.{Literal, negation}
use Rattle.mp_logic.specs.Truth.{literal_value, clause_value, IsSatisfied}
use Rattle.mp_logic.specs.Sets.{Among, Implies}
use Rattle.mp_logic.specs.Learning.{IsPropagated, IsRup, IsEmpowering, AreLessons, LessonsAreImplied, LessonsAreNew}
use Rattle.mp_logic.proofs.Literals.{negation_true, negation_false}
use Rattle.mp_logic.proofs.Members.{Contains-none, Contains-first, Contains-later, Contains-cases, satisfied, witness, false_in, IsSatisfied-from}

-- of a literal and its negation the one that an assignment makes true
abbrev true_one : List Bool → Literal → Literal
true_one a l = cond (literal_value a l) l (negation l)

abbrev true_ones : List Bool → List Literal → List Literal
true_ones a [] = []
true_ones a (l ∷ c) = true_one a l ∷ true_ones a c

abbrev all_true : List Bool → List (List Literal) → List Literal
all_true a [] = []
all_true a (c ∷ cs) = true_ones a c ++ all_true a cs

true_one-true : (a : List Bool) (l : Literal) → literal_value a (true_one a l) ≡ true
true_one-true a l =
    elim (cases_Bool (literal_value a l)) [
      | inl t ↦ let e : true_one a l ≡ l = ap (λ b. cond b l (negation l)) t in ap (literal_value a) e ∙ t
      | inr f ↦ let e : true_one a l ≡ negation l = ap (λ b. cond b l (negation l)) f in ap (literal_value a) e ∙ negation_true a l f
    ]

true_ones-true : (a : List Bool) (c : List Literal) (k : Literal) → Contains (true_ones a c) k → literal_value a k ≡ true
true_ones-true a [] k i = absurd (Contains-none k i)
true_ones-true a (l ∷ c) k i = elim (Contains-cases (true_one a l) (true_ones a c) k i) [ inl e ↦ ap (literal_value a) e ∙ true_one-true a l | inr j ↦ true_ones-true a c k j ]

all_true-true : (a : List Bool) (cs : List (List Literal)) (k : Literal) → Contains (all_true a cs) k → literal_value a k ≡ true
all_true-true a [] k i = absurd (Contains-none k i)
all_true-true a (c ∷ cs) k i = elim (Contains-append_cases (true_ones a c) (all_true a cs) k i) [ inl j ↦ true_ones-true a c k j | inr j ↦ all_true-true a cs k j ]

true_ones-has : (a : List Bool) (c : List Literal) (l : Literal) → Contains c l → Contains (true_ones a c) (true_one a l)
true_ones-has a [] l i = absurd (Contains-none l i)
true_ones-has a (k ∷ c) l i =
    elim (Contains-cases k c l i) [
      | inl e ↦ subst (λ x. Contains (true_one a k ∷ true_ones a c) (true_one a x)) (sym e) (Contains-first (true_one a k) (true_ones a c))
      | inr j ↦ Contains-later (true_one a k) (true_ones a c) (true_one a l) (true_ones-has a c l j)
    ]

all_true-has : (a : List Bool) (cs : List (List Literal)) (c : List Literal) (l : Literal) → Contains cs c → Contains c l → Contains (all_true a cs) (true_one a l)
all_true-has a [] c l i j = absurd (Contains-none c i)
all_true-has a (d ∷ cs) c l i j =
    elim (Contains-cases d cs c i) [
      | inl e ↦ Contains-append_left (true_ones a d) (all_true a cs) (true_one a l) (subst (λ x. Contains (true_ones a x) (true_one a l)) e (true_ones-has a c l j))
      | inr k ↦ Contains-append_right (true_ones a d) (all_true a cs) (true_one a l) (all_true-has a cs c l k j)
    ]

-- what a model makes true is propagated
all_true-propagated : (a : List Bool) (c : List Literal) (cs : List (List Literal)) → IsSatisfied a cs → IsPropagated (all_true a (c ∷ cs)) cs
all_true-propagated a c cs m = record {
  consistent = λ l i j. true≢false (sym (all_true-true a (c ∷ cs) (negation l) j) ∙ negation_false a l (all_true-true a (c ∷ cs) l i));
  at_rest = λ d i.
      let w = witness a d (satisfied a cs d m i) in
      let e : true_one a w.0 ≡ w.0 = ap (λ b. cond b w.0 (negation w.0)) w.2 in
      inl (w.0, w.1, subst (λ x. Contains (all_true a (c ∷ cs)) x) e (all_true-has a (c ∷ cs) d w.0 (Contains-later c cs d i) w.1));
}

-- a clause that propagation refutes is implied
pub rup_implied : (cs : List (List Literal)) (c : List Literal) → IsRup cs c → Implies cs c
rup_implied cs c r a m =
    elim (cases_Bool (clause_value a c)) [
      | inl t ↦ t
      | inr f ↦ absurd (r (all_true a (c ∷ cs)) (all_true-propagated a c cs m) (λ l i.
          let e : true_one a l ≡ negation l = ap (λ b. cond b l (negation l)) (false_in a c l f i) in
          subst (λ x. Contains (all_true a (c ∷ cs)) x) e (all_true-has a (c ∷ cs) c l (Contains-first c cs) i)))
    ]

-- a clause that empowers contains none of the clauses
pub empowering_new : (cs : List (List Literal)) (c d : List Literal) → IsEmpowering cs c → Contains cs d → Among d c → ⊥
empowering_new cs c d e i s =
    let u = e.0 in
    let p = e.1 in
    let o = e.2 in
    let own : (l : Literal) → Contains d l → (Contains p (negation l) → ⊥) → l ≡ u = λ l j n. elim (o.others l (s l j)) [ inl t ↦ t | inr f ↦ absurd (n f) ] in
    elim (o.propagated.at_rest d i) [
      | inl t ↦
          let same = own t.0 t.1 (λ n. o.propagated.consistent t.0 t.2 n) in
          o.not_true (subst (λ x. Contains p x) same t.2)
      | inr t ↦ t.2.apart (own t.0 t.2.first t.2.first_open ∙ sym (own t.1 t.2.second t.2.second_open))
    ]

lessons-front : (hard ls : List (List Literal)) → AreLessons hard ls → (a : List Bool) → IsSatisfied a hard → (n : ℕ) → n ≤ length ls → IsSatisfied a (hard ++ take n ls)
lessons-front hard ls h a m zero l = IsSatisfied-from a (hard ++ []) (λ c i. elim (Contains-append_cases hard [] c i) [ inl j ↦ satisfied a hard c m j | inr j ↦ absurd (Contains-none c j) ])
lessons-front hard ls h a m (suc n) l =
    let less : n < length ls = omega arith in
    let front = lessons-front hard ls h a m n (omega arith) in
    let e : take (suc n) ls ≡ take n ls ++ get_or ls n [] ∷ [] = take-suc ls n [] less in
    let here = rup_implied (hard ++ take n ls) (get_or ls n []) (h n less).rup a front in
    IsSatisfied-from a (hard ++ take (suc n) ls) (λ c i.
    elim (Contains-append_cases hard (take (suc n) ls) c i) [
      | inl j ↦ satisfied a hard c m j
      | inr j ↦ elim (Contains-push_cases (take n ls) (get_or ls n []) c (subst (λ x. Contains x c) e j)) [
        | inl k ↦ satisfied a (hard ++ take n ls) c front (Contains-append_right hard (take n ls) c k)
        | inr s ↦ ap (clause_value a) (sym s) ∙ here
      ]
    ])

pub lessons_are_implied : LessonsAreImplied
lessons_are_implied hard ls h c i a m =
    let all = lessons-front hard ls h a m (length ls) (omega arith) in
    satisfied a (hard ++ take (length ls) ls) c all (Contains-append_right hard (take (length ls) ls) c (subst (λ x. Contains x c) (sym (take_all (length ls) ls (omega arith))) i))

pub lessons_are_new : LessonsAreNew
lessons_are_new hard ls h k l d i s = empowering_new (hard ++ take k ls) (get_or ls k []) d (h k l).empowering i s
