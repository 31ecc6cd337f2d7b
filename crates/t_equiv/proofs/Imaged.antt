-- Replacing literals by their images keeps.
use Rattle.std.proofs.Common.{◌≡◌, ◌≢◌, ◌≤◌, ◌⊎◌, ◌||◌, ℕ, Bool, true, false, not, cond, List, [], ◌∷◌, Contains, refl, ap, sym, ◌∙◌, subst, arith, inl, inr}
use Rattle.std.proofs.lemmas.Bool.{cases_Bool, cases_eq, true≢false, false≢true}
use Rattle.mp_logic.specs.Literal.{Literal, negation}
use Rattle.mp_logic.specs.declared.instances.Cost.{Cost}
use Rattle.mp_logic.specs.Truth.{literal_value, clause_value, IsSatisfied}
use Rattle.mp_logic.specs.Repairs.{made_true, repaired}
use Rattle.mp_logic.specs.Keeping.{charged}
use Rattle.mp_logic.specs.EquivalentLiterals.{substitution_repairs}
use Rattle.mp_logic.proofs.MadeTrue.{literal_value-made_true, literal_value-made_true_other}
use Rattle.mp_logic.proofs.Members.{Contains-first, Contains-later, Contains-cases, Contains-none, satisfied, IsSatisfied-from, witness, true_by, sum_by_le}
use Rattle.mp_logic.proofs.Literals.{literal_value-negation, negation_true, same_or_negation}
use Rattle.t_equiv.specs.Substituting.{AreSubstituted, imaged, positive, image_repairs, IsSubstitution, SubstitutingAllKeeps}

-- x has the value that t has in a, and nothing else is changed
record Follows (x t : Literal) (a b : List Bool) : Type 0 where
  own : literal_value b x ≡ literal_value a t
  others : (k : Literal) → 1 ≤ k.variable → k.variable ≢ x.variable → literal_value b k ≡ literal_value a k

opposite_false : (a : List Bool) (x : Literal) → literal_value a (negation x) ≡ true → literal_value a x ≡ false
opposite_false a x h = elim (cases_Bool (literal_value a x)) [ inl u ↦ absurd (true≢false (sym h ∙ literal_value-negation a x ∙ ap not u)) | inr f ↦ f ]

alike : (x t nx nt : Bool) → nx ≡ not x → nt ≡ not t → (t || (nx || false)) ≡ true → (nt || (x || false)) ≡ true → x ≡ t
alike true true nx nt d e f g = refl
alike true false nx nt d e f g = absurd (false≢true (sym (ap (λ b. b || false) d) ∙ f))
alike false true nx nt d e f g = absurd (false≢true (sym (ap (λ b. b || false) e) ∙ g))
alike false false nx nt d e f g = refl

second_true : (x t nt : Bool) → nt ≡ not t → (nt || (x || false)) ≡ false → t ≡ true
second_true x true nt e g = refl
second_true x false nt e g = absurd (true≢false (sym (ap (λ b. b || (x || false)) e) ∙ g))

neither : (t n : Bool) → (t || (n || false)) ≡ false → t ≡ false
neither true n e = absurd (true≢false e)
neither false n e = refl

follows : (x t : Literal) (a : List Bool) → 1 ≤ x.variable → 1 ≤ t.variable → t.variable ≢ x.variable → Follows x t a (repaired (substitution_repairs x t) a)
follows x t a px pt apart =
    let n = negation x in
    let low : List Bool → Bool → List Bool = λ b v. cond v b (made_true b n) in
    let high : List Bool → Bool → List Bool = λ b v. cond v b (made_true b x) in
    let first : (v : Bool) → (literal_value a t || (literal_value a n || false)) ≡ v → Follows x t a (high (low a v) (clause_value (low a v) (negation t ∷ (x ∷ [])))) =
    λ (v : Bool). elim v as (λ v. (literal_value a t || (literal_value a n || false)) ≡ v → Follows x t a (high (low a v) (clause_value (low a v) (negation t ∷ (x ∷ []))))) [
      | true ↦ λ e.
          let second : (w : Bool) → clause_value a (negation t ∷ (x ∷ [])) ≡ w → Follows x t a (high a w) =
          λ (w : Bool). elim w as (λ w. clause_value a (negation t ∷ (x ∷ [])) ≡ w → Follows x t a (high a w)) [
            | true ↦ λ g. record { own = alike (literal_value a x) (literal_value a t) (literal_value a n) (literal_value a (negation t)) (literal_value-negation a x) (literal_value-negation a t) e g; others = λ k q o. refl }
            | false ↦ λ g. record { own = literal_value-made_true a x px ∙ sym (second_true (literal_value a x) (literal_value a t) (literal_value a (negation t)) (literal_value-negation a t) g); others = λ k q o. literal_value-made_true_other a x k px q o }
          ] in
          second (clause_value a (negation t ∷ (x ∷ []))) refl
      | false ↦ λ e.
          let b = made_true a n in
          let t_false = neither (literal_value a t) (literal_value a n) e in
          let x_false = opposite_false b x (literal_value-made_true a n px) in
          let nt_true = negation_true b t (literal_value-made_true_other a n t px pt apart ∙ t_false) in
          let held = true_by b (negation t ∷ (x ∷ [])) (negation t) (Contains-first (negation t) (x ∷ [])) nt_true in
          subst (λ w. Follows x t a (high b w)) (sym held) (record { own = x_false ∙ sym t_false; others = λ k q o. literal_value-made_true_other a n k px q o })
    ] in
    first (literal_value a t || (literal_value a n || false)) refl

-- what the repairs of these variables make of an assignment
record GiveImages (image : Literal → Literal) (vs : List ℕ) (a b : List Bool) : Type 0 where
  own : (k : Literal) → 1 ≤ k.variable → Contains vs k.variable → literal_value b k ≡ literal_value a (image k)
  others : (k : Literal) → 1 ≤ k.variable → (Contains vs k.variable → ⊥) → literal_value b k ≡ literal_value a k

-- one variable more
gives-more : (image : Literal → Literal) (all vs : List ℕ) (v : ℕ) (a b d : List Bool) → IsSubstitution image all → ((w : ℕ) → Contains (v ∷ vs) w → Contains all w) →
    GiveImages image vs a b → Follows (positive v) (image (positive v)) b d → GiveImages image (v ∷ vs) a d
gives-more image all vs v a b d s among g f =
    let one : 1 ≤ v = s.from_one v (among v (Contains-first v vs)) in
    let t = image (positive v) in
    let t_one : 1 ≤ t.variable = s.known (positive v) one in
    let target : literal_value b t ≡ literal_value a t = g.others t t_one (λ i. s.away (positive v) one (among t.variable (Contains-later v vs t.variable i))) in
    record {
      own = λ k p i. elim (cases_eq k.variable v) [
        | inl e ↦ elim (same_or_negation k (positive v) e) [
          | inl z ↦ ap (literal_value d) z ∙ f.own ∙ target ∙ ap (λ l. literal_value a (image l)) (sym z)
          | inr z ↦
              let turned : literal_value a (negation t) ≡ literal_value a (image k) = ap (literal_value a) (sym (s.opposite (positive v) one)) ∙ ap (λ l. literal_value a (image l)) (sym z) in
              ap (literal_value d) z ∙ literal_value-negation d (positive v) ∙ ap not (f.own ∙ target) ∙ sym (literal_value-negation a t) ∙ turned
        ]
        | inr n ↦ f.others k p n ∙ g.own k p (elim (Contains-cases v vs k.variable i) [ inl e ↦ absurd (n e) | inr j ↦ j ])
      ];
      others = λ k p out. f.others k p (λ e. out (subst (Contains (v ∷ vs)) (sym e) (Contains-first v vs))) ∙ g.others k p (λ j. out (Contains-later v vs k.variable j));
    }

gives : (image : Literal → Literal) (all vs : List ℕ) (a : List Bool) → IsSubstitution image all → ((w : ℕ) → Contains vs w → Contains all w) → GiveImages image vs a (repaired (image_repairs image vs) a)
gives image all [] a s among = record { own = λ k p i. absurd (Contains-none k.variable i); others = λ k p out. refl }
gives image all (v ∷ vs) a s among =
    let b = repaired (image_repairs image vs) a in
    let one : 1 ≤ v = s.from_one v (among v (Contains-first v vs)) in
    let t = image (positive v) in
    let apart : t.variable ≢ v = λ e. s.away (positive v) one (among t.variable (subst (Contains (v ∷ vs)) (sym e) (Contains-first v vs))) in
    gives-more image all vs v a b (repaired (substitution_repairs (positive v) t) b) s among (gives image all vs a s (λ w i. among w (Contains-later v vs w i))) (follows (positive v) t b one (s.known (positive v) one) apart)

cases_in : (n : ℕ) (xs : List ℕ) → Contains xs n ⊎ (Contains xs n → ⊥)
cases_in n [] = inr (λ i. Contains-none n i)
cases_in n (x ∷ xs) = elim (cases_eq n x) [
  | inl e ↦ inl (subst (Contains (x ∷ xs)) (sym e) (Contains-first x xs))
  | inr d ↦ elim (cases_in n xs) [ inl i ↦ inl (Contains-later x xs n i) | inr out ↦ inr (λ i. elim (Contains-cases x xs n i) [ inl e ↦ d e | inr j ↦ out j ]) ]
]

-- repaired, each literal has the value that its image had
all-given : (image : Literal → Literal) (vs : List ℕ) (a : List Bool) → IsSubstitution image vs → (k : Literal) → 1 ≤ k.variable → literal_value (repaired (image_repairs image vs) a) k ≡ literal_value a (image k)
all-given image vs a s k p =
    let g = gives image vs vs a s (λ w i. i) in
    elim (cases_in k.variable vs) [
      | inl i ↦ g.own k p i
      | inr out ↦ g.others k p out ∙ ap (literal_value a) (sym (s.others k p out))
    ]

abbrev HaveValues : (Literal → Literal) → List Bool → List Bool → Type 0
HaveValues image a b = (k : Literal) → 1 ≤ k.variable → literal_value b k ≡ literal_value a (image k)

abbrev FromOne : List (List Literal) → Type 0
FromOne cs = (c : List Literal) → Contains cs c → (k : Literal) → Contains c k → 1 ≤ k.variable

back-satisfied : (image : Literal → Literal) (cs ds : List (List Literal)) (a b : List Bool) → FromOne cs → AreSubstituted image cs ds → HaveValues image a b → IsSatisfied a ds → IsSatisfied b cs
back-satisfied image cs ds a b vs h f z = IsSatisfied-from b cs (λ c i. elim (h.made c i) [
  | inl w ↦ elim (cases_Bool (literal_value a (image w.0))) [
    | inl u ↦ true_by b c w.0 w.2 (f w.0 (vs c i w.0 w.2) ∙ u)
    | inr g ↦ true_by b c w.1 w.3 (f w.1 (vs c i w.1 w.3) ∙ ap (literal_value a) w.4 ∙ negation_true a (image w.0) g)
  ]
  | inr d ↦
      let m = witness a d.0 (satisfied a ds d.0 z d.1) in
      let k = d.2.back m.0 m.1 in
      true_by b c k.0 k.1 (f k.0 (vs c i k.0 k.1) ∙ ap (literal_value a) (sym k.2) ∙ m.2)
])

on-satisfied : (image : Literal → Literal) (cs ds : List (List Literal)) (a : List Bool) → FromOne cs → AreSubstituted image cs ds → HaveValues image a a → IsSatisfied a cs → IsSatisfied a ds
on-satisfied image cs ds a vs h f z = IsSatisfied-from a ds (λ d i.
    let c = h.only d i in
    let k = witness a c.0 (satisfied a cs c.0 z c.1) in
    true_by a d (image k.0) (c.2.on k.0 k.1) (sym (f k.0 (vs c.0 c.1 k.0 k.1)) ∙ k.2))

charged-alike : (image : Literal → Literal) (a b : List Bool) (p : Cost) → literal_value b p.lit ≡ literal_value a (image p.lit) → charged b p ≡ charged a (imaged image p)
charged-alike image a b p e = ap (λ v. cond v p.weight 0) e

pub substituting_all_keeps : SubstitutingAllKeeps
substituting_all_keeps s u image vs from i alike sub paid vars = record {
  down = λ a z.
      let b = repaired (image_repairs image vs) a in
      let f = all-given image vs a i in
      let less = sum_by_le (charged b) (λ p. charged a (imaged image p)) s.costs (λ p m. let e = charged-alike image a b p (f p.lit (from.costs p m)) in omega arith) in
      (back-satisfied image s.hard u.hard a b from.hard sub f z, omega (arith, less, paid.same a));
  up = λ a z.
      let f = alike a z in
      let less = sum_by_le (λ p. charged a (imaged image p)) (charged a) s.costs (λ p m. let e = charged-alike image a a p (f p.lit (from.costs p m)) in omega arith) in
      (a, on-satisfied image s.hard u.hard a from.hard sub f z, omega (arith, less, paid.same a));
  vars = omega arith;
  total = paid.total;
}
