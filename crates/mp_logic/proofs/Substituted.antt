-- Replacing a literal by an equivalent one keeps.
use Rattle.std.proofs.Common.{◌≡◌, ◌≢◌, ◌≤◌, ◌||◌, Bool, true, false, not, cond, List, [], ◌∷◌, Contains, refl, ap, sym, ◌∙◌, subst, arith, inl, inr}
use Rattle.std.proofs.lemmas.Bool.{cases_Bool, true≢false, false≢true}
use Rattle.mp_logic.specs.Literal.{Literal, negation}
use Rattle.mp_logic.specs.Truth.{literal_value, clause_value, IsSatisfied}
use Rattle.mp_logic.specs.Repairs.{made_true, repaired}
use Rattle.mp_logic.specs.Keeping.{charged}
use Rattle.mp_logic.proofs.MadeTrue.{literal_value-made_true, literal_value-made_true_other}
use Rattle.mp_logic.specs.EquivalentLiterals.{IsImageOf, IsSubstituted, substitution_repairs, SubstitutingKeeps}
use Rattle.mp_logic.proofs.Members.{Contains-first, satisfied, IsSatisfied-from, witness, true_by, sum_by_le}
use Rattle.mp_logic.proofs.Literals.{literal_value-negation, negation_true, charged_le}

-- x has the value that t has in a, and nothing else is changed
record Follows (x t : Literal) (a b : List Bool) : Type 0 where
  own : literal_value b x ≡ literal_value a t
  others : (k : Literal) → 1 ≤ k.variable → k.variable ≢ x.variable → literal_value b k ≡ literal_value a k

opposite_false : (a : List Bool) (x : Literal) → literal_value a (negation x) ≡ true → literal_value a x ≡ false
opposite_false a x h = elim (cases_Bool (literal_value a x)) [ inl u ↦ absurd (true≢false (sym h ∙ literal_value-negation a x ∙ ap not u)) | inr f ↦ f ]

alike : (x t nx nt : Bool) → nx ≡ not x → nt ≡ not t → (t || (nx || false)) ≡ true → (nt || (x || false)) ≡ true → x ≡ t
alike true true nx nt d e f g = refl
alike true false nx nt d e f g = absurd (false≢true (sym (ap (λ b. b || false) d) ∙ f))
alike false true nx nt d e f g = absurd (false≢true (sym (ap (λ b. b || false) e) ∙ g))
alike false false nx nt d e f g = refl

second_true : (x t nt : Bool) → nt ≡ not t → (nt || (x || false)) ≡ false → t ≡ true
second_true x true nt e g = refl
second_true x false nt e g = absurd (true≢false (sym (ap (λ b. b || (x || false)) e) ∙ g))

neither : (t n : Bool) → (t || (n || false)) ≡ false → t ≡ false
neither true n e = absurd (true≢false e)
neither false n e = refl

follows : (x t : Literal) (a : List Bool) → 1 ≤ x.variable → 1 ≤ t.variable → t.variable ≢ x.variable → Follows x t a (repaired (substitution_repairs x t) a)
follows x t a px pt apart =
    let n = negation x in
    let low : List Bool → Bool → List Bool = λ b v. cond v b (made_true b n) in
    let high : List Bool → Bool → List Bool = λ b v. cond v b (made_true b x) in
    let first : (v : Bool) → (literal_value a t || (literal_value a n || false)) ≡ v → Follows x t a (high (low a v) (clause_value (low a v) (negation t ∷ (x ∷ [])))) =
    λ (v : Bool). elim v as (λ v. (literal_value a t || (literal_value a n || false)) ≡ v → Follows x t a (high (low a v) (clause_value (low a v) (negation t ∷ (x ∷ []))))) [
      | true ↦ λ e.
          let second : (w : Bool) → clause_value a (negation t ∷ (x ∷ [])) ≡ w → Follows x t a (high a w) =
          λ (w : Bool). elim w as (λ w. clause_value a (negation t ∷ (x ∷ [])) ≡ w → Follows x t a (high a w)) [
            | true ↦ λ g. record { own = alike (literal_value a x) (literal_value a t) (literal_value a n) (literal_value a (negation t)) (literal_value-negation a x) (literal_value-negation a t) e g; others = λ k q o. refl }
            | false ↦ λ g. record { own = literal_value-made_true a x px ∙ sym (second_true (literal_value a x) (literal_value a t) (literal_value a (negation t)) (literal_value-negation a t) g); others = λ k q o. literal_value-made_true_other a x k px q o }
          ] in
          second (clause_value a (negation t ∷ (x ∷ []))) refl
      | false ↦ λ e.
          let b = made_true a n in
          let t_false = neither (literal_value a t) (literal_value a n) e in
          let x_false = opposite_false b x (literal_value-made_true a n px) in
          let nt_true = negation_true b t (literal_value-made_true_other a n t px pt apart ∙ t_false) in
          let held = true_by b (negation t ∷ (x ∷ [])) (negation t) (Contains-first (negation t) (x ∷ [])) nt_true in
          subst (λ w. Follows x t a (high b w)) (sym held) (record { own = x_false ∙ sym t_false; others = λ k q o. literal_value-made_true_other a n k px q o })
    ] in
    first (literal_value a t || (literal_value a n || false)) refl

image_value : (x t : Literal) (a b : List Bool) → Follows x t a b → (k m : Literal) → 1 ≤ k.variable → IsImageOf x t k m → literal_value b k ≡ literal_value a m
image_value x t a b f k m q i =
    elim i [
      | inl h ↦ ap (literal_value b) h.0 ∙ f.own ∙ ap (literal_value a) (sym h.1)
      | inr j ↦ elim j [
        | inl h ↦ ap (literal_value b) h.0 ∙ literal_value-negation b x ∙ ap not f.own ∙ sym (literal_value-negation a t) ∙ ap (literal_value a) (sym h.1)
        | inr h ↦ f.others k q h.0 ∙ ap (literal_value a) (sym h.1)
      ]
    ]

substituted_back : (x t : Literal) (cs ds : List (List Literal)) (a b : List Bool) → ((c : List Literal) → Contains cs c → (k : Literal) → Contains c k → 1 ≤ k.variable) → IsSubstituted x t cs ds → Follows x t a b → IsSatisfied a ds → IsSatisfied b cs
substituted_back x t cs ds a b vs h f z = IsSatisfied-from b cs (λ c i. elim (h.made c i) [
  | inl w ↦ elim (cases_Bool (literal_value a w.0)) [
    | inl u ↦ true_by b c w.1 w.3 (image_value x t a b f w.1 w.0 (vs c i w.1 w.3) w.5 ∙ u)
    | inr g ↦ true_by b c w.2 w.4 (image_value x t a b f w.2 (negation w.0) (vs c i w.2 w.4) w.6 ∙ negation_true a w.0 g)
  ]
  | inr d ↦
      let m = witness a d.0 (satisfied a ds d.0 z d.1) in
      let k = d.2.back m.0 m.1 in
      true_by b c k.0 k.1 (image_value x t a b f k.0 m.0 (vs c i k.0 k.1) k.2 ∙ m.2)
])

substituted_on : (x t : Literal) (cs ds : List (List Literal)) (a : List Bool) → ((c : List Literal) → Contains cs c → (k : Literal) → Contains c k → 1 ≤ k.variable) → IsSubstituted x t cs ds → literal_value a x ≡ literal_value a t → IsSatisfied a cs → IsSatisfied a ds
substituted_on x t cs ds a vs h e z = IsSatisfied-from a ds (λ d i.
    let c = h.only d i in
    let k = witness a c.0 (satisfied a cs c.0 z c.1) in
    let m = c.2.on k.0 k.1 in
    let f : Follows x t a a = record { own = e; others = λ k q o. refl } in
    true_by a d m.0 m.1 (sym (image_value x t a a f k.0 m.0 (vs c.0 c.1 k.0 k.1) m.2) ∙ k.2))

pub substituting_keeps : SubstitutingKeeps
substituting_keeps s u x t vs px pt apart equal h paid vars = record {
  down = λ a z.
      let b = repaired (substitution_repairs x t) a in
      let f = follows x t a px pt apart in
      let less = sum_by_le (charged b) (charged a) u.costs (λ q i. charged_le a b q (λ v. sym (f.others q.lit (paid.none q i).0 (paid.none q i).1) ∙ v)) in
      let both = f.own ∙ sym (f.others t pt apart) in
      (substituted_back x t s.hard u.hard a b vs.hard h f z, omega (arith, less, paid.same b both));
  up = λ a z. (a, substituted_on x t s.hard u.hard a vs.hard h (equal a z) z, omega (arith, paid.same a (equal a z)));
  vars = omega arith;
  total = paid.total;
}
