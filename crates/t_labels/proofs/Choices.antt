-- What the walk over a label's clauses misses is no greedy cover.
use Rattle.std.proofs.Common.{◌≡◌, ◌⊎◌, ℕ, ◌+◌, ◌-◌, ◌<◌, ◌≤◌, Bool, true, false, cond, List, [], ◌∷◌, ◌++◌, refl, sym, ◌∙◌, ap, subst, arith, inl, inr, Contains, sum_by}
use Rattle.std.specs.Prelude.{Option, Some, None, nat_lt}
use Rattle.std.proofs.lemmas.Bool.{cases_lt, and_parts, ltb-true, ltb-false, true≢false}
use Rattle.std.proofs.lemmas.List.Sums.{sum_by-cons}
use Rattle.mp_logic.specs.Literal.{Literal}
use Rattle.mp_logic.specs.Normal.{rises}
use Rattle.mp_logic.specs.Keeping.{State}
use Rattle.mp_logic.specs.declared.instances.Cost.{Cost}
use Rattle.mp_logic.proofs.Charges.{AreApart-same}
use Rattle.mp_logic.proofs.Members.{Contains-none, Contains-first, Contains-later, Contains-cases, Contains-map}
use Rattle.mp_clauses.specs.Places.{place_of, has}
use Rattle.mp_clauses.specs.Slots.{live_clauses}
use Rattle.mp_clauses.specs.Weighing.{costs_of, weight_in}
use Rattle.mp_clauses.proofs.Found.{any-by, any-found, has-by, has-contains}
use Rattle.mp_store.specs.Held.{Held, labelled_of}
use Rattle.mp_store.specs.Fixing.{meets}
use Rattle.mp_store.specs.Soundness.{IsStore}
use Rattle.t_labels.specs.Covers.{cost_in}
use Rattle.t_labels.specs.Groups.{IsOther, IsLightest, HasOneOf, AreChosen}
use Rattle.t_labels.specs.Grouping.{may_cover_at, lighter, lightest, choose, covers_greedily}
use Rattle.t_labels.proofs.Labels.{cost-weight, cost-some, weight-cost, may-parts, may-by}
use Rattle.t_labels.proofs.Greedy.{lightest-found, priced_group, priced-has}

-- one literal weighs less than another, or as much and stands no later
abbrev Beats : (Literal → ℕ) → Literal → Literal → Type 0
Beats price x k = (price x < price k) ⊎ ((price x ≡ price k) × (x.variable ≤ k.variable))

beats-more : (price : Literal → ℕ) (x y k : Literal) → Beats price x y → Beats price y k → Beats price x k
beats-more price x y k a b = elim a [
  | inl p ↦ elim b [ inl q ↦ inl (omega (arith, p, q)) | inr q ↦ let e = q.0 in inl (omega (arith, p, e)) ]
  | inr p ↦ let e = p.0 in let v = p.1 in elim b [ inl q ↦ inl (omega (arith, e, q)) | inr q ↦ let f = q.0 in let w = q.1 in inr (e ∙ f, omega (arith, v, w)) ]
]

no-lighter : (price : Literal → ℕ) (a k : Literal) → price a ≤ price k → a.variable ≤ k.variable → Beats price a k
no-lighter price a k le low =
    elim (cases_lt (price a) (price k)) [ inl x ↦ inl x | inr x ↦ inr (omega (arith, le, x), low) ]

lighter-one : (price : Literal → ℕ) (best : Option Literal) (k x : Literal) → lighter price best k ≡ Some x → (x ≡ k) ⊎ (best ≡ Some x)
lighter-one price None k x e = inl (let same : k ≡ x = cc in sym same)
lighter-one price (Some b) k x e =
    let step : (t : Bool) → cond t (Some k) (Some b) ≡ Some x → (x ≡ k) ⊎ (Some b ≡ Some x) =
    λ (t : Bool). elim t as (λ t. cond t (Some k) (Some b) ≡ Some x → (x ≡ k) ⊎ (Some b ≡ Some x)) [ true ↦ λ f. inl (let same : k ≡ x = cc in sym same) | false ↦ λ f. inr f ] in
    step (nat_lt (price k) (price b)) e

-- the lighter of two beats both
record Lighter (price : Literal → ℕ) (best : Option Literal) (k : Literal) : Type 0 where
  found : Literal
  is : lighter price best k ≡ Some found
  new : Beats price found k
  old : (b : Literal) → best ≡ Some b → Beats price found b

lighter-beats : (price : Literal → ℕ) (best : Option Literal) (k : Literal) → ((b : Literal) → best ≡ Some b → b.variable ≤ k.variable) → Lighter price best k
lighter-beats price None k low = record { found = k; is = refl; new = inr (refl, omega arith); old = λ b e. absurd (cc) }
lighter-beats price (Some a) k low =
    let below = low a refl in
    let step : (t : Bool) → nat_lt (price k) (price a) ≡ t → Lighter price (Some a) k =
    λ (t : Bool). elim t as (λ t. nat_lt (price k) (price a) ≡ t → Lighter price (Some a) k) [
      | true ↦ λ e. record {
        found = k;
        is = ap (λ b. cond b (Some k) (Some a)) e;
        new = inr (refl, omega arith);
        old = λ b f. (let same : a ≡ b = cc in subst (Beats price k) same (inl (ltb-true (price k) (price a) e)));
      }
      | false ↦ λ e. record {
        found = a;
        is = ap (λ b. cond b (Some k) (Some a)) e;
        new = no-lighter price a k (ltb-false (price k) (price a) e) below;
        old = λ b f. (let same : a ≡ b = cc in subst (Beats price a) same (inr (refl, omega arith)));
      }
    ] in
    step (nat_lt (price k) (price a)) refl

-- the lightest one beats all that pass
lightest-beats : (price : Literal → ℕ) (may : Literal → Bool) (n : ℕ) (best : Option Literal) (c : List Literal) (x : Literal) → rises n c ≡ true → ((b : Literal) → best ≡ Some b → b.variable ≤ n) → lightest price may best c ≡ Some x
    → ((k : Literal) → Contains c k → may k ≡ true → Beats price x k) × ((b : Literal) → best ≡ Some b → Beats price x b)
lightest-beats price may n best [] x r low e = (λ k i m. absurd (Contains-none k i), λ b f. (let both : Some b ≡ Some x = sym f ∙ e in let same : b ≡ x = cc in subst (λ (y : Literal). Beats price y b) same (inr (refl, omega arith))))
lightest-beats price may n best (k ∷ c) x r low e =
    let parts = and_parts (nat_lt n k.variable) (rises k.variable c) r in
    let above = ltb-true n k.variable parts.0 in
    let lower : (b : Literal) → best ≡ Some b → b.variable ≤ k.variable = λ b g. (let below = low b g in omega (arith, below, above)) in
    let lighter_low : (b : Literal) → lighter price best k ≡ Some b → b.variable ≤ k.variable = λ b f. elim (lighter-one price best k b f) [ inl g ↦ subst (λ (y : Literal). y.variable ≤ k.variable) (sym g) (omega arith) | inr g ↦ lower b g ] in
    let step : (t : Bool) → may k ≡ t → lightest price may (cond t (lighter price best k) best) c ≡ Some x → ((j : Literal) → Contains (k ∷ c) j → may j ≡ true → Beats price x j) × ((b : Literal) → best ≡ Some b → Beats price x b) =
    λ (t : Bool). elim t as (λ t. may k ≡ t → lightest price may (cond t (lighter price best k) best) c ≡ Some x → ((j : Literal) → Contains (k ∷ c) j → may j ≡ true → Beats price x j) × ((b : Literal) → best ≡ Some b → Beats price x b)) [
      | true ↦ λ m f.
          let rest = lightest-beats price may k.variable (lighter price best k) c x parts.1 lighter_low f in
          let next = lighter-beats price best k lower in
          let beats = rest.1 next.found next.is in (
            λ j i g. elim (Contains-cases k c j i) [ inl o ↦ subst (Beats price x) (sym o) (beats-more price x next.found k beats next.new) | inr q ↦ rest.0 j q g ],
            λ b g. beats-more price x next.found b beats (next.old b g),
          )
      | false ↦ λ m f.
          let rest = lightest-beats price may k.variable best c x parts.1 lower f in
          (λ j i g. elim (Contains-cases k c j i) [ inl o ↦ absurd (true≢false (sym g ∙ (ap may o ∙ m))) | inr q ↦ rest.0 j q g ], rest.1)
    ] in
    step (may k) refl e

-- where none is found none passes
lightest-some : (price : Literal → ℕ) (may : Literal → Bool) (b : Literal) (c : List Literal) → lightest price may (Some b) c ≡ None → ⊥
lightest-some price may b [] e = absurd (cc)
lightest-some price may b (k ∷ c) e =
    let pick : (t s : Bool) → lightest price may (cond t (cond s (Some k) (Some b)) (Some b)) c ≡ None → ⊥ =
    λ (t : Bool) (s : Bool). elim t as (λ t. lightest price may (cond t (cond s (Some k) (Some b)) (Some b)) c ≡ None → ⊥) [
      | true ↦ elim s as (λ s. lightest price may (cond s (Some k) (Some b)) c ≡ None → ⊥) [ true ↦ lightest-some price may k c | false ↦ lightest-some price may b c ]
      | false ↦ lightest-some price may b c
    ] in
    pick (may k) (nat_lt (price k) (price b)) e

lightest-none : (price : Literal → ℕ) (may : Literal → Bool) (c : List Literal) (k : Literal) → lightest price may None c ≡ None → Contains c k → may k ≡ true → ⊥
lightest-none price may [] k e i m = Contains-none k i
lightest-none price may (x ∷ c) k e i m =
    let step : (t : Bool) → may x ≡ t → lightest price may (cond t (Some x) None) c ≡ None → ⊥ =
    λ (t : Bool). elim t as (λ t. may x ≡ t → lightest price may (cond t (Some x) None) c ≡ None → ⊥) [
      | true ↦ λ n f. lightest-some price may x c f
      | false ↦ λ n f. elim (Contains-cases x c k i) [ inl o ↦ true≢false (sym m ∙ (ap may o ∙ n)) | inr j ↦ lightest-none price may c k f j m ]
    ] in
    step (may x) refl e

-- labels that pass are the other plain ones of the state
pub other-of : (h : Held) (l k : Literal) → may_cover_at h l k ≡ true → IsOther (cost_in h.weights l) (cost_in h.weights k) (labelled_of h)
other-of h l k m =
    let may = may-parts (weight_in h.weights) (live_clauses h.slots) l k m in
    record { cost = weight-cost h.weights k may.some; other = may.other; plain = may.plain }

pub may-of : (h : Held) (l : Literal) (q : Cost) → IsOther (cost_in h.weights l) q (labelled_of h) → may_cover_at h l q.lit ≡ true
may-of h l q o = may-by (weight_in h.weights) (live_clauses h.slots) l q.lit (record { some = cost-some h.weights q o.cost; other = o.other; plain = o.plain })

-- of two lightest ones both are the same
same-lightest : (h : Held) (l b : Literal) (c : List Literal) (q : Cost) → IsStore h → rises 0 c ≡ true → lightest (weight_in h.weights) (may_cover_at h l) None c ≡ Some b → IsLightest (cost_in h.weights l) (labelled_of h) c q → q ≡ cost_in h.weights b
same-lightest h l b c q s r e light =
    let found = lightest-found (weight_in h.weights) (may_cover_at h l) c None c (λ k i. i) (λ b e. absurd (cc)) b e in
    let other = other-of h l b found.passes in
    let weighs = (cost-weight h.weights q light.is.cost).0 in
    let beats = (lightest-beats (weight_in h.weights) (may_cover_at h l) 0 None c b r (λ b e. absurd (cc)) e).0 q.lit light.inside (may-of h l q light.is) in
    let names : q.lit.variable ≡ b.variable = elim (light.least (cost_in h.weights b) other found.inside) [
      | inl x ↦ elim beats [ inl y ↦ absurd (omega (arith, x, y, weighs)) | inr y ↦ let y0 = y.0 in absurd (omega (arith, x, y0, weighs)) ]
      | inr x ↦ let x0 = x.0 in let x1 = x.1 in elim beats [ inl y ↦ absurd (omega (arith, x0, y, weighs)) | inr y ↦ let y1 = y.1 in omega (arith, x1, y1) ]
    ] in
    AreApart-same (costs_of h.weights) q (cost_in h.weights b) s.labelled.costs_apart light.is.cost other.cost names

-- whether one of those chosen is in a clause
met-one : (w : List ℕ) (ks c : List Literal) → meets ks c ≡ true → HasOneOf (priced_group w ks) c
met-one w ks c t = let k = any-found (λ j. has (place_of j) ks) c t in (cost_in w k.0, priced-has w ks k.0 (has-contains ks k.0 k.2), k.1)

one-met : (w : List ℕ) (ks c : List Literal) → HasOneOf (priced_group w ks) c → meets ks c ≡ true
one-met w ks c o =
    let k = Contains-map (cost_in w) ks o.0 o.1 in
    let lit : o.0.lit ≡ k.0 = ap (λ (q : Cost). q.lit) k.2 in
    any-by (λ j. has (place_of j) ks) c o.0.lit o.2 (has-by ks o.0.lit (subst (Contains ks) (sym lit) k.1))

abbrev pub weigh : List Cost → ℕ
weigh qs = sum_by (λ (q : Cost). q.weight) qs

weigh-more : (qs : List Cost) (q : Cost) → weigh (qs ++ q ∷ []) ≡ weigh qs + q.weight
weigh-more [] q = omega (arith, sum_by-cons (λ (q : Cost). q.weight) q [])
weigh-more (x ∷ qs) q =
    let rest = weigh-more qs q in
    omega (arith, rest, sum_by-cons (λ (q : Cost). q.weight) x qs, sum_by-cons (λ (q : Cost). q.weight) x (qs ++ q ∷ []))

-- what is chosen stays chosen
chosen-more : (p : Cost) (s : State) (cs : List (List Literal)) (chosen qs : List Cost) → AreChosen p s cs chosen qs → weigh chosen ≤ weigh qs
chosen-more p s [] chosen qs a = let same = ap weigh a in omega (arith, same)
chosen-more p s (c ∷ cs) chosen qs a = elim a [
  | inl x ↦ chosen-more p s cs chosen qs x.1
  | inr x ↦
      let rest = chosen-more p s cs (chosen ++ x.1.0 ∷ []) qs x.1.2 in
      let one = weigh-more chosen x.1.0 in
      omega (arith, rest, one)
]

priced-more : (w : List ℕ) (ks : List Literal) (b : Literal) → priced_group w (ks ++ b ∷ []) ≡ priced_group w ks ++ cost_in w b ∷ []
priced-more w [] b = refl
priced-more w (k ∷ ks) b = ap (λ xs. cost_in w k ∷ xs) (priced-more w ks b)

-- where the walk fails, what is chosen weighs more than the label
pub no-choice : (h : Held) (l : Literal) (cs : List (List Literal)) (ks : List Literal) (left : ℕ) (qs : List Cost) → IsStore h → ((c : List Literal) → Contains cs c → rises 0 c ≡ true) → covers_greedily (weight_in h.weights) (may_cover_at h l) cs ks left ≡ false
    → weigh (priced_group h.weights ks) + left ≡ weight_in h.weights l → AreChosen (cost_in h.weights l) (labelled_of h) cs (priced_group h.weights ks) qs → weigh qs ≤ weight_in h.weights l → ⊥
no-choice h l [] ks left qs s normal e total a le = true≢false e
no-choice h l (c ∷ cs) ks left qs s normal e total a le =
    let w = h.weights in
    let price : Literal → ℕ = weight_in w in
    let may : Literal → Bool = may_cover_at h l in
    let later : (d : List Literal) → Contains cs d → rises 0 d ≡ true = λ d i. normal d (Contains-later c cs d i) in
    let chose : (x : Option Literal) → lightest price may None c ≡ x → choose price ks left (covers_greedily price may cs) x ≡ false → (q : Cost) → IsLightest (cost_in w l) (labelled_of h) c q → AreChosen (cost_in w l) (labelled_of h) cs (priced_group w ks ++ q ∷ []) qs → ⊥ =
    λ (x : Option Literal). elim x as (λ x. lightest price may None c ≡ x → choose price ks left (covers_greedily price may cs) x ≡ false → (q : Cost) → IsLightest (cost_in w l) (labelled_of h) c q → AreChosen (cost_in w l) (labelled_of h) cs (priced_group w ks ++ q ∷ []) qs → ⊥) [
      | None ↦ λ f g q light rest. lightest-none price may c q.lit f light.inside (may-of h l q light.is)
      | Some b ↦ λ f g q light rest.
          let same = same-lightest h l b c q s (normal c (Contains-first c cs)) f light in
          let again_chosen : AreChosen (cost_in w l) (labelled_of h) cs (priced_group w ks ++ cost_in w b ∷ []) qs = subst (λ (y : Cost). AreChosen (cost_in w l) (labelled_of h) cs (priced_group w ks ++ y ∷ []) qs) same rest in
          let one = weigh-more (priced_group w ks) (cost_in w b) in
          let spend : (t : Bool) → nat_lt left (price b) ≡ t → cond t false (covers_greedily price may cs (ks ++ b ∷ []) (left - price b)) ≡ false → ⊥ =
          λ (t : Bool). elim t as (λ t. nat_lt left (price b) ≡ t → cond t false (covers_greedily price may cs (ks ++ b ∷ []) (left - price b)) ≡ false → ⊥) [
            | true ↦ λ n m.
                let more = chosen-more (cost_in w l) (labelled_of h) cs (priced_group w ks ++ cost_in w b ∷ []) qs again_chosen in
                let less = ltb-true left (price b) n in
                absurd (omega (arith, more, one, less, total, le))
            | false ↦ λ n m.
                let fits = ltb-false left (price b) n in
                let listed = priced-more w ks b in
                let again : AreChosen (cost_in w l) (labelled_of h) cs (priced_group w (ks ++ b ∷ [])) qs = subst (λ (ys : List Cost). AreChosen (cost_in w l) (labelled_of h) cs ys qs) (sym listed) again_chosen in
                let whole = ap weigh listed in
                no-choice h l cs (ks ++ b ∷ []) (left - price b) qs s later m (omega (arith, whole, one, fits, total)) again le
          ] in
          spend (nat_lt left (price b)) refl g
    ] in
    let outer : (t : Bool) → meets ks c ≡ t → cond t (covers_greedily price may cs ks left) (choose price ks left (covers_greedily price may cs) (lightest price may None c)) ≡ false → ⊥ =
    λ (t : Bool). elim t as (λ t. meets ks c ≡ t → cond t (covers_greedily price may cs ks left) (choose price ks left (covers_greedily price may cs) (lightest price may None c)) ≡ false → ⊥) [
      | true ↦ λ m g. elim a [
        | inl x ↦ no-choice h l cs ks left qs s later g total x.1 le
        | inr x ↦ x.0 (met-one w ks c m)
      ]
      | false ↦ λ m g. elim a [
        | inl x ↦ true≢false (sym (one-met w ks c x.0) ∙ m)
        | inr x ↦ chose (lightest price may None c) refl g x.1.0 x.1.1 x.1.2
      ]
    ] in
    outer (meets ks c) refl e
