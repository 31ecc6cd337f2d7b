-- A pair of cost literals that gets covered makes the state smaller.
use Rattle.std.proofs.Common.{◌≡◌, ◌≢◌, ℕ, ◌<◌, ◌≤◌, Bool, true, false, not, cond, List, [], ◌∷◌, refl, sym, ◌∙◌, ap, subst, arith, sum_by, inl, inr, Contains}
use Rattle.std.proofs.lemmas.Bool.{false≢true}
use Rattle.std.proofs.lemmas.List.Sums.{sum_by-cons}
use Rattle.mp_logic.specs.Literal.{Literal}
use Rattle.mp_logic.specs.Keeping.{State}
use Rattle.mp_logic.specs.declared.instances.Cost.{Cost}
use Rattle.mp_logic.proofs.Members.{Contains-none, Contains-first, Contains-later, Contains-cases, sum_by_le}
use Rattle.mp_clauses.specs.Places.{is_in}
use Rattle.mp_store.specs.Held.{labelled_of}
use Rattle.mp_clauses.specs.Slots.{live_clauses}
use Rattle.mp_store.specs.Measures.{is_covered, uncovered, IsSmaller}
use Rattle.mp_store.specs.Replacing.{clauses_after, CoversStay, CoveringIsSmaller}
use Rattle.mp_store.proofs.Measured.{uncovered-le}
use Rattle.mp_store.proofs.Replaced.{replacing_leaves, covered-stays}

one_le : (x y : Bool) → (y ≡ true → x ≡ true) → cond (not x) 1 0 ≤ cond (not y) 1 0
one_le true y f = omega arith
one_le false true f = absurd (false≢true (f refl))
one_le false false f = omega arith

not-covered : (b : Bool) → b ≡ false → cond {A = ℕ} (not b) 1 0 ≡ 1
not-covered b e = ap {B = ℕ} (λ x. cond (not x) 1 0) e

covered-one : (b : Bool) → b ≡ true → cond {A = ℕ} (not b) 1 0 ≡ 0
covered-one b e = ap {B = ℕ} (λ x. cond (not x) 1 0) e

sum-lt : (f g : Cost → ℕ) (ps : List Cost) (q : Cost) → ((x : Cost) → Contains ps x → f x ≤ g x) → Contains ps q → f q < g q → sum_by f ps < sum_by g ps
sum-lt f g [] q h m l = absurd (Contains-none q m)
sum-lt f g (x ∷ ps) q h m l =
    let own = h x (Contains-first x ps) in
    let rest = sum_by_le f g ps (λ y i. h y (Contains-later x ps y i)) in
    elim (Contains-cases x ps q m) [
      | inl e ↦ let less : f x < g x = subst (λ y. f y < g y) e l in omega (arith, rest, less, sum_by-cons f x ps, sum_by-cons g x ps)
      | inr r ↦ omega (arith, own, sum-lt f g ps q (λ y i. h y (Contains-later x ps y i)) r l, sum_by-cons f x ps, sum_by-cons g x ps)
    ]

uncovered-lt : (cs ds : List (List Literal)) (ps : List Cost) (p q : Cost) → ((x y : Cost) → Contains ps x → Contains ps y → is_covered cs x.lit y.lit ≡ true → is_covered ds x.lit y.lit ≡ true)
    → Contains ps p → Contains ps q → p.lit ≢ q.lit → is_covered cs p.lit q.lit ≡ false → is_covered cs q.lit p.lit ≡ false → is_covered ds p.lit q.lit ≡ true → is_covered ds q.lit p.lit ≡ true → uncovered ds ps < uncovered cs ps
uncovered-lt cs ds [] p q h i j n a b c d = absurd (Contains-none p i)
uncovered-lt cs ds (x ∷ ps) p q h i j n a b c d =
    let f : Cost → ℕ = λ y. cond (not (is_covered ds x.lit y.lit)) 1 0 in
    let g : Cost → ℕ = λ y. cond (not (is_covered cs x.lit y.lit)) 1 0 in
    let each : (y : Cost) → Contains ps y → f y ≤ g y = λ y m. one_le (is_covered ds x.lit y.lit) (is_covered cs x.lit y.lit) (h x y (Contains-first x ps) (Contains-later x ps y m)) in
    let first : sum_by f ps ≤ sum_by g ps = sum_by_le f g ps each in
    let rest = uncovered-le cs ds ps (λ y z m o. h y z (Contains-later x ps y m) (Contains-later x ps z o)) in
    let here : (y z : Cost) → y ≡ x → Contains ps z → is_covered cs y.lit z.lit ≡ false → is_covered ds y.lit z.lit ≡ true → sum_by f ps < sum_by g ps = λ y z e m s t.
    let one : g z ≡ 1 = not-covered (is_covered cs x.lit z.lit) (subst (λ (w : Cost). is_covered cs w.lit z.lit ≡ false) e s) in
    let none : f z ≡ 0 = covered-one (is_covered ds x.lit z.lit) (subst (λ (w : Cost). is_covered ds w.lit z.lit ≡ true) e t) in
    sum-lt f g ps z each m (omega (arith, one, none)) in
    elim (Contains-cases x ps p i) [
      | inl e ↦ elim (Contains-cases x ps q j) [
        | inl k ↦ absurd (n (ap (λ (w : Cost). w.lit) (e ∙ sym k)))
        | inr m ↦ let less = here p q e m a c in omega (arith, rest, less)
      ]
      | inr m ↦ elim (Contains-cases x ps q j) [
        | inl k ↦ let less = here q p k m b d in omega (arith, rest, less)
        | inr o ↦ let more = uncovered-lt cs ds ps p q (λ y z u w. h y z (Contains-later x ps y u) (Contains-later x ps z w)) m o n a b c d in omega (arith, first, more)
      ]
    ]

pub covering_is_smaller : CoveringIsSmaller
covering_is_smaller r h p q keeps none i j n a b c d =
    let stays : CoversStay (labelled_of h).costs h.slots r.gone (clauses_after r h) = λ id x g e. absurd (false≢true (sym (ap (is_in id) none) ∙ g)) in
    let less = uncovered-lt (live_clauses h.slots) (clauses_after r h) (labelled_of h).costs p q (covered-stays r h stays) i j n a b c d in
    let P : State → Type 0 = λ t. IsSmaller t (labelled_of h) in
    subst P (sym (replacing_leaves r h keeps)) (inr (refl, inr (refl, inl less)))
