-- Labels as candidates: their places, and the literal of a place.
use Rattle.std.proofs.Common.{◌≡◌, ◌≢◌, ℕ, ◌+◌, ◌*◌, ◌/◌, ◌%◌, ◌<◌, true, false, not, cond, List, [], ◌∷◌, get_or, drop, refl, sym, ◌∙◌, ap, subst, arith, inl, inr, Contains}
use Rattle.std.specs.Prelude.{◌==◌, ◌||◌, map}
use Rattle.std.proofs.lemmas.Bool.{ne_eqb, and_from}
use Rattle.mp_logic.specs.Literal.{Literal}
use Rattle.mp_logic.specs.declared.instances.Cost.{Cost}
use Rattle.mp_logic.proofs.Members.{Contains-none, Contains-first, Contains-later, Contains-cases}
use Rattle.mp_clauses.specs.Places.{place_of, literal_at, is_in, no_repeats}
use Rattle.mp_clauses.specs.Weighing.{costs_from, costs_of, weight_in}
use Rattle.mp_clauses.proofs.Pricing.{place-literal}
use Rattle.mp_store.specs.Held.{Held, labelled_of}
use Rattle.t_amo.specs.Labels.{label_places}
use Rattle.t_amo.proofs.Weighed.{cost-some}

abbrev place : Cost → ℕ
place p = place_of p.lit

-- no place stands twice
places-low : (i : ℕ) (ws : List ℕ) (k : ℕ) → k < i → is_in k (map place (costs_from i ws)) ≡ false
places-low i [] k h = refl
places-low i (w ∷ ws) k h =
    let rest = places-low (i + 1) ws k (omega arith) in
    let own = place-literal i in
    let far : (place_of (literal_at i) == k) ≡ false = ne_eqb (place_of (literal_at i)) k (λ e. omega (arith, own, e, h)) in
    elim (w == 0) as (λ b. is_in k (map place (cond b (costs_from (i + 1) ws) (record { lit = literal_at i; weight = w } ∷ costs_from (i + 1) ws))) ≡ false) [
      | true ↦ rest
      | false ↦ ap (λ b. b || is_in k (map place (costs_from (i + 1) ws))) far ∙ rest
    ]

places-once : (i : ℕ) (ws : List ℕ) → no_repeats (map place (costs_from i ws)) ≡ true
places-once i [] = refl
places-once i (w ∷ ws) =
    let rest = places-once (i + 1) ws in
    let own = place-literal i in
    let new = places-low (i + 1) ws (place_of (literal_at i)) (omega (arith, own)) in
    elim (w == 0) as (λ b. no_repeats (map place (cond b (costs_from (i + 1) ws) (record { lit = literal_at i; weight = w } ∷ costs_from (i + 1) ws))) ≡ true) [
      | true ↦ rest
      | false ↦ and_from (not (is_in (place_of (literal_at i)) (map place (costs_from (i + 1) ws)))) (no_repeats (map place (costs_from (i + 1) ws))) (ap not new) rest
    ]

pub labels-once : (h : Held) → no_repeats (label_places (labelled_of h)) ≡ true
labels-once h = places-once 0 h.weights

pub map-has : {X Y : Type 0} (f : X → Y) (xs : List X) (x : X) → Contains xs x → Contains (map f xs) (f x)
map-has f [] x i = absurd (Contains-none x i)
map-has f (y ∷ xs) x i =
    elim (Contains-cases y xs x i) [
      | inl e ↦ subst (λ z. Contains (f y ∷ map f xs) (f z)) (sym e) (Contains-first (f y) (map f xs))
      | inr j ↦ Contains-later (f y) (map f xs) (f x) (map-has f xs x j)
    ]

pub label-listed : (ps : List Cost) (p : Cost) → Contains ps p → Contains (map place ps) (place_of p.lit)
label-listed ps p i = map-has place ps p i

-- the places from a number on
abbrev pub places_from : ℕ → List ℕ → List ℕ
places_from i w = map place (costs_from i (drop i w))

-- the literal of a place
pub label-of-place : (l : Literal) (item : ℕ) → l.variable ≡ item / 2 → l.negative ≡ (item % 2 == 1) → place_of l ≡ item
label-of-place l item e f = ap (λ (v : ℕ). 2 * v + cond l.negative 1 0) e ∙ (ap (λ b. 2 * (item / 2) + cond b 1 0) f ∙ place-literal item)

-- a place whose literal weighs nothing
pub no-label-here : (w : List ℕ) (l : Literal) (item : ℕ) → place_of l ≡ item → weight_in w l ≡ 0 → (p : Cost) → Contains (costs_of w) p → place_of p.lit ≢ item
no-label-here w l item e z p m f = cost-some w p m (ap (λ k. get_or w k 0) (f ∙ sym e) ∙ z)
