-- The cost literals of a store, in order.
use Rattle.std.proofs.Common.{◌≡◌, ◌≢◌, ℕ, ◌+◌, ◌<◌, ◌≤◌, true, false, not, cond, List, [], ◌∷◌, ◌++◌, length, get_or, drop, refl, sym, ◌∙◌, ap, subst, arith, inl, inr, Contains, add-one, drop-cons, append_assoc, map}
use Rattle.std.specs.Prelude.{◌==◌}
use Rattle.std.proofs.lemmas.Bool.{cases_eq, ne_eqb}
use Rattle.std.proofs.lemmas.List.{append-nil, drop_all}
use Rattle.std.proofs.lemmas.List.Elements.{All-contains}
use Rattle.mp_logic.specs.Literal.{Literal, IsUpTo}
use Rattle.mp_logic.specs.declared.instances.Cost.{Cost}
use Rattle.mp_logic.proofs.Members.{Contains-none, Contains-first, Contains-later, Contains-cases, Contains-map}
use Rattle.mp_clauses.specs.Places.{place_of, literal_at, is_in, no_repeats}
use Rattle.mp_clauses.specs.Weighing.{costs_from, costs_of, weight_in}
use Rattle.mp_clauses.proofs.Pricing.{place-literal, literal-place, same-place, cost_at, has_cost}
use Rattle.mp_store.specs.Held.{Held, labelled_of}
use Rattle.mp_store.specs.Soundness.{IsStore}
use Rattle.mp_store.proofs.Fixes.{filter-has}
use Rattle.t_failed.specs.Pairs.{label_places}
use Rattle.t_failed.specs.Partners.{AreLabels, places_beside}
use Rattle.t_failed.proofs.Trails.{places-push}

abbrev places : List Cost → List ℕ
places cs = map (λ (p : Cost). place_of p.lit) cs

-- one weight more
cons-zero : (i w : ℕ) (ws : List ℕ) → w ≡ 0 → costs_from i (w ∷ ws) ≡ costs_from (i + 1) ws
cons-zero i w ws e = rw e refl

cons-some : (i w : ℕ) (ws : List ℕ) → w ≢ 0 → places (costs_from i (w ∷ ws)) ≡ i ∷ places (costs_from (i + 1) ws)
cons-some i w ws n = rw (ne_eqb w 0 n) (ap (λ (p : ℕ). p ∷ places (costs_from (i + 1) ws)) (place-literal i))

places-low : (i : ℕ) (w : List ℕ) (k : ℕ) → k < i → is_in k (places (costs_from i w)) ≡ false
places-low i [] k h = refl
places-low i (w ∷ ws) k h =
    let rest = places-low (i + 1) ws k (omega arith) in
    elim (cases_eq w 0) [
      | inl e ↦ ap (λ (cs : List Cost). is_in k (places cs)) (cons-zero i w ws e) ∙ rest
      | inr n ↦ ap (is_in k) (cons-some i w ws n) ∙ rw (ne_eqb i k (λ e. omega arith), rest) refl
    ]

places-once : (i : ℕ) (w : List ℕ) → no_repeats (places (costs_from i w)) ≡ true
places-once i [] = refl
places-once i (w ∷ ws) =
    let rest = places-once (i + 1) ws in
    let own = places-low (i + 1) ws i (omega arith) in
    elim (cases_eq w 0) [
      | inl e ↦ ap (λ (cs : List Cost). no_repeats (places cs)) (cons-zero i w ws e) ∙ rest
      | inr n ↦ ap no_repeats (cons-some i w ws n) ∙ rw (own, rest) refl
    ]

pub labels-once : (h : Held) → no_repeats (label_places (labelled_of h)) ≡ true
labels-once h = places-once 0 h.weights

-- the list so far, and what is made of the rest
abbrev pub AreListed : List ℕ → ℕ → List Literal → Type 0
AreListed w i made = map place_of made ++ map (λ (p : Cost). place_of p.lit) (costs_from i (drop i w)) ≡ map (λ (p : Cost). place_of p.lit) (costs_of w)

rest-weights : (w : List ℕ) (i : ℕ) → i < length w → drop i w ≡ weight_in w (literal_at i) ∷ drop (i + 1) w
rest-weights w i h =
    let at : get_or w i 0 ≡ weight_in w (literal_at i) = ap (λ k. get_or w k 0) (sym (place-literal i)) in
    let front : drop i w ≡ get_or w i 0 ∷ drop (i + 1) w = rw (add-one, drop-cons w i 0) in
    front ∙ ap (λ (x : ℕ). x ∷ drop (i + 1) w) at

pub listed-first : (w : List ℕ) (made : List Literal) → made ≡ [] → AreListed w 0 made
listed-first w made e = rw e refl

pub listed-none : (w : List ℕ) (i : ℕ) (made : List Literal) → i < length w → weight_in w (literal_at i) ≡ 0 → AreListed w i made → AreListed w (i + 1) made
listed-none w i made h z inv =
    let own : costs_from i (drop i w) ≡ costs_from (i + 1) (drop (i + 1) w) = ap (costs_from i) (rest-weights w i h) ∙ cons-zero i (weight_in w (literal_at i)) (drop (i + 1) w) z in
    ap (λ (cs : List Cost). map place_of made ++ places cs) (sym own) ∙ inv

pub listed-some : (w : List ℕ) (i : ℕ) (made new : List Literal) (l : Literal) → i < length w → l ≡ literal_at i → weight_in w l ≢ 0 → new ≡ made ++ l ∷ [] → AreListed w i made → AreListed w (i + 1) new
listed-some w i made new l h same n is inv =
    let m : weight_in w (literal_at i) ≢ 0 = subst (λ k. weight_in w k ≢ 0) same n in
    let last : place_of l ≡ i = ap place_of same ∙ place-literal i in
    let rest = places (costs_from (i + 1) (drop (i + 1) w)) in
    let own : places (costs_from i (drop i w)) ≡ i ∷ rest = ap (λ (x : List ℕ). places (costs_from i x)) (rest-weights w i h) ∙ cons-some i (weight_in w (literal_at i)) (drop (i + 1) w) m in
    let put : map place_of new ≡ map place_of made ++ i ∷ [] = ap (map place_of) is ∙ (places-push made l ∙ ap (λ k. map place_of made ++ k ∷ []) last) in
    ap (λ (x : List ℕ). x ++ rest) put ∙ (append_assoc (map place_of made) (i ∷ []) rest ∙ (ap (λ (x : List ℕ). map place_of made ++ x) (sym own) ∙ inv))

pub listed-done : (h : Held) (i : ℕ) (made : List Literal) → length h.weights ≤ i → AreListed h.weights i made → AreLabels h made
listed-done h i made less inv =
    let none : drop i h.weights ≡ [] = drop_all i h.weights less in
    sym (append-nil (map place_of made)) ∙ (ap (λ (x : List ℕ). map place_of made ++ places (costs_from i x)) (sym none) ∙ inv)

-- weights and costs
pub weight-cost : (w : List ℕ) (l : Literal) → weight_in w l ≢ 0 → Contains (costs_of w) (record { lit = l; weight = weight_in w l })
weight-cost w l h =
    let n : 0 + place_of l ≡ place_of l = omega arith in
    let c = has_cost 0 w (place_of l) h in
    rw (n, literal-place l) at c

pub cost-some : (w : List ℕ) (p : Cost) → Contains (costs_of w) p → weight_in w p.lit ≢ 0
cost-some w p m z =
    let c = cost_at 0 w p m in
    let n : 0 + c.place ≡ c.place = omega arith in
    let at : place_of p.lit ≡ c.place = ap (λ (q : Cost). place_of q.lit) c.is ∙ (place-literal (0 + c.place) ∙ n) in
    c.some (sym (ap (λ k. get_or w k 0) at) ∙ z)

pub label-within : (h : Held) (l : Literal) → IsStore h → weight_in h.weights l ≢ 0 → IsUpTo h.vars l
label-within h l s n = All-contains (λ (p : Cost). IsUpTo h.vars p.lit) (costs_of h.weights) (record { lit = l; weight = weight_in h.weights l }) s.labelled.costs_within (weight-cost h.weights l n)

map-has : {X Y : Type 0} (f : X → Y) (xs : List X) (x : X) → Contains xs x → Contains (map f xs) (f x)
map-has f [] x i = absurd (Contains-none x i)
map-has f (y ∷ xs) x i =
    elim (Contains-cases y xs x i) [
      | inl e ↦ subst (λ z. Contains (f y ∷ map f xs) (f z)) (sym e) (Contains-first (f y) (map f xs))
      | inr j ↦ Contains-later (f y) (map f xs) (f x) (map-has f xs x j)
    ]

pub cost-listed : (ps : List Cost) (p : Cost) → Contains ps p → Contains (map (λ (p : Cost). place_of p.lit) ps) (place_of p.lit)
cost-listed ps p i = map-has (λ (q : Cost). place_of q.lit) ps p i

-- the list has each literal with a weight
pub label-has : (h : Held) (ls : List Literal) (l : Literal) → AreLabels h ls → weight_in h.weights l ≢ 0 → Contains ls l
label-has h ls l a n =
    let there : Contains (map place_of ls) (place_of l) = subst (λ xs. Contains xs (place_of l)) (sym a) (cost-listed (costs_of h.weights) (record { lit = l; weight = weight_in h.weights l }) (weight-cost h.weights l n)) in
    let w = Contains-map place_of ls (place_of l) there in
    subst (Contains ls) (sym (same-place l w.0 w.2)) w.1

-- the labels but one
pub others-few : (item : ℕ) (ls : List Literal) → length (places_beside item ls) ≤ length ls
others-few item [] = omega arith
others-few item (l ∷ ls) =
    let rest = others-few item ls in
    elim (place_of l == item) as (λ b. length (cond (not b) (place_of l ∷ places_beside item ls) (places_beside item ls)) ≤ length (l ∷ ls)) [ true ↦ omega arith | false ↦ omega arith ]

pub others-has : (item i : ℕ) (ls : List Literal) → Contains (map place_of ls) i → i ≢ item → Contains (places_beside item ls) i
others-has item i ls m n = filter-has (λ p. not (p == item)) (map place_of ls) i m (ap not (ne_eqb i item n))
