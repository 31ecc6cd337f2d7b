-- What a rewrite leaves of a store's clauses and costs.
use Rattle.std.proofs.Common.{◌≡◌, ◌≢◌, ℕ, ◌+◌, ◌*◌, ◌<◌, ◌≤◌, Bool, true, false, not, cond, List, [], ◌∷◌, ◌++◌, length, get_or, set, zero, suc, refl, sym, ◌∙◌, ap, subst, arith, replicate, sum_by, inl, inr, Contains, get_or-set_other}
use Rattle.std.specs.Prelude.{Option, Some, None, ◌==◌, map}
use Rattle.std.specs.List.{count_by}
use Rattle.std.proofs.Math.ListN.{length-set}
use Rattle.std.proofs.lemmas.Bool.{cases_eq, eqb-true, eq-eqb, and_parts, not-true, or_left, or_right, true≢false}
use Rattle.std.proofs.lemmas.List.{length-append, length-replicate}
use Rattle.std.proofs.lemmas.List.Elements.{All-contains}
use Rattle.std.proofs.lemmas.List.Sums.{sum_by-cons}
use Rattle.mp_logic.specs.Literal.{Literal, IsUpTo}
use Rattle.mp_logic.specs.Truth.{literal_value}
use Rattle.mp_logic.specs.Keeping.{charged}
use Rattle.mp_logic.specs.declared.instances.Cost.{Cost}
use Rattle.mp_logic.proofs.Members.{Contains-none, Contains-first, Contains-later, Contains-cases}
use Rattle.mp_store.specs.declared.rewrite.Rewrite.{Rewrite}
use Rattle.mp_clauses.specs.Places.{place_of, literal_at, is_in, no_repeats}
use Rattle.mp_store.specs.Held.{Held}
use Rattle.mp_clauses.specs.Slots.{clause_of, live_clauses}
use Rattle.mp_clauses.specs.Weighing.{costs_from, costs_of}
use Rattle.mp_clauses.specs.Slots.{cleared}
use Rattle.mp_clauses.specs.Weighing.{weighted}
use Rattle.mp_store.specs.Rewriting.{weights_after, IsValid}
use Rattle.mp_store.specs.Soundness.{IsStore}
use Rattle.mp_store.specs.Changes.{priced, weight_before, SumsChange, PaymentsChange, TotalsChange, CountsChange, SameCounts}
use Rattle.mp_clauses.proofs.Pricing.{literal-place, costs_from-longer}
use Rattle.mp_store.proofs.Sound.{live-after, get_or-longer}
use Rattle.mp_store.proofs.KeptFixing.{cleared-out}

abbrev pub cost_of : ℕ → ℕ → Cost
cost_of p w = record { lit = literal_at p; weight = w }

sum-cons : (f : Cost → ℕ) (i w : ℕ) (ws : List ℕ) → sum_by f (costs_from i (w ∷ ws)) ≡ priced f (cost_of i w) + sum_by f (costs_from (i + 1) ws)
sum-cons f i w ws =
    let step : (b : Bool) → sum_by f (cond b (costs_from (i + 1) ws) (cost_of i w ∷ costs_from (i + 1) ws)) ≡ cond b 0 (f (cost_of i w)) + sum_by f (costs_from (i + 1) ws) =
    λ (t : Bool). elim t as (λ b. sum_by f (cond b (costs_from (i + 1) ws) (cost_of i w ∷ costs_from (i + 1) ws)) ≡ cond b 0 (f (cost_of i w)) + sum_by f (costs_from (i + 1) ws)) [
      | true ↦ omega arith
      | false ↦ sum_by-cons f (cost_of i w) (costs_from (i + 1) ws)
    ] in
    step (w == 0)

-- a sum over costs once a weight is put in
pub sum-set : (f : Cost → ℕ) (i : ℕ) (ws : List ℕ) (k x : ℕ) → k < length ws → sum_by f (costs_from i (set ws k x)) + priced f (cost_of (i + k) (get_or ws k 0)) ≡ sum_by f (costs_from i ws) + priced f (cost_of (i + k) x)
sum-set f i [] k x h = absurd (omega arith)
sum-set f i (w ∷ ws) zero x h =
    let n : i + 0 ≡ i = omega arith in
    rw n (omega (arith, sum-cons f i w ws, sum-cons f i x ws))
sum-set f i (w ∷ ws) (suc k) x h =
    let n : i + suc k ≡ i + 1 + k = omega arith in
    let rest = sum-set f (i + 1) ws k x (omega arith) in
    rw n (omega (arith, sum-cons f i w ws, sum-cons f i w (set ws k x), rest))

sum-put : (f : Cost → ℕ) (w : List ℕ) (c : Cost) → place_of c.lit < length w → sum_by f (costs_of (set w (place_of c.lit) c.weight)) + priced f (weight_before w c) ≡ sum_by f (costs_of w) + priced f c
sum-put f w c h =
    let n : 0 + place_of c.lit ≡ place_of c.lit = omega arith in
    let s = sum-set f 0 w (place_of c.lit) c.weight h in
    rw (n, literal-place c.lit) at s

pub same-sum : {X : Type 0} (f g : X → ℕ) (xs : List X) → ((x : X) → Contains xs x → f x ≡ g x) → sum_by f xs ≡ sum_by g xs
same-sum f g [] h = refl
same-sum f g (x ∷ xs) h =
    let first = h x (Contains-first x xs) in
    let rest = same-sum f g xs (λ y i. h y (Contains-later x xs y i)) in
    omega (arith, first, rest, sum_by-cons f x xs, sum_by-cons g x xs)

place-in : (cs : List Cost) (c : Cost) → Contains cs c → is_in (place_of c.lit) (map (λ (c : Cost). place_of c.lit) cs) ≡ true
place-in [] c h = absurd (Contains-none c h)
place-in (d ∷ cs) c h =
    elim (Contains-cases d cs c h) [
      | inl e ↦ or_left (place_of d.lit == place_of c.lit) (is_in (place_of c.lit) (map (λ (c : Cost). place_of c.lit) cs)) (eq-eqb (place_of d.lit) (place_of c.lit) (ap (λ (x : Cost). place_of x.lit) (sym e)))
      | inr r ↦ or_right (place_of d.lit == place_of c.lit) (is_in (place_of c.lit) (map (λ (c : Cost). place_of c.lit) cs)) (place-in cs c r)
    ]

pub sum-weighted-all : (f : Cost → ℕ) (cs : List Cost) (w : List ℕ) → no_repeats (map (λ (c : Cost). place_of c.lit) cs) ≡ true → ((c : Cost) → Contains cs c → place_of c.lit < length w)
    → sum_by f (costs_of (weighted cs w)) + sum_by (λ c. priced f (weight_before w c)) cs ≡ sum_by f (costs_of w) + sum_by (priced f) cs
sum-weighted-all f [] w d h = refl
sum-weighted-all f (c ∷ cs) w d h =
    let parts = and_parts (not (is_in (place_of c.lit) (map (λ (c : Cost). place_of c.lit) cs))) (no_repeats (map (λ (c : Cost). place_of c.lit) cs)) d in
    let w1 = set w (place_of c.lit) c.weight in
    let far : (x : Cost) → Contains cs x → priced f (weight_before w1 x) ≡ priced f (weight_before w x) = λ x i.
    let other : place_of x.lit ≢ place_of c.lit = λ e. true≢false (sym (place-in cs x i) ∙ (ap (λ p. is_in p (map (λ (c : Cost). place_of c.lit) cs)) e ∙ not-true (is_in (place_of c.lit) (map (λ (c : Cost). place_of c.lit) cs)) parts.0)) in
    ap (λ n. priced f (record { lit = x.lit; weight = n })) (get_or-set_other w (place_of c.lit) (place_of x.lit) c.weight 0 other) in
    let len = length-set w (place_of c.lit) c.weight in
    let rest = sum-weighted-all f cs w1 parts.1 (λ x i. let l = h x (Contains-later c cs x i) in omega arith) in
    let same = same-sum (λ x. priced f (weight_before w1 x)) (λ x. priced f (weight_before w x)) cs far in
    let own = sum-put f w c (h c (Contains-first c cs)) in
    omega (arith, rest, same, own, sum_by-cons (λ x. priced f (weight_before w x)) c cs, sum_by-cons (priced f) c cs)

pub costs-reach : (r : Rewrite) (h : Held) → IsStore h → IsValid r h → (c : Cost) → Contains r.costs c → place_of c.lit < length (h.weights ++ replicate (2 * r.fresh) 0)
costs-reach r h s v c i =
    let up = All-contains (λ (d : Cost). IsUpTo (h.vars + r.fresh) d.lit) r.costs c v.costs_within i in
    let a = length-append h.weights (replicate (2 * r.fresh) 0) in
    let b = length-replicate {A = ℕ} (2 * r.fresh) 0 in
    let len = s.weights.len in
    let sign : cond c.lit.negative 1 0 ≤ 1 = elim c.lit.negative as (λ n. cond n 1 0 ≤ 1) [ true ↦ omega arith | false ↦ omega arith ] in
    omega arith

pub sums_change : SumsChange
sums_change r h f s v =
    let w = h.weights ++ replicate (2 * r.fresh) 0 in
    let all = sum-weighted-all f r.costs w v.costs_distinct (costs-reach r h s v) in
    let longer : sum_by f (costs_of w) ≡ sum_by f (costs_of h.weights) = ap (sum_by f) (costs_from-longer 0 h.weights (2 * r.fresh)) in
    let same = same-sum (λ c. priced f (weight_before w c)) (λ c. priced f (weight_before h.weights c)) r.costs (λ c i. ap (λ n. priced f (record { lit = c.lit; weight = n })) (get_or-longer h.weights (2 * r.fresh) (place_of c.lit))) in
    omega (arith, all, longer, same)

-- where a weight of 0 counts for nothing anyway
pub priced-same : (f : Cost → ℕ) → ((l : Literal) → f (record { lit = l; weight = 0 }) ≡ 0) → (c : Cost) → priced f c ≡ f c
priced-same f z c =
    let step : (b : Bool) → (c.weight == 0) ≡ b → cond b 0 (f c) ≡ f c =
    λ (t : Bool). elim t as (λ b. (c.weight == 0) ≡ b → cond b 0 (f c) ≡ f c) [
      | true ↦ λ e. let n : c.weight ≡ 0 = eqb-true c.weight 0 e in sym (z c.lit) ∙ ap (λ k. f (record { lit = c.lit; weight = k })) (sym n)
      | false ↦ λ e. refl
    ] in
    step (c.weight == 0) refl

pub cond-zero : (b : Bool) → cond {A = ℕ} b 0 0 ≡ 0
cond-zero true = refl
cond-zero false = refl

pub plain-sums : (f : Cost → ℕ) → ((l : Literal) → f (record { lit = l; weight = 0 }) ≡ 0) → (r : Rewrite) (h : Held) → IsStore h → IsValid r h
    → sum_by f (costs_of (weights_after r h)) + sum_by (λ c. f (weight_before h.weights c)) r.costs ≡ sum_by f (costs_of h.weights) + sum_by f r.costs
plain-sums f z r h s v =
    let all = sums_change r h f s v in
    let a = same-sum (λ c. priced f (weight_before h.weights c)) (λ c. f (weight_before h.weights c)) r.costs (λ c i. priced-same f z (weight_before h.weights c)) in
    let b = same-sum (priced f) f r.costs (λ c i. priced-same f z c) in
    omega (arith, all, a, b)

pub payments_change : PaymentsChange
payments_change r h a s v = let p = plain-sums (charged a) (λ l. cond-zero (literal_value a l)) r h s v in omega (arith, p)

pub totals_change : TotalsChange
totals_change r h s v = let p = plain-sums (λ (c : Cost). c.weight) (λ l. refl) r h s v in omega (arith, p)

pub ones : {X : Type 0} (xs : List X) → sum_by (λ x. 1) xs ≡ length xs
ones [] = refl
ones (x ∷ xs) = omega (arith, ones xs, sum_by-cons (λ x. 1) x xs)

pub counts_change : CountsChange
counts_change r h s v = let p = sums_change r h (λ c. 1) s v in omega (arith, p, ones (costs_of (weights_after r h)), ones (costs_of h.weights))

is_in-own : (k : ℕ) → is_in k (k ∷ []) ≡ true
is_in-own k = or_left (k == k) false (eq-eqb k k refl)

-- clauses of which none that goes and none that comes passes a test are as many as before
count-gone : (p : List Literal → Bool) (s : List (Option (List Literal))) (k : ℕ) → ((c : List Literal) → clause_of s k ≡ Some c → p c ≡ false) → count_by p (live_clauses (set s k None)) ≡ count_by p (live_clauses s)
count-gone p [] k h = refl
count-gone p (None ∷ s) zero h = refl
count-gone p (Some c ∷ s) zero h =
    let own : cond {A = ℕ} (p c) 1 0 ≡ 0 = ap (λ b. cond {A = ℕ} b 1 0) (h c refl) in
    omega (arith, own, sum_by-cons (λ x. cond {A = ℕ} (p x) 1 0) c (live_clauses s))
count-gone p (None ∷ s) (suc k) h = count-gone p s k h
count-gone p (Some c ∷ s) (suc k) h =
    let rest = count-gone p s k h in
    omega (arith, rest, sum_by-cons (λ x. cond {A = ℕ} (p x) 1 0) c (live_clauses s), sum_by-cons (λ x. cond {A = ℕ} (p x) 1 0) c (live_clauses (set s k None)))

still-false : (p : List Literal → Bool) (s : List (Option (List Literal))) (g k : ℕ) → ((c : List Literal) → clause_of s k ≡ Some c → p c ≡ false) → (c : List Literal) → clause_of (set s g None) k ≡ Some c → p c ≡ false
still-false p s g k h c e =
    elim (cases_eq g k) [
      | inl f ↦ absurd (let z : clause_of (set s k None) k ≡ None = cleared-out (k ∷ []) s k (is_in-own k) in let y : clause_of (set s k None) k ≡ Some c = subst (λ j. clause_of (set s j None) k ≡ Some c) f e in cc)
      | inr n ↦ h c (sym (get_or-set_other s g k None None (λ m. n (sym m))) ∙ e)
    ]

count-cleared : (p : List Literal → Bool) (gone : List ℕ) (s : List (Option (List Literal))) → ((k : ℕ) (c : List Literal) → Contains gone k → clause_of s k ≡ Some c → p c ≡ false) → count_by p (live_clauses (cleared gone s)) ≡ count_by p (live_clauses s)
count-cleared p [] s h = refl
count-cleared p (g ∷ gs) s h =
    count-cleared p gs (set s g None) (λ k c i e. still-false p s g k (λ d f. h k d (Contains-later g gs k i) f) c e)
    ∙ count-gone p s g (λ c e. h g c (Contains-first g gs) e)

count-none : (p : List Literal → Bool) (cs : List (List Literal)) → ((c : List Literal) → Contains cs c → p c ≡ false) → count_by p cs ≡ 0
count-none p [] h = refl
count-none p (c ∷ cs) h =
    let rest = count-none p cs (λ d i. h d (Contains-later c cs d i)) in
    let own : cond {A = ℕ} (p c) 1 0 ≡ 0 = ap (λ b. cond {A = ℕ} b 1 0) (h c (Contains-first c cs)) in
    omega (arith, rest, own, sum_by-cons (λ x. cond {A = ℕ} (p x) 1 0) c cs)

count-append : (p : List Literal → Bool) (xs ys : List (List Literal)) → count_by p (xs ++ ys) ≡ count_by p xs + count_by p ys
count-append p [] ys = omega arith
count-append p (x ∷ xs) ys =
    let rest = count-append p xs ys in
    omega (arith, rest, sum_by-cons (λ x. cond {A = ℕ} (p x) 1 0) x xs, sum_by-cons (λ x. cond {A = ℕ} (p x) 1 0) x (xs ++ ys))

pub same_counts : SameCounts
same_counts r h p gone added =
    let a = count-cleared p r.gone h.slots gone in
    let b = count-none p r.added added in
    let c = count-append p (live_clauses (cleared r.gone h.slots)) r.added in
    ap (count_by p) (live-after r.gone r.added h.slots) ∙ omega (arith, a, b, c)
