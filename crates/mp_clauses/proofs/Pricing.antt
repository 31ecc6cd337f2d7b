-- Weights by place, as costs.
use Rattle.std.proofs.Common.{◌≡◌, ◌≢◌, ◌⊎◌, ℕ, ◌+◌, ◌-◌, ◌*◌, ◌/◌, ◌%◌, ◌<◌, ◌≤◌, Bool, true, false, cond, List, [], ◌∷◌, ◌++◌, length, get_or, set, zero, suc, refl, sym, ◌∙◌, ap, arith, replicate, sum_by, sum, inl, inr, Contains}
use Rattle.std.specs.Prelude.{◌==◌}
use Rattle.std.proofs.lemmas.Bool.{eqb-true, eq-eqb, ne_eqb, true≢false}
use Rattle.std.proofs.lemmas.List.Sums.{sum_by-cons}
use Rattle.mp_logic.specs.Labelled.{AreApart}
use Rattle.mp_logic.proofs.Members.{Contains-none, Contains-first, Contains-later, Contains-cases, All-from_contained}
use Rattle.mp_logic.specs.Literal.{Literal}
use Rattle.mp_logic.specs.declared.instances.Cost.{Cost}
use Rattle.std.proofs.Math.ListN.{length-set}
use Rattle.mp_clauses.proofs.Steps.{get_or-any}
use Rattle.mp_clauses.specs.Places.{place_of, literal_at}
use Rattle.mp_clauses.specs.Weighing.{costs_from, costs_of}

cost_here : (b : Bool) (c : Cost) (cs : List Cost) → length (cond b cs (c ∷ cs)) ≡ cond b 0 1 + length cs
cost_here true c cs = omega arith
cost_here false c cs = omega arith

pub count-cons : (i w : ℕ) (ws : List ℕ) → length (costs_from i (w ∷ ws)) ≡ cond (w == 0) 0 1 + length (costs_from (i + 1) ws)
count-cons i w ws = cost_here (w == 0) (record { lit = literal_at i; weight = w }) (costs_from (i + 1) ws)

-- how many weights are not 0, once one is put in
pub count-set : (i k x : ℕ) (ws : List ℕ) → k < length ws → length (costs_from i (set ws k x)) + cond (get_or ws k 0 == 0) 0 1 ≡ length (costs_from i ws) + cond (x == 0) 0 1
count-set i k x [] h = absurd (omega arith)
count-set i zero x (w ∷ ws) h = omega (arith, count-cons i w ws, count-cons i x ws)
count-set i (suc k) x (w ∷ ws) h = omega (arith, count-set (i + 1) k x ws (omega arith), count-cons i w ws, count-cons i w (set ws k x))

cond_one : (b : Bool) → cond b 0 1 ≤ 1
cond_one true = omega arith
cond_one false = omega arith

pub count_le : (i : ℕ) (ws : List ℕ) → length (costs_from i ws) ≤ length ws
count_le i [] = omega arith
count_le i (w ∷ ws) = omega (arith, count_le (i + 1) ws, count-cons i w ws, cond_one (w == 0))

pub costs_from-zeros : (i n : ℕ) → costs_from i (replicate n 0) ≡ []
costs_from-zeros i zero = refl
costs_from-zeros i (suc n) = costs_from-zeros (i + 1) n

-- zeros put last cost nothing
pub costs_from-longer : (i : ℕ) (ws : List ℕ) (n : ℕ) → costs_from i (ws ++ replicate n 0) ≡ costs_from i ws
costs_from-longer i [] n = costs_from-zeros i n
costs_from-longer i (w ∷ ws) n = ap (λ cs. cond (w == 0) cs (record { lit = literal_at i; weight = w } ∷ cs)) (costs_from-longer (i + 1) ws n)

zero-count : (ws : List ℕ) (i k : ℕ) → k < length ws → cond (get_or ws k 0 == 0) 0 1 ≤ length (costs_from i ws)
zero-count [] i k h = absurd (omega arith)
zero-count (w ∷ ws) i zero h = omega (arith, count-cons i w ws)
zero-count (w ∷ ws) i (suc k) h = omega (arith, zero-count ws (i + 1) k (omega arith), count-cons i w ws)

room-put : (ws : List ℕ) (k r was count : ℕ) → k < length ws → r ≡ get_or ws k r → was ≡ cond (r == 0) 0 1 → count ≡ length (costs_of ws) → was ≤ count
room-put ws k r was count h e f n =
    let same : get_or ws k 0 ≡ r = get_or-any ws k 0 r h ∙ sym e in
    let z : cond (get_or ws k 0 == 0) 0 1 ≤ length (costs_from 0 ws) = zero-count ws 0 k h in
    rw (f, n) (rw same at z)

-- what is counted once a weight is put in
pub put-count : (ws : List ℕ) (k x r was now count : ℕ) → k < length ws → r ≡ get_or ws k r → was ≡ cond (r == 0) 0 1 → now ≡ cond (x == 0) 0 1 → count ≡ length (costs_of ws) →
    (was ≤ count) × (count - was + now ≡ length (costs_of (set ws k x))) × (count - was + now ≤ length ws)
put-count ws k x r was now count h e f g n =
    let same : get_or ws k 0 ≡ r = get_or-any ws k 0 r h ∙ sym e in
    let s = count-set 0 k x ws h in
    let t : length (costs_from 0 (set ws k x)) + was ≡ count + now = rw (f, g, n) (rw same at s) in
    let below = count_le 0 (set ws k x) in
    let len = length-set ws k x in
    let one = cond_one (r == 0) in
    let room : was ≤ count = room-put ws k r was count h e f n in
    (room, omega (arith, t, room), omega (arith, t, room, below, len))

-- a literal and its place
pub place-literal : (p : ℕ) → place_of (literal_at p) ≡ p
place-literal p =
    let step : (b : Bool) → (p % 2 == 1) ≡ b → 2 * (p / 2) + cond b 1 0 ≡ p = λ (t : Bool). elim t as (λ b. (p % 2 == 1) ≡ b → 2 * (p / 2) + cond b 1 0 ≡ p) [ true ↦ λ e. let f = eqb-true (p % 2) 1 e in omega arith | false ↦ λ e. let f : p % 2 ≢ 1 = λ g. true≢false (sym (eq-eqb (p % 2) 1 g) ∙ e) in omega arith ] in
    step (p % 2 == 1) refl

half : (v : ℕ) (b : Bool) → ((2 * v + cond b 1 0) / 2 ≡ v) × (((2 * v + cond b 1 0) % 2 == 1) ≡ b)
half v true = let e : (2 * v + 1) % 2 ≡ 1 = omega arith in (omega arith, eq-eqb ((2 * v + 1) % 2) 1 e)
half v false = let e : (2 * v + 0) % 2 ≡ 0 = omega arith in (omega arith, rw e refl)

by_parts : (k l : Literal) → k.variable ≡ l.variable → k.negative ≡ l.negative → k ≡ l
by_parts k l e f =
    let first : k ≡ record { variable = l.variable; negative = k.negative } = ap (λ (v : ℕ). record { variable = v; negative = k.negative }) e in
    first ∙ ap (λ (n : Bool). record { variable = l.variable; negative = n }) f

pub literal-place : (l : Literal) → literal_at (place_of l) ≡ l
literal-place l = let h = half l.variable l.negative in by_parts (literal_at (place_of l)) l h.0 h.1

pub same-place : (k l : Literal) → place_of k ≡ place_of l → k ≡ l
same-place k l e = sym (literal-place k) ∙ (ap literal_at e ∙ literal-place l)

-- a cost and the weight of its place
pub record CostAt (i : ℕ) (ws : List ℕ) (q : Cost) : Type 0 where
  pub place : ℕ
  pub within : place < length ws
  pub is : q ≡ record { lit = literal_at (i + place); weight = get_or ws place 0 }
  pub some : get_or ws place 0 ≢ 0

cost_at-first : (i w : ℕ) (ws : List ℕ) (q : Cost) → (w == 0) ≡ false → q ≡ record { lit = literal_at i; weight = w } → CostAt i (w ∷ ws) q
cost_at-first i w ws q z e = record {
  place = 0;
  within = omega arith;
  is = let n : i + 0 ≡ i = omega arith in rw n e;
  some = λ f. true≢false (sym (eq-eqb w 0 f) ∙ z);
}

cost_at-later : (i w : ℕ) (ws : List ℕ) (q : Cost) → CostAt (i + 1) ws q → CostAt i (w ∷ ws) q
cost_at-later i w ws q h = record {
  place = suc h.place;
  within = omega (arith, h.within);
  is = let n : i + suc h.place ≡ i + 1 + h.place = omega arith in rw n h.is;
  some = h.some;
}

pub cost_at : (i : ℕ) (ws : List ℕ) (q : Cost) → Contains (costs_from i ws) q → CostAt i ws q
cost_at i [] q h = absurd (Contains-none q h)
cost_at i (w ∷ ws) q h =
    let step : (b : Bool) → (w == 0) ≡ b → Contains (cond b (costs_from (i + 1) ws) (record { lit = literal_at i; weight = w } ∷ costs_from (i + 1) ws)) q → CostAt i (w ∷ ws) q =
    λ (t : Bool). elim t as (λ b. (w == 0) ≡ b → Contains (cond b (costs_from (i + 1) ws) (record { lit = literal_at i; weight = w } ∷ costs_from (i + 1) ws)) q → CostAt i (w ∷ ws) q) [
      | true ↦ λ e m. cost_at-later i w ws q (cost_at (i + 1) ws q m)
      | false ↦ λ e m. elim (Contains-cases (record { lit = literal_at i; weight = w }) (costs_from (i + 1) ws) q m) [ inl f ↦ cost_at-first i w ws q e f | inr r ↦ cost_at-later i w ws q (cost_at (i + 1) ws q r) ]
    ] in
    step (w == 0) refl h

pub has_cost : (i : ℕ) (ws : List ℕ) (k : ℕ) → get_or ws k 0 ≢ 0 → Contains (costs_from i ws) (record { lit = literal_at (i + k); weight = get_or ws k 0 })
has_cost i [] k h = absurd (h refl)
has_cost i (w ∷ ws) zero h =
    let n : i + 0 ≡ i = omega arith in
    let z : (w == 0) ≡ false = ne_eqb w 0 h in
    rw (n, z) (Contains-first (record { lit = literal_at i; weight = w }) (costs_from (i + 1) ws))
has_cost i (w ∷ ws) (suc k) h =
    let n : i + suc k ≡ i + 1 + k = omega arith in
    let rest = has_cost (i + 1) ws k h in
    let step : (b : Bool) → Contains (cond b (costs_from (i + 1) ws) (record { lit = literal_at i; weight = w } ∷ costs_from (i + 1) ws)) (record { lit = literal_at (i + 1 + k); weight = get_or ws k 0 }) =
    λ (t : Bool). elim t as (λ b. Contains (cond b (costs_from (i + 1) ws) (record { lit = literal_at i; weight = w } ∷ costs_from (i + 1) ws)) (record { lit = literal_at (i + 1 + k); weight = get_or ws k 0 })) [ true ↦ rest | false ↦ Contains-later _ _ _ rest ] in
    rw n (step (w == 0))

-- all costs weigh what the table does
pub sum-costs : (i : ℕ) (ws : List ℕ) → sum_by (λ (p : Cost). p.weight) (costs_from i ws) ≡ sum ws
sum-costs i [] = refl
sum-costs i (w ∷ ws) =
    let rest = sum-costs (i + 1) ws in
    let here : sum (w ∷ ws) ≡ w + sum ws = sum_by-cons (λ x. x) w ws in
    let step : (b : Bool) → (w == 0) ≡ b → sum_by (λ (p : Cost). p.weight) (cond b (costs_from (i + 1) ws) (record { lit = literal_at i; weight = w } ∷ costs_from (i + 1) ws)) ≡ sum (w ∷ ws) =
    λ (t : Bool). elim t as (λ b. (w == 0) ≡ b → sum_by (λ (p : Cost). p.weight) (cond b (costs_from (i + 1) ws) (record { lit = literal_at i; weight = w } ∷ costs_from (i + 1) ws)) ≡ sum (w ∷ ws)) [
      | true ↦ λ e. let f = eqb-true w 0 e in omega arith
      | false ↦ λ e. omega (arith, sum_by-cons (λ (p : Cost). p.weight) (record { lit = literal_at i; weight = w }) (costs_from (i + 1) ws))
    ] in
    step (w == 0) refl

-- where of each variable at most one literal has a weight, no variable has two cost literals
abbrev SameTable : ℕ → List ℕ → (ℕ → ℕ) → Type 0
SameTable i ws f = (k : ℕ) → get_or ws k 0 ≡ f (i + k)

same_table-rest : (i w : ℕ) (ws : List ℕ) (f : ℕ → ℕ) → SameTable i (w ∷ ws) f → SameTable (i + 1) ws f
same_table-rest i w ws f h k = let n : i + suc k ≡ i + 1 + k = omega arith in h (suc k) ∙ ap f n

apart_here : (i w : ℕ) (ws : List ℕ) (f : ℕ → ℕ) → SameTable i (w ∷ ws) f → ((v : ℕ) → (f (2 * v) ≡ 0) ⊎ (f (2 * v + 1) ≡ 0)) → w ≢ 0 → (q : Cost) → CostAt (i + 1) ws q → q.lit.variable ≢ (literal_at i).variable
apart_here i w ws f h one z q c e =
    let v = i / 2 in
    let same : (i + 1 + c.place) / 2 ≡ i / 2 = sym (ap (λ (p : Cost). p.lit.variable) c.is) ∙ e in
    let even : i ≡ 2 * v = omega arith in
    let next : c.place ≡ 0 = omega arith in
    let own : f (2 * v) ≡ w = let n : i + 0 ≡ 2 * v = omega arith in sym (h 0 ∙ ap f n) in
    let other : f (2 * v + 1) ≢ 0 = λ g. let n : i + suc c.place ≡ 2 * v + 1 = omega arith in c.some (h (suc c.place) ∙ (ap f n ∙ g)) in
    elim (one v) [ inl a ↦ z (sym own ∙ a) | inr b ↦ other b ]

pub costs_apart : (i : ℕ) (ws : List ℕ) (f : ℕ → ℕ) → SameTable i ws f → ((v : ℕ) → (f (2 * v) ≡ 0) ⊎ (f (2 * v + 1) ≡ 0)) → AreApart (costs_from i ws)
costs_apart i [] f h one = tt
costs_apart i (w ∷ ws) f h one =
    let rest = costs_apart (i + 1) ws f (same_table-rest i w ws f h) one in
    let step : (b : Bool) → (w == 0) ≡ b → AreApart (cond b (costs_from (i + 1) ws) (record { lit = literal_at i; weight = w } ∷ costs_from (i + 1) ws)) =
    λ (t : Bool). elim t as (λ b. (w == 0) ≡ b → AreApart (cond b (costs_from (i + 1) ws) (record { lit = literal_at i; weight = w } ∷ costs_from (i + 1) ws))) [
      | true ↦ λ e. rest
      | false ↦ λ e. (All-from_contained (λ q. q.lit.variable ≢ (literal_at i).variable) (costs_from (i + 1) ws) (λ q m. apart_here i w ws f h one (λ g. true≢false (sym (eq-eqb w 0 g) ∙ e)) q (cost_at (i + 1) ws q m)), rest)
    ] in
    step (w == 0) refl
