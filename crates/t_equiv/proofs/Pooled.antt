-- Weights moved to images, cancelled, and noted.
use Rattle.std.proofs.Common.{◌≡◌, ◌≢◌, ◌⊎◌, ℕ, ◌+◌, ◌-◌, ◌*◌, ◌<◌, ◌≤◌, Bool, true, false, not, cond, List, [], ◌∷◌, ◌++◌, length, map, take, All, get_or, set, replicate, zero, suc, refl, ap, sym, ◌∙◌, subst, arith, inl, inr, sum}
use Rattle.std.specs.Prelude.{◌==◌, ◌||◌}
use Rattle.std.proofs.lemmas.Bool.{cases_Bool, cases_lt, true≢false, eq-eqb, and_parts, and_from, not-true}
use Rattle.std.proofs.lemmas.List.{get_or-set_same, get_or-set_other, length-set, length-replicate, ext_get_or}
use Rattle.std.proofs.lemmas.List.Sums.{sum_by-cons, sum_by-take-le}
use Rattle.std.proofs.Math.Seq.{take-suc}
use Rattle.std.proofs.lemmas.List.Elements.{All-contains, Contains-append_cases}
use Rattle.mp_logic.specs.Literal.{Literal, IsUpTo}
use Rattle.mp_clauses.specs.Places.{place_of, is_in, no_repeats}
use Rattle.mp_clauses.specs.Weighing.{weighted}
use Rattle.mp_clauses.proofs.Found.{is_in-by, is_in-contains}
use Rattle.mp_store.proofs.Sound.{zeros, length-weighted}
use Rattle.mp_logic.specs.declared.instances.Cost.{Cost}
use Rattle.mp_logic.proofs.Members.{Contains-none, Contains-one, Contains-map, All-from_contained}
use Rattle.t_equiv.specs.Pooling.{worth, image_place, AreMoved, IsLowered, AreCancelled, AreNoted}

pub worth-set : (b : ℕ → Bool) (i : ℕ) (ws : List ℕ) (k x : ℕ) → k < length ws → worth b i (set ws k x) + cond (b (i + k)) (get_or ws k 0) 0 ≡ worth b i ws + cond (b (i + k)) x 0
worth-set b i [] k x h = absurd (omega arith)
worth-set b i (w ∷ ws) zero x h =
    let n : i + 0 ≡ i = omega arith in
    rw n (omega arith)
worth-set b i (w ∷ ws) (suc k) x h =
    let n : i + suc k ≡ i + 1 + k = omega arith in
    let rest = worth-set b (i + 1) ws k x (omega arith) in
    rw n (omega (arith, rest))

pub worth-append : (b : ℕ → Bool) (i : ℕ) (xs ys : List ℕ) → worth b i (xs ++ ys) ≡ worth b i xs + worth b (i + length xs) ys
worth-append b i [] ys = let n : i + 0 ≡ i = omega arith in rw n (omega arith)
worth-append b i (x ∷ xs) ys =
    let rest = worth-append b (i + 1) xs ys in
    let n : i + suc (length xs) ≡ i + 1 + length xs = omega arith in
    rw n (omega (arith, rest))

pub worth-same : (b c : ℕ → Bool) (i : ℕ) (ws : List ℕ) → ((p : ℕ) → b p ≡ c p) → worth b i ws ≡ worth c i ws
worth-same b c i [] e = refl
worth-same b c i (w ∷ ws) e =
    let rest = worth-same b c (i + 1) ws e in
    let one : cond (b i) w 0 ≡ cond (c i) w 0 = ap (λ t. cond t w 0) (e i) in
    omega (arith, rest, one)

cond-le : (t : Bool) (w : ℕ) → cond t w 0 ≤ w
cond-le true w = omega arith
cond-le false w = omega arith

pub worth-zeros : (b : ℕ → Bool) (i n : ℕ) → worth b i (replicate n 0) ≡ 0
worth-zeros b i zero = refl
worth-zeros b i (suc n) =
    let rest = worth-zeros b (i + 1) n in
    let one : cond (b i) 0 0 ≤ 0 = cond-le (b i) 0 in
    omega (arith, rest, one)

pub worth-all : (i : ℕ) (ws : List ℕ) → worth (λ p. true) i ws ≡ sum ws
worth-all i [] = refl
worth-all i (w ∷ ws) = let rest = worth-all (i + 1) ws in omega (arith, rest, sum_by-cons (λ n. n) w ws)

pub worth-most : (b : ℕ → Bool) (i : ℕ) (ws : List ℕ) → worth b i ws ≤ sum ws
worth-most b i [] = omega arith
worth-most b i (w ∷ ws) = let rest = worth-most b (i + 1) ws in let one = cond-le (b i) w in omega (arith, rest, one, sum_by-cons (λ n. n) w ws)

pub one-below : (ws : List ℕ) (k : ℕ) → get_or ws k 0 ≤ sum ws
one-below [] k = omega arith
one-below (w ∷ ws) zero = omega (arith, sum_by-cons (λ n. n) w ws)
one-below (w ∷ ws) (suc k) = let rest = one-below ws k in omega (arith, sum_by-cons (λ n. n) w ws)

take-next : (ws : List ℕ) (p : ℕ) → p < length ws → take (p + 1) ws ≡ take p ws ++ get_or ws p 0 ∷ []
take-next ws p h = let n : p + 1 ≡ suc p = omega arith in rw n (take-suc ws p 0 h)

length-take-le : (ws : List ℕ) (p : ℕ) → p ≤ length ws → length (take p ws) ≡ p
length-take-le ws zero h = refl
length-take-le [] (suc p) h = absurd (omega arith)
length-take-le (w ∷ ws) (suc p) h = let rest = length-take-le ws p (omega arith) in omega arith

pub sum-take : (ws : List ℕ) (p : ℕ) → sum (take p ws) ≤ sum ws
sum-take ws p = sum_by-take-le (λ n. n) ws p

worth-next : (b : ℕ → Bool) (ws : List ℕ) (p : ℕ) → p < length ws → worth b 0 (take (p + 1) ws) ≡ worth b 0 (take p ws) + cond (b p) (get_or ws p 0) 0
worth-next b ws p h =
    let split = worth-append b 0 (take p ws) (get_or ws p 0 ∷ []) in
    let n : 0 + length (take p ws) ≡ p = let k = length-take-le ws p (omega arith) in omega arith in
    rw (take-next ws p h, split, n) (omega arith)

-- one weight more is moved
cond-sum : (t : Bool) (m w : ℕ) → cond t (m + w) 0 ≡ cond t m 0 + cond t w 0
cond-sum true m w = refl
cond-sum false m w = refl

pub moved-more : (im : List Literal) (ws moved moved' : List ℕ) (p q : ℕ) → p < length ws → 2 ≤ q → q < length moved → q ≡ image_place im p → moved' ≡ set moved q (get_or moved q 0 + get_or ws p 0) → AreMoved im ws p moved → AreMoved im ws (p + 1) moved'
moved-more im ws moved moved' p q lp two lq at e h = rw e (record {
  many = length-set moved q (get_or moved q 0 + get_or ws p 0) ∙ h.many;
  same = λ b.
      let step = worth-set b 0 moved q (get_or moved q 0 + get_or ws p 0) lq in
      let n : 0 + q ≡ q = omega arith in
      let next = worth-next (λ x. b (image_place im x)) ws p lp in
      let split = cond-sum (b q) (get_or moved q 0) (get_or ws p 0) in
      let turned : cond (b q) (get_or ws p 0) 0 ≡ cond (b (image_place im p)) (get_or ws p 0) 0 = ap (λ x. cond (b x) (get_or ws p 0) 0) at in
      let before = h.same b in
      let step' = rw n at step in
      omega (arith, step', next, split, turned, before);
  none = λ x l. get_or-set_other moved q x (get_or moved q 0 + get_or ws p 0) 0 (λ s. omega arith) ∙ h.none x l;
})

-- moved weights are bounded by all weights
pub moved-below : (im : List Literal) (ws moved : List ℕ) (p q : ℕ) → AreMoved im ws p moved → get_or moved q 0 ≤ sum ws
moved-below im ws moved p q h =
    let a = one-below moved q in
    let b = worth-all 0 moved in
    let c = h.same (λ x. true) in
    let d = worth-most (λ x. true) 0 (take p ws) in
    let e = sum-take ws p in
    omega (arith, a, b, c, d, e)

-- before any
pub moved-start : (im : List Literal) (ws : List ℕ) (n : ℕ) → length ws ≡ n → 2 ≤ n → get_or ws 0 0 ≡ 0 → get_or ws 1 0 ≡ 0 → AreMoved im ws 2 (replicate n 0)
moved-start im [] n e l a b = absurd (omega arith)
moved-start im (x ∷ []) n e l a b = absurd (omega arith)
moved-start im (x ∷ y ∷ ws) n e l a b = record {
  many = length-replicate n 0 ∙ sym e;
  same = λ t.
      let z = worth-zeros t 0 n in
      let one = cond-le (t (image_place im 0)) x in
      let two = cond-le (t (image_place im 1)) y in
      omega (arith, z, one, two, a, b);
  none = λ q l. zeros n q;
}

-- the weights of one variable more are cancelled
cond-minus : (t : Bool) (a low : ℕ) → low ≤ a → cond t a 0 ≡ cond t (a - low) 0 + cond t low 0
cond-minus true a low h = omega arith
cond-minus false a low h = omega arith

cond-both : (t u : Bool) (low : ℕ) → u ≡ not t → cond t low 0 + cond u low 0 ≡ low
cond-both true u low e = rw e (omega arith)
cond-both false u low e = rw e (omega arith)

lowered-worth : (now now' : List ℕ) (v low : ℕ) (b : ℕ → Bool) → 2 * v + 1 < length now → IsLowered now v now' low → worth b 0 now' + cond (b (2 * v)) low 0 + cond (b (2 * v + 1)) low 0 ≡ worth b 0 now
lowered-worth now now' v low b l h =
    let a = get_or now (2 * v) 0 in
    let c = get_or now (2 * v + 1) 0 in
    let first = worth-set b 0 now (2 * v) (a - low) (omega arith) in
    let wide : 2 * v + 1 < length (set now (2 * v) (a - low)) = subst (λ n. 2 * v + 1 < n) (sym (length-set now (2 * v) (a - low))) l in
    let second = worth-set b 0 (set now (2 * v) (a - low)) (2 * v + 1) (c - low) wide in
    let same : get_or (set now (2 * v) (a - low)) (2 * v + 1) 0 ≡ c = get_or-set_other now (2 * v) (2 * v + 1) (a - low) 0 (λ s. omega arith) in
    let m : 0 + 2 * v ≡ 2 * v = omega arith in
    let n : 0 + (2 * v + 1) ≡ 2 * v + 1 = omega arith in
    let first' = rw m at first in
    let second' = rw (n, same) at second in
    let left = cond-minus (b (2 * v)) a low h.first in
    let right = cond-minus (b (2 * v + 1)) c low h.second in
    rw h.is (omega (arith, first', second', left, right))

set-lower : (ws : List ℕ) (k low q : ℕ) → get_or (set ws k (get_or ws k 0 - low)) q 0 ≤ get_or ws q 0
set-lower [] k low q = omega arith
set-lower (w ∷ ws) zero low zero = omega arith
set-lower (w ∷ ws) zero low (suc q) = omega arith
set-lower (w ∷ ws) (suc k) low zero = omega arith
set-lower (w ∷ ws) (suc k) low (suc q) = set-lower ws k low q

lowered-most : (now now' : List ℕ) (v low q : ℕ) → IsLowered now v now' low → get_or now' q 0 ≤ get_or now q 0
lowered-most now now' v low q h =
    let a = get_or now (2 * v) 0 in
    let c = get_or now (2 * v + 1) 0 in
    let first = set-lower now (2 * v) low q in
    let second = set-lower (set now (2 * v) (a - low)) (2 * v + 1) low q in
    let same : get_or (set now (2 * v) (a - low)) (2 * v + 1) 0 ≡ c = get_or-set_other now (2 * v) (2 * v + 1) (a - low) 0 (λ s. omega arith) in
    let second' = rw same at second in
    rw h.is (omega (arith, first, second'))

lowered-one : (now now' : List ℕ) (v low : ℕ) → 2 * v + 1 < length now → IsLowered now v now' low → (get_or now' (2 * v) 0 ≡ 0) ⊎ (get_or now' (2 * v + 1) 0 ≡ 0)
lowered-one now now' v low l h =
    let a = get_or now (2 * v) 0 in
    let c = get_or now (2 * v + 1) 0 in
    let wide : 2 * v + 1 < length (set now (2 * v) (a - low)) = subst (λ n. 2 * v + 1 < n) (sym (length-set now (2 * v) (a - low))) l in
    let low_at : get_or (set (set now (2 * v) (a - low)) (2 * v + 1) (c - low)) (2 * v) 0 ≡ a - low = get_or-set_other (set now (2 * v) (a - low)) (2 * v + 1) (2 * v) (c - low) 0 (λ s. omega arith) ∙ get_or-set_same now (2 * v) (a - low) 0 (omega arith) in
    let high_at : get_or (set (set now (2 * v) (a - low)) (2 * v + 1) (c - low)) (2 * v + 1) 0 ≡ c - low = get_or-set_same (set now (2 * v) (a - low)) (2 * v + 1) (c - low) 0 wide in
    rw h.is (elim h.one [ inl e ↦ inl (low_at ∙ omega arith) | inr e ↦ inr (high_at ∙ omega arith) ])

lowered-other : (now now' : List ℕ) (v low q : ℕ) → IsLowered now v now' low → q ≢ 2 * v → q ≢ 2 * v + 1 → get_or now' q 0 ≡ get_or now q 0
lowered-other now now' v low q h a b =
    rw h.is (get_or-set_other (set now (2 * v) (get_or now (2 * v) 0 - low)) (2 * v + 1) q (get_or now (2 * v + 1) 0 - low) 0 b ∙ get_or-set_other now (2 * v) q (get_or now (2 * v) 0 - low) 0 a)

pub cancelled-more : (moved now now' : List ℕ) (v shift low : ℕ) → 2 * v + 1 < length now → IsLowered now v now' low → AreCancelled moved v now shift → AreCancelled moved (v + 1) now' (shift + low)
cancelled-more moved now now' v shift low l h k = record {
  many = ap length h.is ∙ length-set (set now (2 * v) (get_or now (2 * v) 0 - low)) (2 * v + 1) (get_or now (2 * v + 1) 0 - low) ∙ length-set now (2 * v) (get_or now (2 * v) 0 - low) ∙ k.many;
  same = λ b o. omega (arith, k.same b o, lowered-worth now now' v low b l h, cond-both (b (2 * v)) (b (2 * v + 1)) low (o v));
  most = λ q. omega (arith, k.most q, lowered-most now now' v low q h);
  total = omega (arith, k.total, lowered-worth now now' v low (λ p. true) l h);
  apart = λ u i. elim (cases_lt u v) [
    | inl j ↦
        let a = lowered-other now now' v low (2 * u) h (λ s. omega arith) (λ s. omega arith) in
        let c = lowered-other now now' v low (2 * u + 1) h (λ s. omega arith) (λ s. omega arith) in
        elim (k.apart u j) [ inl e ↦ inl (a ∙ e) | inr e ↦ inr (c ∙ e) ]
    | inr j ↦
        let s : v ≡ u = omega arith in
        subst (λ x. (get_or now' (2 * x) 0 ≡ 0) ⊎ (get_or now' (2 * x + 1) 0 ≡ 0)) s (lowered-one now now' v low l h)
  ];
}

pub cancelled-start : (ws : List ℕ) → AreCancelled ws 0 ws 0
cancelled-start ws = record { many = refl; same = λ b o. omega arith; most = λ q. omega arith; total = omega arith; apart = λ v l. absurd (omega arith) }

or_left_false : (a b : Bool) → (a || b) ≡ false → a ≡ false
or_left_false true b e = absurd (true≢false e)
or_left_false false b e = refl

or_right_false : (a b : Bool) → (a || b) ≡ false → b ≡ false
or_right_false true b e = absurd (true≢false e)
or_right_false false b e = e

not-in : (xs : List ℕ) (x y : ℕ) → is_in y xs ≡ false → x ≢ y → is_in y (xs ++ x ∷ []) ≡ false
not-in xs x y f d = elim (cases_Bool (is_in y (xs ++ x ∷ []))) [
  | inr o ↦ o
  | inl t ↦ absurd (elim (Contains-append_cases xs (x ∷ []) y (is_in-contains (xs ++ x ∷ []) y t)) [ inl i ↦ true≢false (sym (is_in-by xs y i) ∙ f) | inr i ↦ d (sym (Contains-one x y i)) ])
]

-- a cost more is noted
weighted-last : (cs : List Cost) (c : Cost) (w : List ℕ) → weighted (cs ++ c ∷ []) w ≡ set (weighted cs w) (place_of c.lit) c.weight
weighted-last [] c w = refl
weighted-last (d ∷ cs) c w = weighted-last cs c (set w (place_of d.lit) d.weight)

once-last : (xs : List ℕ) (x : ℕ) → no_repeats xs ≡ true → is_in x xs ≡ false → no_repeats (xs ++ x ∷ []) ≡ true
once-last [] x h o = refl
once-last (y ∷ xs) x h o =
    let parts = and_parts (not (is_in y xs)) (no_repeats xs) h in
    let rest : is_in x xs ≡ false = or_right_false (y == x) (is_in x xs) o in
    let apart : (y == x) ≡ false = or_left_false (y == x) (is_in x xs) o in
    let new : not (is_in y (xs ++ x ∷ [])) ≡ true = ap not (not-in xs x y (not-true (is_in y xs) parts.0) (λ e. true≢false (sym (eq-eqb y x (sym e)) ∙ apart))) in
    and_from (not (is_in y (xs ++ x ∷ []))) (no_repeats (xs ++ x ∷ [])) new (once-last xs x parts.1 rest)

noted-below : (p q : ℕ) (cs : List Cost) → p ≤ q → All (λ c. place_of c.lit < p) cs → All (λ c. place_of c.lit < q) cs
noted-below p q cs l h = All-from_contained (λ c. place_of c.lit < q) cs (λ c i. let a = All-contains (λ c. place_of c.lit < p) cs c h i in omega arith)

pub noted-same : (vars : ℕ) (ws now : List ℕ) (p : ℕ) (cs : List Cost) → get_or now p 0 ≡ get_or ws p 0 → AreNoted vars ws now p cs → AreNoted vars ws now (p + 1) cs
noted-same vars ws now p cs e k = record {
  done = λ q l. elim (cases_lt q p) [
    | inl j ↦ k.done q j
    | inr j ↦ let s : p ≡ q = omega arith in subst (λ x. get_or (weighted cs ws) x 0 ≡ get_or now x 0) s (k.rest p (omega arith) ∙ sym e)
  ];
  rest = λ q l. k.rest q (omega arith);
  within = k.within;
  below = noted-below p (p + 1) cs (omega arith) k.below;
  once = k.once;
}

map-places-last : (cs : List Cost) (c : Cost) → map (λ (d : Cost). place_of d.lit) (cs ++ c ∷ []) ≡ map (λ (d : Cost). place_of d.lit) cs ++ place_of c.lit ∷ []
map-places-last [] c = refl
map-places-last (d ∷ cs) c = ap (λ xs. place_of d.lit ∷ xs) (map-places-last cs c)

all-last : (P : Cost → Type 0) (cs : List Cost) (c : Cost) → All P cs → P c → All P (cs ++ c ∷ [])
all-last P cs c h p = All-from_contained P (cs ++ c ∷ []) (λ d i. elim (Contains-append_cases cs (c ∷ []) d i) [ inl j ↦ All-contains P cs d h j | inr j ↦ subst P (sym (Contains-one c d j)) p ])

pub noted-more : (vars : ℕ) (ws now : List ℕ) (p : ℕ) (cs cs' : List Cost) (l : Literal) (w : ℕ) → place_of l ≡ p → p < length ws → IsUpTo vars l → w ≡ get_or now p 0 → cs' ≡ cs ++ record { lit = l; weight = w } ∷ [] → AreNoted vars ws now p cs → AreNoted vars ws now (p + 1) cs'
noted-more vars ws now p cs cs' l w at i u e f k =
    let c : Cost = record { lit = l; weight = w } in
    let long : place_of l < length (weighted cs ws) = subst (λ n. place_of l < n) (sym (length-weighted cs ws)) (rw at i) in
    let new = weighted-last cs c ws in
    rw f (record {
      done = λ q j. rw new (elim (cases_lt q p) [
        | inl g ↦ get_or-set_other (weighted cs ws) (place_of l) q w 0 (λ s. omega arith) ∙ k.done q g
        | inr g ↦
            let s : q ≡ place_of l = omega arith in
            let t : q ≡ p = omega arith in
            ap (λ x. get_or (set (weighted cs ws) (place_of l) w) x 0) s ∙ get_or-set_same (weighted cs ws) (place_of l) w 0 long ∙ e ∙ ap (λ x. get_or now x 0) (sym t)
      ]);
      rest = λ q j. rw new (get_or-set_other (weighted cs ws) (place_of l) q w 0 (λ s. omega arith) ∙ k.rest q (omega arith));
      within = all-last (λ c. IsUpTo vars c.lit) cs c k.within u;
      below = all-last (λ c. place_of c.lit < p + 1) cs c (noted-below p (p + 1) cs (omega arith) k.below) (omega arith);
      once = rw (map-places-last cs c) (once-last (map (λ (d : Cost). place_of d.lit) cs) (place_of l) k.once (elim (cases_Bool (is_in (place_of l) (map (λ (d : Cost). place_of d.lit) cs))) [
        | inr o ↦ o
        | inl t ↦
            let d = Contains-map (λ (d : Cost). place_of d.lit) cs (place_of l) (is_in-contains (map (λ (d : Cost). place_of d.lit) cs) (place_of l) t) in
            let a = All-contains (λ c. place_of c.lit < p) cs d.0 k.below d.1 in
            let b = d.2 in
            absurd (omega arith)
      ]));
    })

pub noted-start : (vars : ℕ) (ws now : List ℕ) (cs : List Cost) → cs ≡ [] → ((q : ℕ) → q < 2 → get_or now q 0 ≡ get_or ws q 0) → AreNoted vars ws now 2 cs
noted-start vars ws now cs e h = rw e (record { done = λ q l. sym (h q l); rest = λ q l. refl; within = All-from_contained (λ c. IsUpTo vars c.lit) [] (λ c i. absurd (Contains-none c i)); below = All-from_contained (λ c. place_of c.lit < 2) [] (λ c i. absurd (Contains-none c i)); once = refl })

-- all noted, the weights are the new ones
pub noted-all : (vars : ℕ) (ws now : List ℕ) (p : ℕ) (cs : List Cost) → length ws ≡ p → length now ≡ p → AreNoted vars ws now p cs → weighted cs ws ≡ now
noted-all vars ws now p cs e f k = ext_get_or 0 (weighted cs ws) now (length-weighted cs ws ∙ e ∙ sym f) (λ q l. k.done q (subst (λ n. q < n) (length-weighted cs ws ∙ e) l))
