-- Weights of a store, moved and cancelled: sums stay below the bound.
use Rattle.std.proofs.Common.{◌≡◌, ℕ, ◌+◌, ◌*◌, ◌^◌, ◌<◌, true, List, [], ◌∷◌, ◌++◌, length, take, replicate, get_or, set, zero, suc, refl, ap, sym, ◌∙◌, subst, arith, sum}
use Rattle.std.proofs.lemmas.List.{get_or_default}
use Rattle.mp_logic.specs.Literal.{Literal, IsUpTo}
use Rattle.mp_logic.specs.Weights.{weight_bound}
use Rattle.mp_logic.specs.declared.instances.Cost.{Cost}
use Rattle.mp_clauses.specs.Places.{place_of, width}
use Rattle.mp_clauses.specs.Weighing.{weight_in}
use Rattle.mp_clauses.proofs.Pricing.{literal-place}
use Rattle.mp_store.specs.Held.{Held}
use Rattle.mp_store.specs.Soundness.{IsStore}
use Rattle.mp_store.proofs.Sound.{total_below, place-below, place-least}
use Rattle.t_equiv.specs.Images.{image_in, StaysKnown}
use Rattle.t_equiv.specs.Pooling.{worth, image_place, AreMoved, IsLowered, AreCancelled, AreNoted}
use Rattle.t_equiv.proofs.Pooled.{worth-all, worth-most, one-below, sum-take, moved-more, moved-below, moved-start, noted-more, noted-start}

pub sum-below : (h : Held) → IsStore h → sum h.weights < weight_bound
sum-below h s = let t = total_below h s in omega arith

at-below : (h : Held) (im moved-lits : List Literal) (moved : List ℕ) (p q : ℕ) (l m : Literal) → IsStore h → AreMoved im h.weights p moved → IsUpTo h.vars m → q ≡ place_of m → q < length moved
at-below h im x moved p q l m s a u e = let low = place-below h.vars m u in let n = s.weights.len in let many = a.many in omega arith

-- what stands at the place of an image, and the weight that comes to it
pub record Comes (h : Held) (im : List Literal) (moved : List ℕ) (l m : Literal) (q r w : ℕ) : Type 0 where
  pub sound : IsStore h
  pub known : StaysKnown h.vars im
  pub up : IsUpTo h.vars l
  pub so_far : AreMoved im h.weights (place_of l) moved
  pub image : m ≡ image_in im l
  pub place : q ≡ place_of m
  pub found : r ≡ get_or moved q r
  pub weight : w ≡ weight_in h.weights l

place-inside : (h : Held) (im : List Literal) (moved : List ℕ) (l m : Literal) (q r w : ℕ) → Comes h im moved l m q r w → q < length moved
place-inside h im moved l m q r w c = at-below h im im moved (place_of l) q l m c.sound c.so_far (subst (IsUpTo h.vars) (sym c.image) (c.known l c.up)) c.place

found-plain : (h : Held) (im : List Literal) (moved : List ℕ) (l m : Literal) (q r w : ℕ) → Comes h im moved l m q r w → r ≡ get_or moved q 0
found-plain h im moved l m q r w c = c.found ∙ get_or_default moved q r 0 (place-inside h im moved l m q r w c)

pub comes-fits : (h : Held) (im : List Literal) (moved : List ℕ) (l m : Literal) (q r w : ℕ) → Comes h im moved l m q r w → r + w < 2 ^ 128
comes-fits h im moved l m q r w c =
    let a = found-plain h im moved l m q r w c in
    let b = moved-below im h.weights moved (place_of l) q c.so_far in
    let d = one-below h.weights (place_of l) in
    let e = c.weight in
    let f = sum-below h c.sound in
    omega arith

pub comes-more : (h : Held) (im : List Literal) (moved : List ℕ) (l m : Literal) (q r w : ℕ) → Comes h im moved l m q r w → AreMoved im h.weights (place_of l + 1) (set moved q (r + w))
comes-more h im moved l m q r w c =
    let inside = place-inside h im moved l m q r w c in
    let low = place-below h.vars l c.up in
    let n = c.sound.weights.len in
    let up : IsUpTo h.vars m = subst (IsUpTo h.vars) (sym c.image) (c.known l c.up) in
    let two = place-least h.vars m up in
    let at : q ≡ image_place im (place_of l) = c.place ∙ ap place_of (c.image ∙ ap (image_in im) (sym (literal-place l))) in
    let place = c.place in
    let sums : r + w ≡ get_or moved q 0 + get_or h.weights (place_of l) 0 = ap (λ x. x + w) (found-plain h im moved l m q r w c) ∙ ap (λ x. get_or moved q 0 + x) c.weight in
    moved-more im h.weights moved (set moved q (r + w)) (place_of l) q (omega arith) (omega arith) inside at (ap (set moved q) sums) c.so_far

pub comes-first : (h : Held) (im : List Literal) (moved : List ℕ) (n : ℕ) → IsStore h → n ≡ width h.vars → moved ≡ replicate n 0 → AreMoved im h.weights 2 moved
comes-first h im moved n s e f = rw f (let len = s.weights.len in moved-start im h.weights n (len ∙ sym e) (omega arith) s.weights.no_variable.0 s.weights.no_variable.1)

-- the sum of moved weights
pub moved-total : (h : Held) (im : List Literal) (moved : List ℕ) (p : ℕ) → IsStore h → AreMoved im h.weights p moved → worth (λ x. true) 0 moved < weight_bound
moved-total h im moved p s a =
    let c = a.same (λ x. true) in
    let d = worth-most (λ x. true) 0 (take p h.weights) in
    let e = sum-take h.weights p in
    let f = sum-below h s in
    omega (arith, c, d, e, f)

pub cancel-fits : (moved now now' : List ℕ) (v shift low : ℕ) → worth (λ x. true) 0 moved < weight_bound → IsLowered now v now' low → AreCancelled moved v now shift → shift + low < 2 ^ 128
cancel-fits moved now now' v shift low b h k =
    let a = one-below now (2 * v) in
    let c = worth-all 0 now in
    let d = k.total in
    let e = h.first in
    omega (arith, a, b, c, d, e)

first-zero : (ws : List ℕ) (q : ℕ) → q < 2 → get_or ws 0 0 ≡ 0 → get_or ws 1 0 ≡ 0 → get_or ws q 0 ≡ 0
first-zero ws zero l a b = a
first-zero ws (suc zero) l a b = b
first-zero ws (suc (suc q)) l a b = absurd (omega arith)

-- the place of a literal that may be noted
pub note-more : (h : Held) (now : List ℕ) (cs cs' : List Cost) (l : Literal) (w : ℕ) → IsStore h → length now ≡ width h.vars → IsUpTo h.vars l → w ≡ get_or now (place_of l) 0 → cs' ≡ cs ++ record { lit = l; weight = w } ∷ [] → AreNoted h.vars h.weights now (place_of l) cs → AreNoted h.vars h.weights now (place_of l + 1) cs'
note-more h now cs cs' l w s n u e f k = let low = place-below h.vars l u in let len = s.weights.len in noted-more h.vars h.weights now (place_of l) cs cs' l w refl (omega arith) u e f k

pub note-start : (h : Held) (now : List ℕ) (cs : List Cost) → IsStore h → ((q : ℕ) → q < 2 → get_or now q 0 ≡ 0) → cs ≡ [] → AreNoted h.vars h.weights now 2 cs
note-start h now cs s z e = noted-start h.vars h.weights now cs e (λ q l. z q l ∙ sym (first-zero h.weights q l s.weights.no_variable.0 s.weights.no_variable.1))
