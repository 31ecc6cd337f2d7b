-- Weights by their numbers.
use Rattle.std.proofs.Common.{◌≡◌, ◌≢◌, ◌⊎◌, ℕ, ◌+◌, ◌^◌, ◌<◌, ◌≤◌, List, [], ◌∷◌, ◌++◌, length, get_or, set, map, zero, suc, refl, sym, ◌∙◌, ap, arith, inl, inr, All, replicate}
use Rattle.std.proofs.lemmas.Bool.{cases_eq, cases_lt}
use Rattle.std.proofs.lemmas.Grind.{same_number_lists}
use Rattle.std.proofs.lemmas.List.{length-map, length-append, length-set, get_or-set_same, get_or-set_other, get_or_append_left, set-get_or, length-replicate}
use Rattle.std.proofs.Math.Seq.{get_or-append_seam}
use Rattle.mp_clauses.specs.Numbering.{numbered, AreNumbered}
use Rattle.mp_clauses.proofs.Steps.{get_or-any}

pub numbered-length : (ws ns : List ℕ) → length (numbered ws ns) ≡ length ns
numbered-length ws [] = refl
numbered-length ws (n ∷ ns) = ap suc (numbered-length ws ns)

pub numbered-at : (ws ns : List ℕ) (p : ℕ) → get_or ws 0 0 ≡ 0 → get_or (numbered ws ns) p 0 ≡ get_or ws (get_or ns p 0) 0
numbered-at ws [] p z = sym z
numbered-at ws (n ∷ ns) zero z = refl
numbered-at ws (n ∷ ns) (suc p) z = numbered-at ws ns p z

-- a number is in range, past the end too
number-below : (ns ws : List ℕ) → AreNumbered ns ws → (p : ℕ) → get_or ns p 0 < length ws
number-below ns ws a p =
    elim (cases_lt p (length ns)) [
      | inl b ↦ a.within p 0 b
      | inr o ↦ let e : get_or ns p 0 ≡ 0 = past ns p o in let some = a.some in omega arith
    ]
  where
    past : (xs : List ℕ) (k : ℕ) → length xs ≤ k → get_or xs k 0 ≡ 0
    past [] k h = refl
    past (x ∷ xs) zero h = absurd (omega arith)
    past (x ∷ xs) (suc k) h = past xs k (omega arith)

-- a place that has a number gets another weight
pub number-kept : (ns ws : List ℕ) (p w : ℕ) → AreNumbered ns ws → p < length ns → get_or ns p 0 ≢ 0 → AreNumbered ns (set ws (get_or ns p 0) w)
number-kept ns ws p w a h n =
    let len : length (set ws (get_or ns p 0) w) ≡ length ws = length-set ws (get_or ns p 0) w in
    record {
      some = rw len a.some;
      few = rw len a.few;
      none = get_or-set_other ws (get_or ns p 0) 0 w 0 (λ e. n (sym e)) ∙ a.none;
      within = λ k d l. rw len (a.within k d l);
      own = a.own;
    }

pub set-kept : (ns ws : List ℕ) (p w : ℕ) → AreNumbered ns ws → p < length ns → get_or ns p 0 ≢ 0 → numbered (set ws (get_or ns p 0) w) ns ≡ set (numbered ws ns) p w
set-kept ns ws p w a h n =
    let more : List ℕ = set ws (get_or ns p 0) w in
    let kept = number-kept ns ws p w a h n in
    let len : length (numbered more ns) ≡ length (set (numbered ws ns) p w) = numbered-length more ns ∙ sym (length-set (numbered ws ns) p w ∙ numbered-length ws ns) in
    same_number_lists (numbered more ns) (set (numbered ws ns) p w) len (λ k l.
    numbered-at more ns k kept.none
    ∙ elim (cases_eq k p) [
      | inl e ↦
          let own : get_or more (get_or ns p 0) 0 ≡ w = get_or-set_same ws (get_or ns p 0) w 0 (number-below ns ws a p) in
          let there : get_or (set (numbered ws ns) p w) p 0 ≡ w = get_or-set_same (numbered ws ns) p w 0 (rw (numbered-length ws ns) h) in
          rw e (own ∙ sym there)
      | inr o ↦
          let other : get_or ns k 0 ≢ get_or ns p 0 = λ e. elim (a.own k p e) [ inl z ↦ n (sym e ∙ z) | inr s ↦ o s ] in
          get_or-set_other ws (get_or ns p 0) (get_or ns k 0) w 0 other ∙ sym (get_or-set_other (numbered ws ns) p k w 0 o ∙ numbered-at ws ns k a.none)
    ])

-- a place without a number gets no weight
pub set-none : (ns ws : List ℕ) (p w : ℕ) → AreNumbered ns ws → get_or ns p 0 ≡ 0 → w ≡ 0 → numbered ws ns ≡ set (numbered ws ns) p w
set-none ns ws p w a n z =
    let here : get_or (numbered ws ns) p 0 ≡ w = numbered-at ws ns p a.none ∙ ap (λ k. get_or ws k 0) n ∙ a.none ∙ sym z in
    sym (ap (set (numbered ws ns) p) (sym here) ∙ set-get_or (numbered ws ns) p 0)

-- a place gets the next number
pub number-new : (ns ws : List ℕ) (p w : ℕ) → AreNumbered ns ws → p < length ns → length ws < 2 ^ 32 → AreNumbered (set ns p (length ws)) (ws ++ w ∷ [])
number-new ns ws p w a h f =
    let m : ℕ = length ws in
    let len : length (ws ++ w ∷ []) ≡ m + 1 = length-append ws (w ∷ []) in
    let here : get_or (set ns p m) p 0 ≡ m = get_or-set_same ns p m 0 h in
    let there : (k : ℕ) → k ≢ p → get_or (set ns p m) k 0 ≡ get_or ns k 0 = λ k n. get_or-set_other ns p k m 0 n in
    let some = a.some in
    record {
      some = omega (arith, len);
      few = omega (arith, len, f);
      none = get_or_append_left ws (w ∷ []) 0 0 (omega arith) ∙ a.none;
      within = λ k d l.
          let same : get_or (set ns p m) k d ≡ get_or (set ns p m) k 0 = get_or-any (set ns p m) k d 0 l in
          let low : get_or (set ns p m) k 0 < m + 1 = elim (cases_eq k p) [ inl e ↦ rw (e, here) (omega arith) | inr o ↦ rw (there k o) (let b = number-below ns ws a k in omega arith) ] in
          omega (arith, same, low, len);
      own = λ j k e. elim (cases_eq j p) [
        | inl x ↦ elim (cases_eq k p) [
          | inl y ↦ inr (x ∙ sym y)
          | inr o ↦ let b = number-below ns ws a k in let q : m ≡ get_or ns k 0 = sym here ∙ ap (λ i. get_or (set ns p m) i 0) (sym x) ∙ e ∙ there k o in absurd (omega (arith, b, q))
        ]
        | inr o ↦ elim (cases_eq k p) [
          | inl y ↦ let b = number-below ns ws a j in let q : m ≡ get_or ns j 0 = sym here ∙ ap (λ i. get_or (set ns p m) i 0) (sym y) ∙ sym e ∙ there j o in absurd (omega (arith, b, q))
          | inr u ↦ elim (a.own j k (sym (there j o) ∙ e ∙ there k u)) [ inl z ↦ inl (there j o ∙ z) | inr s ↦ inr s ]
        ]
      ];
    }

pub set-new : (ns ws : List ℕ) (p w : ℕ) → AreNumbered ns ws → p < length ns → numbered (ws ++ w ∷ []) (set ns p (length ws)) ≡ set (numbered ws ns) p w
set-new ns ws p w a h =
    let m : ℕ = length ws in
    let more : List ℕ = ws ++ w ∷ [] in
    let some = a.some in
    let none : get_or more 0 0 ≡ 0 = get_or_append_left ws (w ∷ []) 0 0 (omega arith) ∙ a.none in
    let len : length (numbered more (set ns p m)) ≡ length (set (numbered ws ns) p w) = numbered-length more (set ns p m) ∙ length-set ns p m ∙ sym (length-set (numbered ws ns) p w ∙ numbered-length ws ns) in
    same_number_lists (numbered more (set ns p m)) (set (numbered ws ns) p w) len (λ k l.
    numbered-at more (set ns p m) k none
    ∙ elim (cases_eq k p) [
      | inl e ↦
          let here : get_or (set ns p m) p 0 ≡ m = get_or-set_same ns p m 0 h in
          let own : get_or more m 0 ≡ w = get_or-append_seam ws w [] 0 in
          let there : get_or (set (numbered ws ns) p w) p 0 ≡ w = get_or-set_same (numbered ws ns) p w 0 (rw (numbered-length ws ns) h) in
          rw (e, here) (own ∙ sym there)
      | inr o ↦
          ap (λ i. get_or more i 0) (get_or-set_other ns p k m 0 o) ∙ get_or_append_left ws (w ∷ []) 0 (get_or ns k 0) (number-below ns ws a k)
          ∙ sym (get_or-set_other (numbered ws ns) p k w 0 o ∙ numbered-at ws ns k a.none)
    ])

-- places without a number
pub numbered-zeros : (ws : List ℕ) (n : ℕ) → get_or ws 0 0 ≡ 0 → numbered ws (replicate n 0) ≡ replicate n 0
numbered-zeros ws zero z = refl
numbered-zeros ws (suc n) z = rw z (ap (λ xs. 0 ∷ xs) (numbered-zeros ws n z))

numbered-append : (ws xs ys : List ℕ) → numbered ws (xs ++ ys) ≡ numbered ws xs ++ numbered ws ys
numbered-append ws [] ys = refl
numbered-append ws (x ∷ xs) ys = ap (λ zs. get_or ws x 0 ∷ zs) (numbered-append ws xs ys)

pub numbered-longer : (ws ns : List ℕ) (n : ℕ) → get_or ws 0 0 ≡ 0 → numbered ws (ns ++ replicate n 0) ≡ numbered ws ns ++ replicate n 0
numbered-longer ws ns n z = numbered-append ws ns (replicate n 0) ∙ ap (λ zs. numbered ws ns ++ zs) (numbered-zeros ws n z)

longer-at : (ns : List ℕ) (n k : ℕ) → get_or (ns ++ replicate n 0) k 0 ≡ get_or ns k 0
longer-at [] zero k = refl
longer-at [] (suc n) zero = refl
longer-at [] (suc n) (suc k) = longer-at [] n k
longer-at (x ∷ xs) n zero = refl
longer-at (x ∷ xs) n (suc k) = longer-at xs n k

pub number-longer : (ns ws : List ℕ) (n : ℕ) → AreNumbered ns ws → AreNumbered (ns ++ replicate n 0) ws
number-longer ns ws n a = record {
  some = a.some;
  few = a.few;
  none = a.none;
  within = λ k d l.
      let same : get_or (ns ++ replicate n 0) k d ≡ get_or (ns ++ replicate n 0) k 0 = get_or-any (ns ++ replicate n 0) k d 0 l in
      let low = number-below ns ws a k in
      rw (same, longer-at ns n k) low;
  own = λ j k e. elim (a.own j k (sym (longer-at ns n j) ∙ e ∙ longer-at ns n k)) [ inl z ↦ inl (longer-at ns n j ∙ z) | inr s ↦ inr s ];
}

none-at : (k : ℕ) → get_or {A = ℕ} [] k 0 ≡ 0
none-at k = refl

pub number-none : (ws : List ℕ) → 1 ≤ length ws → length ws ≤ 2 ^ 32 → get_or ws 0 0 ≡ 0 → AreNumbered [] ws
number-none ws s f z = record { some = s; few = f; none = z; within = λ k d l. absurd (omega arith); own = λ j k e. inl refl }

pub number-read : (ns ws : List ℕ) (p n r : ℕ) → AreNumbered ns ws → p < length ns → n ≡ get_or ns p n → r ≡ get_or ws n r → r ≡ get_or (numbered ws ns) p r
number-read ns ws p n r a h e f =
    let number : n ≡ get_or ns p 0 = e ∙ get_or-any ns p n 0 h in
    let below : n < length ws = rw number (number-below ns ws a p) in
    f ∙ get_or-any ws n r 0 below ∙ ap (λ k. get_or ws k 0) number ∙ sym (numbered-at ws ns p a.none) ∙ get_or-any (numbered ws ns) p 0 r (rw (numbered-length ws ns) h)
