-- What spreading finds, and that the numbers made of it are those of components.
use Rattle.std.proofs.Common.{◌≡◌, ◌↔◌, ℕ, ◌+◌, ◌*◌, ◌^◌, ◌<◌, ◌≤◌, Bool, true, false, List, [], ◌∷◌, length, get_or, set, zero, suc, refl, sym, ◌∙◌, ap, subst, arith, inl, inr, All}
use Rattle.std.proofs.Math.Nat.{mul-le-mul_right, mul-le-mul}
use Rattle.std.proofs.lemmas.Bool.{cases_Bool, cases_eq, true≢false, false≢true}
use Rattle.std.proofs.lemmas.List.{get_or-set_same, get_or-set_other}
use Rattle.std.proofs.lemmas.List.Elements.{All-get_or}
use Rattle.t_equiv_graph.specs.Graphs.{Step, IsWalk, IsJoined, AreComponents}
use Rattle.t_equiv_graph.specs.Spreads.{Comes, IsWayOut, IsClosed, IsSound, IsSpread, yes_of, no_of, IsPlace}
use Rattle.t_equiv_graph.proofs.Walks.{reaches-one}
use Rattle.t_equiv_graph.proofs.Shown.{comes-on, both}

-- one node more is seen
pub sound-more : (f t : List ℕ) (x k e : ℕ) (s : List Bool) → IsWayOut f t s k → e ≡ get_or t k 0 → e < length s → IsSound f t x s → IsSound f t x (set s e true)
sound-more f t x k e s w q l h y g = elim (cases_eq y e) [
  | inl i ↦
      let step : Step f t (get_or f k 0) y = record { place = k; within = w.within; starts = refl; ends = sym (i ∙ q) } in
      comes-on f t x (get_or f k 0) y (h (get_or f k 0) w.starts) (inr (reaches-one f t (get_or f k 0) y step))
  | inr n ↦ h y (sym (get_or-set_other s e y true false n) ∙ g)
]

pub own-more : (s : List Bool) (x e : ℕ) → e < length s → get_or s x false ≡ true → get_or (set s e true) x false ≡ true
own-more s x e l h = elim (cases_eq x e) [
  | inl i ↦ subst (λ v. get_or (set s e true) v false ≡ true) (sym i) (get_or-set_same s e true false l)
  | inr n ↦ get_or-set_other s e x true false n ∙ h
]

pub no_of-less : (s : List Bool) (e : ℕ) → e < length s → get_or s e false ≡ false → no_of (set s e true) < no_of s
no_of-less [] e l h = absurd (omega arith)
no_of-less (true ∷ s) zero l h = absurd (true≢false h)
no_of-less (false ∷ s) zero l h = omega arith
no_of-less (true ∷ s) (suc e) l h = no_of-less s e (omega arith) h
no_of-less (false ∷ s) (suc e) l h = let r : no_of (set s e true) < no_of s = no_of-less s e (omega arith) h in omega arith

-- what is closed has all that is reached
step-closed : (f t : List ℕ) (s : List Bool) (x y : ℕ) → IsClosed f t s → Step f t x y → get_or s x false ≡ true → get_or s y false ≡ true
step-closed f t s x y h a g =
    let one : get_or s (get_or f a.place 0) false ≡ true = ap (λ v. get_or s v false) a.starts ∙ g in
    sym (ap (λ v. get_or s v false) a.ends) ∙ h a.place a.within one

walk-closed : (f t zs : List ℕ) (s : List Bool) (x y : ℕ) → IsClosed f t s → IsWalk f t zs x y → get_or s x false ≡ true → get_or s y false ≡ true
walk-closed f t [] s x y h a g = step-closed f t s x y h a g
walk-closed f t (z ∷ zs) s x y h a g = walk-closed f t zs s z y h a.1 (step-closed f t s x z h a.0 g)

pub spread-has : (n : ℕ) (f t : List ℕ) (x y : ℕ) (s : List Bool) → IsSpread n f t x s → Comes f t x y → get_or s y false ≡ true
spread-has n f t x y s p c = elim c [
  | inl e ↦ subst (λ v. get_or s v false ≡ true) e p.own
  | inr r ↦ walk-closed f t r.between s x y p.closed r.walk p.own
]

-- counts
pub yes_of-most : (s : List Bool) → yes_of s ≤ length s
yes_of-most [] = omega arith
yes_of-most (true ∷ s) = let r : yes_of s ≤ length s = yes_of-most s in omega arith
yes_of-most (false ∷ s) = let r : yes_of s ≤ length s = yes_of-most s in omega arith

abbrev pub Within : List Bool → List Bool → Type 0
Within a b = (k : ℕ) → get_or a k false ≡ true → get_or b k false ≡ true

yes_of-within : (a b : List Bool) → Within a b → yes_of a ≤ yes_of b
yes_of-within [] b h = omega arith
yes_of-within (true ∷ a) [] h = absurd (false≢true (h 0 refl))
yes_of-within (false ∷ a) [] h = yes_of-within a [] (λ k g. absurd (false≢true (h (suc k) g)))
yes_of-within (true ∷ a) (true ∷ b) h = let r : yes_of a ≤ yes_of b = yes_of-within a b (λ k g. h (suc k) g) in omega arith
yes_of-within (true ∷ a) (false ∷ b) h = absurd (false≢true (h 0 refl))
yes_of-within (false ∷ a) (true ∷ b) h = let r : yes_of a ≤ yes_of b = yes_of-within a b (λ k g. h (suc k) g) in omega arith
yes_of-within (false ∷ a) (false ∷ b) h = yes_of-within a b (λ k g. h (suc k) g)

yes_of-less : (a b : List Bool) (j : ℕ) → Within a b → get_or a j false ≡ false → get_or b j false ≡ true → yes_of a < yes_of b
yes_of-less a [] j h e g = absurd (false≢true g)
yes_of-less [] (true ∷ b) j h e g = omega arith
yes_of-less [] (false ∷ b) zero h e g = absurd (false≢true g)
yes_of-less [] (false ∷ b) (suc j) h e g = yes_of-less [] b j (λ k i. absurd (false≢true i)) refl g
yes_of-less (true ∷ a) (x ∷ b) zero h e g = absurd (true≢false e)
yes_of-less (false ∷ a) (true ∷ b) zero h e g = let r : yes_of a ≤ yes_of b = yes_of-within a b (λ k i. h (suc k) i) in omega arith
yes_of-less (false ∷ a) (false ∷ b) zero h e g = absurd (false≢true g)
yes_of-less (true ∷ a) (true ∷ b) (suc j) h e g = let r : yes_of a < yes_of b = yes_of-less a b j (λ k i. h (suc k) i) e g in omega arith
yes_of-less (true ∷ a) (false ∷ b) (suc j) h e g = absurd (false≢true (h 0 refl))
yes_of-less (false ∷ a) (true ∷ b) (suc j) h e g = let r : yes_of a < yes_of b = yes_of-less a b j (λ k i. h (suc k) i) e g in omega arith
yes_of-less (false ∷ a) (false ∷ b) (suc j) h e g = yes_of-less a b j (λ k i. h (suc k) i) e g

-- joined nodes
joined-comes : (f t : List ℕ) (x y : ℕ) → IsJoined f t x y → Comes f t x y
joined-comes f t x y j = elim j [ inl e ↦ inl e | inr r ↦ inr r.0 ]

pub joined-back : (f t : List ℕ) (x y : ℕ) → IsJoined f t x y → IsJoined f t y x
joined-back f t x y j = elim j [ inl e ↦ inl (sym e) | inr r ↦ inr (r.1, r.0) ]

joined-on : (f t : List ℕ) (x y z : ℕ) → IsJoined f t x y → IsJoined f t y z → IsJoined f t x z
joined-on f t x y z a b = both f t x z (comes-on f t x y z (joined-comes f t x y a) (joined-comes f t y z b)) (comes-on f t z y x (joined-comes f t z y (joined-back f t y z b)) (joined-comes f t y x (joined-back f t x y a)))

pub joined-by : (n : ℕ) (f t : List ℕ) (x y : ℕ) (s r : List Bool) → IsSpread n f t x s → IsSpread n f t y r → (get_or s y false ≡ true × get_or r x false ≡ true) ↔ IsJoined f t x y
joined-by n f t x y s r p q = (λ w. both f t x y (p.sound y w.0) (q.sound x w.1), λ j. (spread-has n f t x y s p (joined-comes f t x y j), spread-has n f t y x r q (joined-comes f t y x (joined-back f t x y j))))

-- spreading from where x comes to gives no more
spread-within : (n : ℕ) (f t : List ℕ) (x y : ℕ) (s r : List Bool) → IsSpread n f t x s → IsSpread n f t y r → Comes f t x y → Within r s
spread-within n f t x y s r p q c = λ k g. spread-has n f t x k s p (comes-on f t x y k c (q.sound k g))

places-same : (n : ℕ) (f t : List ℕ) (x y a b : ℕ) → IsPlace n f t x a → IsPlace n f t y b → IsJoined f t x y → a ≡ b
places-same n f t x y a b p q j =
    let back : IsJoined f t y x = joined-back f t x y j in
    let less : yes_of q.seen ≤ yes_of p.seen = yes_of-within q.seen p.seen (spread-within n f t x y p.seen q.seen p.spread q.spread (joined-comes f t x y j)) in
    let more : yes_of p.seen ≤ yes_of q.seen = yes_of-within p.seen q.seen (spread-within n f t y x q.seen p.seen q.spread p.spread (joined-comes f t y x back)) in
    let many : yes_of p.seen ≡ yes_of q.seen = omega arith in
    let one : q.first < p.first → ⊥ = λ l. p.found.least q.first l (joined-on f t x y q.first j q.found.joined) in
    let two : p.first < q.first → ⊥ = λ l. q.found.least p.first l (joined-on f t y x p.first back p.found.joined) in
    let first : p.first ≡ q.first = omega (arith, one, two) in
    p.is ∙ (ap (λ m. m * n + p.first) many ∙ (ap (λ m. yes_of q.seen * n + m) first ∙ sym q.is))

place-below : (n : ℕ) (f t : List ℕ) (x a : ℕ) (p : IsPlace n f t x a) → p.first < n
place-below n f t x a p = let i : x < n = p.inside in let l : p.first ≤ x = p.found.below in omega arith

rows-apart : (n m k i j : ℕ) → i < n → m < k → m * n + i < k * n + j
rows-apart n m k i j h l =
    let one : suc m * n ≤ k * n = mul-le-mul_right n l in
    let two : suc m * n ≡ m * n + n = grind arith in
    omega arith

places-joined : (n : ℕ) (f t : List ℕ) (x y a b : ℕ) → IsPlace n f t x a → IsPlace n f t y b → a ≡ b → IsJoined f t x y
places-joined n f t x y a b p q e =
    let all : yes_of p.seen * n + p.first ≡ yes_of q.seen * n + q.first = sym p.is ∙ (e ∙ q.is) in
    let one : yes_of p.seen < yes_of q.seen → ⊥ = λ l. let r : yes_of p.seen * n + p.first < yes_of q.seen * n + q.first = rows-apart n (yes_of p.seen) (yes_of q.seen) p.first q.first (place-below n f t x a p) l in omega arith in
    let two : yes_of q.seen < yes_of p.seen → ⊥ = λ l. let r : yes_of q.seen * n + q.first < yes_of p.seen * n + p.first = rows-apart n (yes_of q.seen) (yes_of p.seen) q.first p.first (place-below n f t y b q) l in omega arith in
    let many : yes_of p.seen ≡ yes_of q.seen = omega (arith, one, two) in
    let row : yes_of p.seen * n ≡ yes_of q.seen * n = ap (λ m. m * n) many in
    let first : p.first ≡ q.first = omega arith in
    joined-on f t x p.first y p.found.joined (joined-back f t y p.first (subst (λ v. IsJoined f t y v) (sym first) q.found.joined))

places-fall : (n : ℕ) (f t : List ℕ) (x y a b : ℕ) → IsPlace n f t x a → IsPlace n f t y b → Comes f t x y → b ≤ a
places-fall n f t x y a b p q c = elim (cases_Bool (get_or q.seen x false)) [
  | inl e ↦
      let same : a ≡ b = places-same n f t x y a b p q (both f t x y c (q.spread.sound x e)) in
      omega arith
  | inr e ↦
      let less : yes_of q.seen < yes_of p.seen = yes_of-less q.seen p.seen x (spread-within n f t x y p.seen q.seen p.spread q.spread c) e p.spread.own in
      let r : yes_of q.seen * n + q.first < yes_of p.seen * n + p.first = rows-apart n (yes_of q.seen) (yes_of p.seen) q.first p.first (place-below n f t y b q) less in
      omega (arith, p.is, q.is)
]

pub area : (m n : ℕ) → m ≤ n → n < 2 ^ 32 → m * n ≤ 4294967295 * 4294967295
area m n h l = mul-le-mul {n₁ = m} {m₁ = n} {n₂ = 4294967295} {m₂ = 4294967295} (omega arith) (omega arith)

pub placed : (n : ℕ) (f t ns : List ℕ) → length ns ≡ n → length f ≡ length t → All (λ x. x < n) f → All (λ x. x < n) t → ((x : ℕ) → x < n → IsPlace n f t x (get_or ns x 0)) → AreComponents n f t ns
placed n f t ns many even starts ends h = record {
  many = many;
  falls = λ x y a.
      let i : x < n = subst (λ v. v < n) a.starts (All-get_or (λ v. v < n) f a.place 0 a.within starts) in
      let j : y < n = subst (λ v. v < n) a.ends (All-get_or (λ v. v < n) t a.place 0 (subst (λ m. a.place < m) even a.within) ends) in
      places-fall n f t x y (get_or ns x 0) (get_or ns y 0) (h x i) (h y j) (inr (reaches-one f t x y a));
  same = λ x y i j. (λ e. places-joined n f t x y (get_or ns x 0) (get_or ns y 0) (h x i) (h y j) e, λ k. places-same n f t x y (get_or ns x 0) (get_or ns y 0) (h x i) (h y j) k);
}
