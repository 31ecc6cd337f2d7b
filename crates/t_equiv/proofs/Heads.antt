-- First places with a number.
use Rattle.std.proofs.Common.{◌≡◌, ◌≢◌, ℕ, ◌+◌, ◌-◌, ◌*◌, ◌<◌, ◌≤◌, Bool, true, false, not, cond, List, [], ◌∷◌, ◌++◌, length, map, All, Contains, get_or, set, refl, ap, sym, ◌∙◌, subst, arith, inl, inr}
use Rattle.std.proofs.lemmas.Bool.{cases_eq, cases_lt}
use Rattle.std.specs.List.Sorted.{IsPermutation}
use Rattle.std.proofs.lemmas.List.{get_or-set_same, get_or-set_other, length-set, get_or_append_left, length-append}
use Rattle.std.proofs.lemmas.List.Elements.{All-contains, Contains-append_cases, Contains-append_left, Contains-append_right}
use Rattle.std.proofs.lemmas.List.Sorted.{Contains-permutation, IsPermutation-map, IsPermutation-sym}
use Rattle.mp_logic.proofs.Members.{Contains-none, Contains-first, Contains-one, All-from_contained}
use Rattle.mp_logic.specs.Literal.{Literal, negation}
use Rattle.t_equiv.specs.Implications.{number_place}
use Rattle.t_equiv.specs.Substituting.{positive}
use Rattle.t_equiv.specs.Images.{IsFirst, IsHead, AreHeads, HasOpposite, NoneOpposite, image_in, AreReplaced}

abbrev lit : ℕ → Bool → Literal
lit v s = record { variable = v; negative = s }

pub head-found : (ns : List ℕ) (p n h : ℕ) → IsHead ns p n h → h < p → p < length ns → n ≡ get_or ns p 0 → IsFirst ns p h
head-found ns p n h i l w e = elim i [
  | inl f ↦ record { below = omega arith; alike = f.1 ∙ e; least = λ q j g. f.2 q j (g ∙ sym e) }
  | inr f ↦ let k = f.0 in absurd (omega arith)
]

none-below : (ns : List ℕ) (p n h : ℕ) → IsHead ns p n h → p ≤ h → (q : ℕ) → q < p → get_or ns q 0 ≢ n
none-below ns p n h i l = elim i [ inl f ↦ let k = f.0 in absurd (omega arith) | inr f ↦ f.1 ]

pub own-first : (ns : List ℕ) (p n h : ℕ) → IsHead ns p n h → p ≤ h → n ≡ get_or ns p 0 → IsFirst ns p p
own-first ns p n h i l e = record { below = omega arith; alike = refl; least = λ q j g. none-below ns p n h i l q j (g ∙ sym e) }

-- the head of another number stays
other-head : (ns : List ℕ) (p n m h : ℕ) → n ≡ get_or ns p 0 → m ≢ n → IsHead ns p m h → IsHead ns (p + 1) m h
other-head ns p n m h e d i = elim i [
  | inl f ↦ let k = f.0 in inl (omega arith, f.1, f.2)
  | inr f ↦ inr (f.0, λ q l g. elim (cases_lt q p) [ inl j ↦ f.1 q j g | inr j ↦ let same : q ≡ p = omega arith in d (sym g ∙ ap (λ x. get_or ns x 0) same ∙ sym e) ])
]

pub heads-found : (ns : List ℕ) (p n : ℕ) (hs : List ℕ) → p < length ns → n ≡ get_or ns p 0 → get_or hs n 0 < p → AreHeads ns p hs → AreHeads ns (p + 1) hs
heads-found ns p n hs w e l a = record {
  each = λ m i. elim (cases_eq m n) [
    | inr d ↦ other-head ns p n m (get_or hs m 0) e d (a.each m i)
    | inl s ↦ elim (a.each m i) [
      | inl f ↦ let k = f.0 in inl (omega arith, f.1, f.2)
      | inr f ↦
          let k = f.0 in
          let at : get_or hs m 0 ≡ get_or hs n 0 = ap (λ x. get_or hs x 0) s in
          absurd (omega arith)
    ]
  ];
}

pub heads-past : (ns : List ℕ) (p n : ℕ) (hs : List ℕ) → n ≡ get_or ns p 0 → length hs ≤ n → AreHeads ns p hs → AreHeads ns (p + 1) hs
heads-past ns p n hs e l a = record { each = λ m i. other-head ns p n m (get_or hs m 0) e (λ s. omega arith) (a.each m i) }

pub heads-put : (ns : List ℕ) (p n : ℕ) (hs : List ℕ) → n ≡ get_or ns p 0 → n < length hs → p ≤ get_or hs n 0 → AreHeads ns p hs → AreHeads ns (p + 1) (set hs n p)
heads-put ns p n hs e w l a = record {
  each = λ m i. elim (cases_eq m n) [
    | inl s ↦
        let at : get_or (set hs n p) m 0 ≡ p = ap (λ x. get_or (set hs n p) x 0) s ∙ get_or-set_same hs n p 0 w in
        rw (at, s) (inl (omega arith, sym e, none-below ns p n (get_or hs n 0) (a.each n w) l))
    | inr d ↦
        let j : m < length hs = subst (λ x. m < x) (length-set hs n p) i in
        let at : get_or (set hs n p) m 0 ≡ get_or hs m 0 = get_or-set_other hs n m p 0 d in
        rw at (other-head ns p n m (get_or hs m 0) e d (a.each m j))
  ];
}

-- before any place
pub heads-start : (ns hs : List ℕ) → ((n : ℕ) → n < length hs → get_or hs n 0 ≡ length ns) → AreHeads ns 0 hs
heads-start ns hs e = record { each = λ n i. inr (e n i, λ q l. absurd (omega arith)) }

-- opposite literals
pub some-opposite : (vars : ℕ) (ns : List ℕ) (v : ℕ) → v < vars → get_or ns (2 * v) 0 ≡ get_or ns (2 * v + 1) 0 → HasOpposite vars ns
some-opposite vars ns v l e =
    let p : number_place (positive (v + 1)) ≡ 2 * v = omega arith in
    let q : number_place (negation (positive (v + 1))) ≡ 2 * v + 1 = omega arith in
    (positive (v + 1), (omega arith, omega arith), ap (λ x. get_or ns x 0) p ∙ e ∙ ap (λ x. get_or ns x 0) (sym q))

pub none-opposite : (vars : ℕ) (ns : List ℕ) → ((v : ℕ) → v < vars → get_or ns (2 * v) 0 ≢ get_or ns (2 * v + 1) 0) → NoneOpposite vars ns
none-opposite vars ns h l u e =
    let v : ℕ = l.variable - 1 in
    let one = u.0 in
    let most = u.1 in
    let apart = h (l.variable - 1) (omega arith) in
    let signs : (s : Bool) → l.negative ≡ s → ⊥ =
    λ (s : Bool). elim s as (λ s. l.negative ≡ s → ⊥) [
      | true ↦ λ g.
          let p : number_place l ≡ 2 * (l.variable - 1) + 1 = ap (λ (b : Bool). 2 * (l.variable - 1) + cond b 1 0) g in
          let q : number_place (negation l) ≡ 2 * (l.variable - 1) = ap (λ (b : Bool). 2 * (l.variable - 1) + cond (not b) 1 0) g ∙ omega arith in
          apart (ap (λ x. get_or ns x 0) (sym q) ∙ sym e ∙ ap (λ x. get_or ns x 0) p)
      | false ↦ λ g.
          let p : number_place l ≡ 2 * (l.variable - 1) = ap (λ (b : Bool). 2 * (l.variable - 1) + cond b 1 0) g ∙ omega arith in
          let q : number_place (negation l) ≡ 2 * (l.variable - 1) + 1 = ap (λ (b : Bool). 2 * (l.variable - 1) + cond (not b) 1 0) g in
          apart (ap (λ x. get_or ns x 0) (sym p) ∙ e ∙ ap (λ x. get_or ns x 0) q)
    ] in
    signs l.negative refl

get_or-append-last : (made : List Literal) (l k : Literal) → get_or (made ++ l ∷ []) (length made) k ≡ l
get_or-append-last [] l k = refl
get_or-append-last (m ∷ made) l k = get_or-append-last made l k

-- one image more
pub images-first : (ns : List ℕ) (p : ℕ) (made made' : List Literal) (l : Literal) → length made ≡ p → made' ≡ made ++ l ∷ [] → IsFirst ns p (number_place l) → ((q : ℕ) (k : Literal) → q < p → IsFirst ns q (number_place (get_or made q k))) → (q : ℕ) (k : Literal) → q < p + 1 → IsFirst ns q (number_place (get_or made' q k))
images-first ns p made made' l n e f h q k w = rw e (elim (cases_lt q p) [
  | inl j ↦ rw (get_or_append_left made (l ∷ []) k q (omega arith)) (h q k j)
  | inr j ↦
      let same : q ≡ length made = omega arith in
      let own : get_or (made ++ l ∷ []) q k ≡ l = ap (λ x. get_or (made ++ l ∷ []) x k) same ∙ get_or-append-last made l k in
      let at : p ≡ q = omega arith in
      rw own (subst (λ x. IsFirst ns x (number_place l)) at f)
])

pub images-known : (made made' : List Literal) (l : Literal) → made' ≡ made ++ l ∷ [] → 1 ≤ l.variable → All (λ (k : Literal). 1 ≤ k.variable) made → All (λ (k : Literal). 1 ≤ k.variable) made'
images-known made made' l e p h = rw e (All-from_contained (λ (k : Literal). 1 ≤ k.variable) (made ++ l ∷ []) (λ k i. elim (Contains-append_cases made (l ∷ []) k i) [
  | inl a ↦ All-contains (λ (k : Literal). 1 ≤ k.variable) made k h a
  | inr b ↦ subst (λ (x : Literal). 1 ≤ x.variable) (sym (Contains-one l k b)) p
]))

pub images-many : (made made' : List Literal) (l : Literal) (p : ℕ) → made' ≡ made ++ l ∷ [] → length made ≡ p → length made' ≡ p + 1
images-many made made' l p e n = rw e (omega (arith, length-append made (l ∷ [])))

-- one variable more
pub replaced-none : (im : List Literal) (vs : List ℕ) → vs ≡ [] → AreReplaced 0 im vs
replaced-none im vs e = rw e (record { each = λ v r. let a = r.up.0 in let b = r.up.1 in absurd (omega arith); only = λ v i. absurd (Contains-none v i) })

pub replaced-same : (im : List Literal) (vs : List ℕ) (n m : ℕ) → m ≡ n + 1 → (image_in im (positive m)).variable ≡ m → AreReplaced n im vs → AreReplaced m im vs
replaced-same im vs n m e own r = record {
  each = λ v w. elim (cases_eq v m) [
    | inl s ↦ absurd (w.moved (rw s own))
    | inr d ↦ let a = w.up.0 in let b = w.up.1 in r.each v (record { up = (a, omega arith); moved = w.moved })
  ];
  only = λ v i. let w = r.only v i in let b = w.up.1 in record { up = (w.up.0, omega arith); moved = w.moved };
}

pub replaced-more : (im : List Literal) (vs vs' : List ℕ) (n m : ℕ) → m ≡ n + 1 → vs' ≡ vs ++ m ∷ [] → (image_in im (positive m)).variable ≢ m → AreReplaced n im vs → AreReplaced m im vs'
replaced-more im vs vs' n m e f own r = rw f (record {
  each = λ v w. elim (cases_eq v m) [
    | inl s ↦ Contains-append_right vs (m ∷ []) v (subst (Contains (m ∷ [])) (sym s) (Contains-first m []))
    | inr d ↦ let a = w.up.0 in let b = w.up.1 in Contains-append_left vs (m ∷ []) v (r.each v (record { up = (a, omega arith); moved = w.moved }))
  ];
  only = λ v i. elim (Contains-append_cases vs (m ∷ []) v i) [
    | inl j ↦ let w = r.only v j in let b = w.up.1 in record { up = (w.up.0, omega arith); moved = w.moved }
    | inr j ↦ let s = Contains-one m v j in rw s (record { up = (omega arith, omega arith); moved = own })
  ];
})

pub replaced-moved : (n : ℕ) (im : List Literal) (ps qs : List (ℕ × ℕ)) → IsPermutation ps qs → AreReplaced n im (map (λ (p : ℕ × ℕ). p.1) ps) → AreReplaced n im (map (λ (p : ℕ × ℕ). p.1) qs)
replaced-moved n im ps qs p r =
    let f : ℕ × ℕ → ℕ = λ (p : ℕ × ℕ). p.1 in
    let on = IsPermutation-map f ps qs p in
    record {
      each = λ v w. Contains-permutation (map f ps) (map f qs) v on (r.each v w);
      only = λ v i. r.only v (Contains-permutation (map f qs) (map f ps) v (IsPermutation-sym (map f ps) (map f qs) on) i);
    }

pub map-last : (xs : List (ℕ × ℕ)) (p : ℕ × ℕ) → map (λ (p : ℕ × ℕ). p.1) (xs ++ p ∷ []) ≡ map (λ (p : ℕ × ℕ). p.1) xs ++ p.1 ∷ []
map-last [] p = refl
map-last (x ∷ xs) p = ap (λ ys. x.1 ∷ ys) (map-last xs p)

made-positive : (v w : ℕ) (s : Bool) → v ≡ w → s ≡ false → lit v s ≡ positive w
made-positive v w s a b = rw (a, b) refl

pub image-variable : (im : List Literal) (l m : Literal) (v r : ℕ) → l.variable ≡ v → l.negative ≡ false → m ≡ image_in im l → r ≡ m.variable → (image_in im (positive v)).variable ≡ r
image-variable im l m v r a b e f = sym (f ∙ ap (λ (k : Literal). k.variable) (e ∙ ap (image_in im) (made-positive l.variable v l.negative a b)))
