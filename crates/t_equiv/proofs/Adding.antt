-- The steps of one clause more.
use Rattle.std.proofs.Common.{◌≡◌, ◌≢◌, ◌⊎◌, ℕ, ◌+◌, ◌*◌, ◌<◌, ◌≤◌, List, [], ◌∷◌, ◌++◌, length, get_or, zero, suc, All, refl, sym, ◌∙◌, ap, subst, arith, inl, inr, false}
use Rattle.std.specs.Prelude.{Some, is_some}
use Rattle.std.proofs.lemmas.Bool.{cases_lt, true≢false}
use Rattle.std.proofs.lemmas.List.{get_or_append_left, length-append}
use Rattle.std.proofs.lemmas.List.Elements.{All-from_get_or, All-get_or, All-contains}
use Rattle.std.proofs.lemmas.Grind.{common_steps}
use Rattle.mp_logic.specs.Literal.{Literal, negation, IsUpTo}
use Rattle.mp_store.specs.Held.{Held}
use Rattle.mp_clauses.specs.Slots.{clause_of, is_live, live_clauses}
use Rattle.mp_store.specs.Soundness.{IsStore}
use Rattle.mp_store.proofs.KeptFixing.{live-at}
use Rattle.t_equiv_graph.specs.Graphs.{Step, AreComponents}
use Rattle.t_equiv.specs.Implications.{number_place, AreNumbers}
use Rattle.t_equiv.specs.StepsById.{IsStepById, IsMade, AreStepsOf}
use Rattle.t_equiv.proofs.Bridge.{Slots, numbered}
use Rattle.t_equiv.proofs.Classes.{number_place-below}

-- one step more at the end
pub step-old : (f t : List ℕ) (a b p q : ℕ) → length f ≡ length t → Step f t p q → Step (f ++ a ∷ []) (t ++ b ∷ []) p q
step-old f t a b p q e s =
    let l : s.place < length f = s.within in
    let m : s.place < length t = subst (λ n. s.place < n) e l in
    record {
      place = s.place;
      within = omega (arith, length-append f (a ∷ []));
      starts = get_or_append_left f (a ∷ []) 0 s.place l ∙ s.starts;
      ends = get_or_append_left t (b ∷ []) 0 s.place m ∙ s.ends;
    }

last : (f : List ℕ) (a n : ℕ) → n ≡ length f → get_or (f ++ a ∷ []) n 0 ≡ a
last f a n e = grind (arith, common_steps)

pub step-new : (f t : List ℕ) (a b : ℕ) → length f ≡ length t → Step (f ++ a ∷ []) (t ++ b ∷ []) a b
step-new f t a b e = record {
  place = length f;
  within = omega (arith, length-append f (a ∷ []));
  starts = last f a (length f) refl;
  ends = last t b (length f) e;
}

pub step-cases : (f t : List ℕ) (a b p q : ℕ) → length f ≡ length t → Step (f ++ a ∷ []) (t ++ b ∷ []) p q → Step f t p q ⊎ ((p ≡ a) × (q ≡ b))
step-cases f t a b p q e s = elim (cases_lt s.place (length f)) [
  | inl l ↦ inl (record {
    place = s.place;
    within = l;
    starts = sym (get_or_append_left f (a ∷ []) 0 s.place l) ∙ s.starts;
    ends = sym (get_or_append_left t (b ∷ []) 0 s.place (subst (λ n. s.place < n) e l)) ∙ s.ends;
  })
  | inr g ↦
      let w : s.place < length (f ++ a ∷ []) = s.within in
      let n : s.place ≡ length f = omega (arith, length-append f (a ∷ [])) in
      inr (sym s.starts ∙ last f a s.place n, sym s.ends ∙ last t b s.place (n ∙ e))
]

pub even-more : (f t : List ℕ) (a b : ℕ) → length f ≡ length t → length (f ++ a ∷ []) ≡ length (t ++ b ∷ [])
even-more f t a b e = omega (arith, length-append f (a ∷ []), length-append t (b ∷ []))

-- no clause of two literals
pub steps-none : (v : ℕ) (s : Slots) (i : ℕ) (f t : List ℕ) → ((a b : Literal) → clause_of s i ≡ Some (a ∷ b ∷ []) → ⊥) → AreStepsOf v s i f t → AreStepsOf v s (i + 1) f t
steps-none v s i f t never m = record {
  even = m.even;
  made = m.made;
  has = λ x y w l. elim (cases_lt w.id i) [
    | inl h ↦ m.has x y w h
    | inr g ↦ let e : w.id ≡ i = omega arith in absurd (never w.a w.b (subst (λ k. clause_of s k ≡ Some (w.a ∷ w.b ∷ [])) e w.clause))
  ];
}

some-first : (a b c d : Literal) → Some (a ∷ b ∷ []) ≡ Some (c ∷ d ∷ []) → a ≡ c
some-first a b c d e = cc

some-second : (a b c d : Literal) → Some (a ∷ b ∷ []) ≡ Some (c ∷ d ∷ []) → b ≡ d
some-second a b c d e = cc

pub steps-more : (v : ℕ) (s : Slots) (i : ℕ) (f t f' t' : List ℕ) (a b : Literal) → clause_of s i ≡ Some (a ∷ b ∷ []) → IsUpTo v a → IsUpTo v b
    → f' ≡ (f ++ number_place (negation a) ∷ []) ++ number_place (negation b) ∷ [] → t' ≡ (t ++ number_place b ∷ []) ++ number_place a ∷ []
    → AreStepsOf v s i f t → AreStepsOf v s (i + 1) f' t'
steps-more v s i f t f' t' a b c j k d e m =
    let f1 : List ℕ = f ++ number_place (negation a) ∷ [] in
    let t1 : List ℕ = t ++ number_place b ∷ [] in
    let f2 : List ℕ = f1 ++ number_place (negation b) ∷ [] in
    let t2 : List ℕ = t1 ++ number_place a ∷ [] in
    let even1 : length f1 ≡ length t1 = even-more f t (number_place (negation a)) (number_place b) m.even in
    let one : IsStepById s (negation a) b = record { id = i; a = a; b = b; clause = c; either = inl (refl, refl) } in
    let two : IsStepById s (negation b) a = record { id = i; a = a; b = b; clause = c; either = inr (refl, refl) } in
    let first : Step f2 t2 (number_place (negation a)) (number_place b) = step-old f1 t1 (number_place (negation b)) (number_place a) (number_place (negation a)) (number_place b) even1 (step-new f t (number_place (negation a)) (number_place b) m.even) in
    let second : Step f2 t2 (number_place (negation b)) (number_place a) = step-new f1 t1 (number_place (negation b)) (number_place a) even1 in
    let r : AreStepsOf v s (i + 1) f2 t2 = record {
      even = even-more f1 t1 (number_place (negation b)) (number_place a) even1;
      made = λ p q w. elim (step-cases f1 t1 (number_place (negation b)) (number_place a) p q even1 w) [
        | inl u ↦ elim (step-cases f t (number_place (negation a)) (number_place b) p q m.even u) [
          | inl o ↦ m.made p q o
          | inr g ↦ record { x = negation a; y = b; known = (j.0, j.1); known_too = k; starts = g.0; ends = g.1; step = one }
        ]
        | inr g ↦ record { x = negation b; y = a; known = (k.0, k.1); known_too = j; starts = g.0; ends = g.1; step = two }
      ];
      has = λ x y w l. elim (cases_lt w.id i) [
        | inl h ↦ step-old f1 t1 (number_place (negation b)) (number_place a) (number_place x) (number_place y) even1 (step-old f t (number_place (negation a)) (number_place b) (number_place x) (number_place y) m.even (m.has x y w h))
        | inr g ↦
            let same : w.id ≡ i = omega arith in
            let both : Some (w.a ∷ w.b ∷ []) ≡ Some (a ∷ b ∷ []) = sym w.clause ∙ (ap (λ k. clause_of s k) same ∙ c) in
            let ea : w.a ≡ a = some-first w.a w.b a b both in
            let eb : w.b ≡ b = some-second w.a w.b a b both in
            elim w.either [
              | inl z ↦
                  let ex : number_place (negation a) ≡ number_place x = ap number_place (sym (z.0 ∙ ap negation ea)) in
                  let ey : number_place b ≡ number_place y = ap number_place (sym (z.1 ∙ eb)) in
                  subst (λ n. Step f2 t2 (number_place x) n) ey (subst (λ n. Step f2 t2 n (number_place b)) ex first)
              | inr z ↦
                  let ex : number_place (negation b) ≡ number_place x = ap number_place (sym (z.0 ∙ ap negation eb)) in
                  let ey : number_place a ≡ number_place y = ap number_place (sym (z.1 ∙ ea)) in
                  subst (λ n. Step f2 t2 (number_place x) n) ey (subst (λ n. Step f2 t2 n (number_place a)) ex second)
            ]
      ];
    } in
    subst (λ z. AreStepsOf v s (i + 1) z t') (sym d) (subst (λ z. AreStepsOf v s (i + 1) f2 z) (sym e) r)

-- every node of a step is below the number of places
pub starts-below : (v : ℕ) (s : Slots) (i : ℕ) (f t : List ℕ) → AreStepsOf v s i f t → All (λ x. x < 2 * v) f
starts-below v s i f t m = All-from_get_or (λ x. x < 2 * v) f 0 (λ k l.
    let made : IsMade s v (get_or f k 0) (get_or t k 0) = m.made (get_or f k 0) (get_or t k 0) (record { place = k; within = l; starts = refl; ends = refl }) in
    subst (λ x. x < 2 * v) (sym made.starts) (number_place-below v made.x made.known))

pub ends-below : (v : ℕ) (s : Slots) (i : ℕ) (f t : List ℕ) → AreStepsOf v s i f t → All (λ x. x < 2 * v) t
ends-below v s i f t m = All-from_get_or (λ x. x < 2 * v) t 0 (λ k l.
    let made : IsMade s v (get_or f k 0) (get_or t k 0) = m.made (get_or f k 0) (get_or t k 0) (record { place = k; within = subst (λ n. k < n) (sym m.even) l; starts = refl; ends = refl }) in
    subst (λ x. x < 2 * v) (sym made.ends) (number_place-below v made.y made.known_too))

-- before any clause
pub steps-start : (v : ℕ) (s : Slots) → AreStepsOf v s 0 [] []
steps-start v s = record {
  even = refl;
  made = λ p q w. let l : w.place < 0 = w.within in absurd (omega arith);
  has = λ x y w l. absurd (omega arith);
}

-- the literals of a live clause
some-list : (xs ys : List Literal) → Some xs ≡ Some ys → xs ≡ ys
some-list xs ys e = cc

pub two-known : (h : Held) (i : ℕ) (xs : List Literal) → IsStore h → Some xs ≡ clause_of h.slots i → All (IsUpTo h.vars) xs
two-known h i xs s e = All-contains (All (IsUpTo h.vars)) (live_clauses h.slots) xs s.labelled.hard_within (live-at h.slots i xs (sym e))

pub known-at : (v i : ℕ) (d : Literal) (xs : List Literal) → All (IsUpTo v) xs → i < length xs → IsUpTo v (get_or xs i d)
known-at v i d xs a l = All-get_or (IsUpTo v) xs i d l a

pub other-length : (s : Slots) (i : ℕ) (xs : List Literal) → Some xs ≡ clause_of s i → length xs ≢ 2 → (a b : Literal) → clause_of s i ≡ Some (a ∷ b ∷ []) → ⊥
other-length s i xs e n a b c = let d : xs ≡ a ∷ b ∷ [] = some-list xs (a ∷ b ∷ []) (e ∙ c) in n (ap length d)

pub two-list : (d : Literal) (xs : List Literal) → length xs ≡ 2 → xs ≡ get_or xs 0 d ∷ get_or xs 1 d ∷ []
two-list d [] h = absurd (omega arith)
two-list d (x ∷ []) h = absurd (omega arith)
two-list d (x ∷ y ∷ []) h = refl
two-list d (x ∷ y ∷ z ∷ zs) h = absurd (omega arith)

pub dead-none : (s : Slots) (i : ℕ) → is_live s i ≡ false → (a b : Literal) → clause_of s i ≡ Some (a ∷ b ∷ []) → ⊥
dead-none s i h a b c = true≢false (sym (ap is_some c) ∙ h)

pub record IsPair (h : Held) (i : ℕ) (a b : Literal) : Type 0 where
  pub clause : clause_of h.slots i ≡ Some (a ∷ b ∷ [])
  pub first : IsUpTo h.vars a
  pub second : IsUpTo h.vars b

pair : (xs : List Literal) (a b : Literal) → length xs ≡ 2 → a ≡ get_or xs 0 a → b ≡ get_or xs 1 b → xs ≡ a ∷ b ∷ []
pair [] a b h d e = absurd (omega arith)
pair (x ∷ []) a b h d e = absurd (omega arith)
pair (x ∷ y ∷ []) a b h d e = rw (d, e) refl
pair (x ∷ y ∷ z ∷ zs) a b h d e = absurd (omega arith)

pub paired : (h : Held) (i : ℕ) (xs : List Literal) (a b : Literal) → IsStore h → Some xs ≡ clause_of h.slots i → length xs ≡ 2 → a ≡ get_or xs 0 a → b ≡ get_or xs 1 b → IsPair h i a b
paired h i xs a b s e n d g =
    let all : All (IsUpTo h.vars) xs = two-known h i xs s e in
    record {
      clause = sym e ∙ ap (λ (l : List Literal). Some l) (pair xs a b n d g);
      first = subst (λ (l : Literal). IsUpTo h.vars l) (sym d) (known-at h.vars 0 a xs all (omega arith));
      second = subst (λ (l : Literal). IsUpTo h.vars l) (sym g) (known-at h.vars 1 b xs all (omega arith));
    }

pub twice : (f f1 f2 : List ℕ) (x y x' y' : Literal) → f1 ≡ f ++ number_place x ∷ [] → f2 ≡ f1 ++ number_place y ∷ [] → x ≡ x' → y ≡ y' → f2 ≡ (f ++ number_place x' ∷ []) ++ number_place y' ∷ []
twice f f1 f2 x y x' y' d e p q = e ∙ (ap (λ (z : List ℕ). z ++ number_place y ∷ []) (d ∙ ap (λ (l : Literal). f ++ number_place l ∷ []) p) ∙ ap (λ (l : Literal). (f ++ number_place x' ∷ []) ++ number_place l ∷ []) q)

pub nodes-below : (v v' : ℕ) (f f' : List ℕ) → v' ≡ v → f' ≡ f → All (λ x. x < 2 * v) f → All (λ x. x < 2 * v') f'
nodes-below v v' f f' d e a = subst (λ (z : List ℕ). All (λ x. x < 2 * v') z) (sym e) (subst (λ w. All (λ x. x < 2 * w) f) (sym d) a)

id-below : (s : Slots) (i : ℕ) (c : List Literal) → clause_of s i ≡ Some c → i < length s
id-below [] i c e = absurd (cc)
id-below (x ∷ s) zero c e = omega arith
id-below (x ∷ s) (suc i) c e = let r : i < length s = id-below s i c e in omega arith

pub finished : (v v' : ℕ) (s : Slots) (i : ℕ) (f t f' t' ns : List ℕ) → v' ≡ v → f' ≡ f → t' ≡ t → length s ≤ i → AreStepsOf v s i f t → AreComponents (2 * v') f' t' ns → AreNumbers v (live_clauses s) ns
finished v v' s i f t f' t' ns d e g l m c =
    let one : AreComponents (2 * v) f' t' ns = subst (λ w. AreComponents (2 * w) f' t' ns) d c in
    let two : AreComponents (2 * v) f t' ns = subst (λ (z : List ℕ). AreComponents (2 * v) z t' ns) e one in
    let three : AreComponents (2 * v) f t ns = subst (λ (z : List ℕ). AreComponents (2 * v) f z ns) g two in
    numbered v s i f t ns m (λ x y w. let b : w.id < length s = id-below s w.id (w.a ∷ w.b ∷ []) w.clause in omega arith) three
