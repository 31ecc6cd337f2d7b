-- The labels near a label that became false, as they are gathered.
use Rattle.std.proofs.Common.{◌≡◌, ◌≢◌, ℕ, ◌+◌, ◌<◌, Bool, true, false, cond, List, [], ◌∷◌, ◌++◌, length, get_or, drop, refl, sym, ◌∙◌, ap, subst, inl, inr, Contains, append_assoc}
use Rattle.std.specs.Prelude.{Option, Some, None, ◌==◌}
use Rattle.std.specs.List.Sorted.{IsStrictlyIncreasing}
use Rattle.std.proofs.lemmas.Bool.{eq-eqb, ne_eqb, true≢false}
use Rattle.std.proofs.lemmas.List.{drop_more}
use Rattle.std.proofs.lemmas.List.Elements.{Contains-append_cases, Contains-append_left, Contains-append_right}
use Rattle.mp_logic.specs.Literal.{Literal, negation}
use Rattle.mp_logic.proofs.Literals.{negation-negation}
use Rattle.mp_logic.proofs.Members.{Contains-none, Contains-first, Contains-later, Contains-cases, Contains-one}
use Rattle.mp_clauses.specs.Places.{place_of}
use Rattle.mp_clauses.specs.Slots.{clause_of, live_clauses}
use Rattle.mp_clauses.specs.Weighing.{weight_in}
use Rattle.mp_clauses.specs.Occurrences.{ids_with}
use Rattle.mp_store.specs.Held.{Held}
use Rattle.mp_store.proofs.KeptFixing.{live-at, live-id}
use Rattle.t_labels.specs.Labels.{is_plain, place_in}
use Rattle.t_labels.specs.Lowering.{StandsWith, AreWith, AreNear}
use Rattle.t_labels.specs.Near.{slot_literals, literals_at, places_in, places_at, places_with, places_freed}
use Rattle.t_labels.proofs.Labels.{id-in, id-of, plain-found, plain-by}

-- the literals of the clauses of a literal
literals-has : (s : List (Option (List Literal))) (ids : List ℕ) (id : ℕ) (c : List Literal) (k : Literal) → Contains ids id → clause_of s id ≡ Some c → Contains c k → Contains (literals_at s ids) k
literals-has s [] id c k i e j = absurd (Contains-none id i)
literals-has s (x ∷ ids) id c k i e j =
    elim (Contains-cases x ids id i) [
      | inl o ↦ Contains-append_left (slot_literals (clause_of s x)) (literals_at s ids) k (rw (← o, e) j)
      | inr r ↦ Contains-append_right (slot_literals (clause_of s x)) (literals_at s ids) k (literals-has s ids id c k r e j)
    ]

slot-from : (slot : Option (List Literal)) (k : Literal) → Contains (slot_literals slot) k → (c : List Literal) × (slot ≡ Some c) × Contains c k
slot-from None k i = absurd (Contains-none k i)
slot-from (Some c) k i = (c, refl, i)

literals-from : (s : List (Option (List Literal))) (ids : List ℕ) (k : Literal) → Contains (literals_at s ids) k → (id : ℕ) × Contains ids id × ((c : List Literal) × (clause_of s id ≡ Some c) × Contains c k)
literals-from s [] k i = absurd (Contains-none k i)
literals-from s (x ∷ ids) k i =
    elim (Contains-append_cases (slot_literals (clause_of s x)) (literals_at s ids) k i) [
      | inl a ↦ (x, Contains-first x ids, slot-from (clause_of s x) k a)
      | inr b ↦ let w = literals-from s ids k b in (w.0, Contains-later x ids w.0 w.1, w.2)
    ]

pub with-is : (m : Literal) (s : List (Option (List Literal))) (ids : List ℕ) (found ks : List Literal) → ids ≡ ids_with (place_of m) s → found ≡ literals_at s ids → ((k : Literal) → Contains found k → Contains ks k) → ((k : Literal) → Contains ks k → Contains found k) → AreWith m (live_clauses s) ks
with-is m s ids found ks e f to back =
    let same : found ≡ literals_at s (ids_with (place_of m) s) = f ∙ ap (literals_at s) e in
    record {
      each = λ k w.
          let at = live-id s w.0 w.1 in
          to k (subst (λ (xs : List Literal). Contains xs k) (sym same) (literals-has s (ids_with (place_of m) s) at.0 w.0 k (id-in m s at.0 w.0 at.1 w.2) at.1 w.3));
      only = λ k i.
          let w = literals-from s (ids_with (place_of m) s) k (subst (λ (xs : List Literal). Contains xs k) same (back k i)) in
          let o = id-of m s w.0 w.1 in
          let both : Some o.0 ≡ Some w.2.0 = sym o.1 ∙ w.2.1 in
          let is : o.0 ≡ w.2.0 = cc in
          (w.2.0, live-at s w.0 w.2.0 w.2.1, subst (λ (c : List Literal). Contains c m) is o.2, w.2.2);
    }

-- the places of labels
place-has : (w : List ℕ) (k : Literal) → weight_in w k ≢ 0 → Contains (place_in w k) (place_of k)
place-has w k n = subst (λ b. Contains (cond b [] (place_of k ∷ [])) (place_of k)) (sym (ne_eqb (weight_in w k) 0 n)) (Contains-first (place_of k) [])

place-from : (w : List ℕ) (k : Literal) (i : ℕ) → Contains (place_in w k) i → (i ≡ place_of k) × (weight_in w k ≢ 0)
place-from w k i m =
    let step : (b : Bool) → (weight_in w k == 0) ≡ b → Contains (cond b [] (place_of k ∷ [])) i → (i ≡ place_of k) × (weight_in w k ≢ 0) =
    λ (b : Bool). elim b as (λ b. (weight_in w k == 0) ≡ b → Contains (cond b [] (place_of k ∷ [])) i → (i ≡ place_of k) × (weight_in w k ≢ 0)) [
      | true ↦ λ e j. absurd (Contains-none i j)
      | false ↦ λ e j. (Contains-one (place_of k) i j, λ z. true≢false (sym (eq-eqb (weight_in w k) 0 z) ∙ e))
    ] in
    step (weight_in w k == 0) refl m

places-has : (w : List ℕ) (ks : List Literal) (k : Literal) → weight_in w k ≢ 0 → Contains ks k → Contains (places_in w ks) (place_of k)
places-has w [] k n i = absurd (Contains-none k i)
places-has w (x ∷ ks) k n i =
    elim (Contains-cases x ks k i) [
      | inl e ↦ Contains-append_left (place_in w x) (places_in w ks) (place_of k) (subst (λ y. Contains (place_in w y) (place_of k)) e (place-has w k n))
      | inr j ↦ Contains-append_right (place_in w x) (places_in w ks) (place_of k) (places-has w ks k n j)
    ]

places-from : (w : List ℕ) (ks : List Literal) (i : ℕ) → Contains (places_in w ks) i → (k : Literal) × Contains ks k × (i ≡ place_of k) × (weight_in w k ≢ 0)
places-from w [] i m = absurd (Contains-none i m)
places-from w (x ∷ ks) i m =
    elim (Contains-append_cases (place_in w x) (places_in w ks) i m) [
      | inl a ↦ let p = place-from w x i a in (x, Contains-first x ks, p.0, p.1)
      | inr b ↦ let p = places-from w ks i b in (p.0, Contains-later x ks p.0 p.1, p.2, p.3)
    ]

at-has : (w : List ℕ) (s : List (Option (List Literal))) (ids : List ℕ) (id : ℕ) (c : List Literal) (k : Literal) → weight_in w k ≢ 0 → Contains ids id → clause_of s id ≡ Some c → Contains c k → Contains (places_at w s ids) (place_of k)
at-has w s [] id c k n i e j = absurd (Contains-none id i)
at-has w s (x ∷ ids) id c k n i e j =
    elim (Contains-cases x ids id i) [
      | inl o ↦
          let at : slot_literals (clause_of s x) ≡ c = ap (λ y. slot_literals (clause_of s y)) (sym o) ∙ ap slot_literals e in
          Contains-append_left (places_in w (slot_literals (clause_of s x))) (places_at w s ids) (place_of k) (subst (λ (ks : List Literal). Contains (places_in w ks) (place_of k)) (sym at) (places-has w c k n j))
      | inr r ↦ Contains-append_right (places_in w (slot_literals (clause_of s x))) (places_at w s ids) (place_of k) (at-has w s ids id c k n r e j)
    ]

at-from : (w : List ℕ) (s : List (Option (List Literal))) (ids : List ℕ) (i : ℕ) → Contains (places_at w s ids) i → (k : Literal) × (i ≡ place_of k) × (weight_in w k ≢ 0) × ((id : ℕ) × Contains ids id × ((c : List Literal) × (clause_of s id ≡ Some c) × Contains c k))
at-from w s [] i m = absurd (Contains-none i m)
at-from w s (x ∷ ids) i m =
    elim (Contains-append_cases (places_in w (slot_literals (clause_of s x))) (places_at w s ids) i m) [
      | inl a ↦ let p = places-from w (slot_literals (clause_of s x)) i a in (p.0, p.2, p.3, (x, Contains-first x ids, slot-from (clause_of s x) p.0 p.1))
      | inr b ↦ let p = at-from w s ids i b in (p.0, p.1, p.2, (p.3.0, Contains-later x ids p.3.0 p.3.1, p.3.2))
    ]

-- in clauses with a plain label
with-has : (h : Held) (b k : Literal) → weight_in h.weights b ≢ 0 → is_plain (live_clauses h.slots) b ≡ true → weight_in h.weights k ≢ 0 → StandsWith b k (live_clauses h.slots) → Contains (places_with h b) (place_of k)
with-has h b k n p m w =
    let at = live-id h.slots w.0 w.1 in
    let there = at-has h.weights h.slots (ids_with (place_of b) h.slots) at.0 w.0 k m (id-in b h.slots at.0 w.0 at.1 w.2) at.1 w.3 in
    let one = subst (λ t. Contains (cond t (places_at h.weights h.slots (ids_with (place_of b) h.slots)) []) (place_of k)) (sym p) there in
    subst (λ t. Contains (cond t [] (cond (is_plain (live_clauses h.slots) b) (places_at h.weights h.slots (ids_with (place_of b) h.slots)) [])) (place_of k)) (sym (ne_eqb (weight_in h.weights b) 0 n)) one

record With (h : Held) (b : Literal) (i : ℕ) : Type 0 where
  label : weight_in h.weights b ≢ 0
  plain : is_plain (live_clauses h.slots) b ≡ true
  other : Literal
  is : i ≡ place_of other
  weighs : weight_in h.weights other ≢ 0
  stands : StandsWith b other (live_clauses h.slots)

with-from : (h : Held) (b : Literal) (i : ℕ) → Contains (places_with h b) i → With h b i
with-from h b i m =
    let all : List ℕ = places_at h.weights h.slots (ids_with (place_of b) h.slots) in
    let step : (x y : Bool) → (weight_in h.weights b == 0) ≡ x → is_plain (live_clauses h.slots) b ≡ y → Contains (cond x [] (cond y all [])) i → With h b i =
    λ (x : Bool) (y : Bool). elim x as (λ x. (weight_in h.weights b == 0) ≡ x → is_plain (live_clauses h.slots) b ≡ y → Contains (cond x [] (cond y all [])) i → With h b i) [
      | true ↦ λ e f j. absurd (Contains-none i j)
      | false ↦ λ e. elim y as (λ y. is_plain (live_clauses h.slots) b ≡ y → Contains (cond y all []) i → With h b i) [
        | false ↦ λ f j. absurd (Contains-none i j)
        | true ↦ λ f j.
            let p = at-from h.weights h.slots (ids_with (place_of b) h.slots) i j in
            let o = id-of b h.slots p.3.0 p.3.1 in
            let both : Some o.0 ≡ Some p.3.2.0 = sym o.1 ∙ p.3.2.1 in
            let same : o.0 ≡ p.3.2.0 = cc in
            record {
              label = λ z. true≢false (sym (eq-eqb (weight_in h.weights b) 0 z) ∙ e);
              plain = f;
              other = p.0;
              is = p.1;
              weighs = p.2;
              stands = (p.3.2.0, live-at h.slots p.3.0 p.3.2.0 p.3.2.1, subst (λ (c : List Literal). Contains c b) same o.2, p.3.2.2);
            }
      ]
    ] in
    step (weight_in h.weights b == 0) (is_plain (live_clauses h.slots) b) refl refl m

freed-has : (h : Held) (gone : List Literal) (g : Literal) (i : ℕ) → Contains gone g → Contains (places_with h (negation g)) i → Contains (places_freed h gone) i
freed-has h [] g i j m = absurd (Contains-none g j)
freed-has h (x ∷ gone) g i j m =
    elim (Contains-cases x gone g j) [
      | inl e ↦ Contains-append_left (places_with h (negation x)) (places_freed h gone) i (subst (λ y. Contains (places_with h (negation y)) i) e m)
      | inr r ↦ Contains-append_right (places_with h (negation x)) (places_freed h gone) i (freed-has h gone g i r m)
    ]

freed-from : (h : Held) (gone : List Literal) (i : ℕ) → Contains (places_freed h gone) i → (g : Literal) × Contains gone g × Contains (places_with h (negation g)) i
freed-from h [] i m = absurd (Contains-none i m)
freed-from h (x ∷ gone) i m =
    elim (Contains-append_cases (places_with h (negation x)) (places_freed h gone) i m) [
      | inl a ↦ (x, Contains-first x gone, a)
      | inr b ↦ let w = freed-from h gone i b in (w.0, Contains-later x gone w.0 w.1, w.2)
    ]

pub freed-step : (h : Held) (gone : List Literal) (i : ℕ) (g neg : Literal) (near more all : List ℕ) → i < length gone → g ≡ get_or gone i g → neg ≡ negation g → more ≡ near ++ places_with h neg → near ++ places_freed h (drop i gone) ≡ all → more ++ places_freed h (drop (i + 1) gone) ≡ all
freed-step h gone i g neg near more all lt e n f inv =
    let own : places_freed h (drop i gone) ≡ places_with h (negation g) ++ places_freed h (drop (i + 1) gone) = ap (places_freed h) (drop_more gone i g lt ∙ ap (λ k. k ∷ drop (i + 1) gone) (sym e)) in
    ap (λ xs. xs ++ places_freed h (drop (i + 1) gone)) (f ∙ ap (λ k. near ++ places_with h k) n)
    ∙ (append_assoc near (places_with h (negation g)) (places_freed h (drop (i + 1) gone)) ∙ (ap (λ xs. near ++ xs) (sym own) ∙ inv))

pub near-is : (gone cut : List Literal) (h : Held) (all near : List ℕ) → all ≡ (places_in h.weights gone ++ places_in h.weights cut) ++ places_freed h gone → IsStrictlyIncreasing near → ((i : ℕ) → Contains all i → Contains near i) → ((i : ℕ) → Contains near i → Contains all i) → AreNear gone cut h near
near-is gone cut h all near e rising to back =
    let own : List ℕ = places_in h.weights gone ++ places_in h.weights cut in
    let put : (i : ℕ) → Contains (own ++ places_freed h gone) i → Contains near i = λ i m. to i (subst (λ (xs : List ℕ). Contains xs i) (sym e) m) in
    record {
      rising = rising;
      each = λ k n b. elim b [
        | inl a ↦ put (place_of k) (Contains-append_left own (places_freed h gone) (place_of k) (Contains-append_left (places_in h.weights gone) (places_in h.weights cut) (place_of k) (places-has h.weights gone k n a)))
        | inr b ↦ elim b [
          | inl a ↦ put (place_of k) (Contains-append_left own (places_freed h gone) (place_of k) (Contains-append_right (places_in h.weights gone) (places_in h.weights cut) (place_of k) (places-has h.weights cut k n a)))
          | inr a ↦
              let free = a.1 in
              put (place_of k) (Contains-append_right own (places_freed h gone) (place_of k) (freed-has h gone (negation a.0) (place_of k) free.was
              (subst (λ (y : Literal). Contains (places_with h y) (place_of k)) (sym (negation-negation a.0)) (with-has h a.0 k free.label (plain-by (live_clauses h.slots) a.0 free.plain) n a.2))))
        ]
      ];
      only = λ i m. elim (Contains-append_cases own (places_freed h gone) i (subst (λ (xs : List ℕ). Contains xs i) e (back i m))) [
        | inl a ↦ elim (Contains-append_cases (places_in h.weights gone) (places_in h.weights cut) i a) [
          | inl b ↦ let p = places-from h.weights gone i b in (p.0, p.2, p.3, inl p.1)
          | inr b ↦ let p = places-from h.weights cut i b in (p.0, p.2, p.3, inr (inl p.1))
        ]
        | inr a ↦
            let g = freed-from h gone i a in
            let w = with-from h (negation g.0) i g.2 in
            (w.other, w.is, w.weighs, inr (inr (negation g.0, record { label = w.label; was = subst (Contains gone) (sym (negation-negation g.0)) g.1; plain = plain-found (live_clauses h.slots) (negation g.0) w.plain }, w.stands)))
      ];
    }
