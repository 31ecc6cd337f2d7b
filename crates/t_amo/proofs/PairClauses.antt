-- The partners of a label, as they are found clause by clause.
use Rattle.std.proofs.Common.{◌≡◌, ◌≢◌, ◌⊎◌, ℕ, true, not, cond, List, [], ◌∷◌, ◌++◌, length, refl, sym, ◌∙◌, ap, subst, arith, inl, inr, Contains}
use Rattle.std.specs.Prelude.{Option, Some, None, ◌==◌, ◌&&◌}
use Rattle.std.specs.List.{filter}
use Rattle.std.proofs.lemmas.Bool.{cases_Bool, and_parts, and_from, eqb-true, eq-eqb, ne_eqb, not-true, true≢false}
use Rattle.std.proofs.lemmas.List.Elements.{Contains-append_cases, Contains-append_left, Contains-append_right}
use Rattle.mp_logic.specs.Literal.{Literal}
use Rattle.mp_logic.specs.Normal.{SameLiterals}
use Rattle.mp_logic.specs.Truth.{literal_value}
use Rattle.mp_logic.specs.Sets.{Implies}
use Rattle.mp_logic.proofs.Members.{Contains-none, Contains-first, Contains-later, Contains-cases, Contains-one, satisfied, witness, true_by}
use Rattle.mp_clauses.specs.Places.{place_of, has}
use Rattle.mp_clauses.specs.Slots.{clause_of, live_clauses}
use Rattle.mp_clauses.specs.Weighing.{weight_in}
use Rattle.mp_clauses.specs.Occurrences.{ids_with}
use Rattle.mp_clauses.proofs.Found.{any-by, any-found, has-by, has-contains}
use Rattle.mp_clauses.proofs.Pricing.{same-place}
use Rattle.mp_store.specs.Held.{Held}
use Rattle.mp_store.proofs.Fixes.{filter-from, filter-has}
use Rattle.mp_store.proofs.KeptFixing.{live-at, live-id}
use Rattle.t_amo.specs.Labels.{is_pair_of, are_clause}
use Rattle.t_amo.specs.Choosing.{is_other, others_in, others_at, IsPartner, ArePartners}
use Rattle.t_amo.proofs.Weighed.{id-in, id-of}

-- a clause of two literals
pub record IsPair (a b : Literal) (c : List Literal) : Type 0 where
  pub two : length c ≡ 2
  pub has_a : Contains c a
  pub has_b : Contains c b

pub pair-by : (a b : Literal) (c : List Literal) → IsPair a b c → is_pair_of a b c ≡ true
pair-by a b c p = and_from (length c == 2) (has (place_of a) c && has (place_of b) c) (eq-eqb (length c) 2 p.two) (and_from (has (place_of a) c) (has (place_of b) c) (has-by c a p.has_a) (has-by c b p.has_b))

pub pair-found : (a b : Literal) (c : List Literal) → is_pair_of a b c ≡ true → IsPair a b c
pair-found a b c e =
    let first = and_parts (length c == 2) (has (place_of a) c && has (place_of b) c) e in
    let rest = and_parts (has (place_of a) c) (has (place_of b) c) first.1 in
    record { two = eqb-true (length c) 2 first.0; has_a = has-contains c a rest.0; has_b = has-contains c b rest.1 }

pub clause-by : (cs : List (List Literal)) (a b : Literal) (c : List Literal) → Contains cs c → IsPair a b c → are_clause cs a b ≡ true
clause-by cs a b c i p = any-by (is_pair_of a b) cs c i (pair-by a b c p)

pub clause-found : (cs : List (List Literal)) (a b : Literal) → are_clause cs a b ≡ true → (c : List Literal) × Contains cs c × IsPair a b c
clause-found cs a b e = let w = any-found (is_pair_of a b) cs e in (w.0, w.1, pair-found a b w.0 w.2)

pub clause-back : (cs : List (List Literal)) (a b : Literal) → are_clause cs a b ≡ true → are_clause cs b a ≡ true
clause-back cs a b e = let w = clause-found cs a b e in clause-by cs b a w.0 w.1 (record { two = w.2.two; has_a = w.2.has_b; has_b = w.2.has_a })

-- it has no third literal
pub two-only : (a b : Literal) (c : List Literal) → IsPair a b c → a ≢ b → (k : Literal) → Contains c k → (k ≡ a) ⊎ (k ≡ b)
two-only a b [] p n k i = absurd (Contains-none k i)
two-only a b (x ∷ []) p n k i = absurd (let z = p.two in omega (arith, z))
two-only a b (x ∷ (y ∷ [])) p n k i =
    elim (Contains-cases x (y ∷ []) k i) [
      | inl e ↦ elim (Contains-cases x (y ∷ []) a p.has_a) [
        | inl f ↦ inl (e ∙ sym f)
        | inr f ↦ elim (Contains-cases x (y ∷ []) b p.has_b) [ inl g ↦ inr (e ∙ sym g) | inr g ↦ absurd (n (Contains-one y a f ∙ sym (Contains-one y b g))) ]
      ]
      | inr e ↦ elim (Contains-cases x (y ∷ []) a p.has_a) [
        | inr f ↦ inl (Contains-one y k e ∙ sym (Contains-one y a f))
        | inl f ↦ elim (Contains-cases x (y ∷ []) b p.has_b) [ inr g ↦ inr (Contains-one y k e ∙ sym (Contains-one y b g)) | inl g ↦ absurd (n (f ∙ sym g)) ]
      ]
    ]
two-only a b (x ∷ (y ∷ (z ∷ c))) p n k i = absurd (let e = p.two in omega (arith, e))

pub clause-implies : (cs : List (List Literal)) (a b : Literal) → are_clause cs a b ≡ true → a ≢ b → Implies cs (a ∷ (b ∷ []))
clause-implies cs a b e n x s =
    let w = clause-found cs a b e in
    let k = witness x w.0 (satisfied x cs w.0 s w.1) in
    elim (two-only a b w.0 w.2 n k.0 k.1) [
      | inl f ↦ true_by x (a ∷ (b ∷ [])) a (Contains-first a (b ∷ [])) (ap (literal_value x) (sym f) ∙ k.2)
      | inr f ↦ true_by x (a ∷ (b ∷ [])) b (Contains-later a (b ∷ []) b (Contains-first b [])) (ap (literal_value x) (sym f) ∙ k.2)
    ]

-- partners go both ways
pub partner-back : (h : Held) (a b : Literal) → weight_in h.weights a ≢ 0 → IsPartner h a b → IsPartner h b a
partner-back h a b n p = record { label = n; other = λ e. p.other (sym e); clause = clause-back (live_clauses h.slots) a b p.clause }

-- the other labels of clauses of two literals
other-parts : (w : List ℕ) (l k : Literal) → is_other w l k ≡ true → (weight_in w k ≢ 0) × (k ≢ l)
other-parts w l k e =
    let parts = and_parts (not (weight_in w k == 0)) (not (place_of k == place_of l)) e in
    (λ z. true≢false (sym (eq-eqb (weight_in w k) 0 z) ∙ not-true (weight_in w k == 0) parts.0), λ z. true≢false (sym (eq-eqb (place_of k) (place_of l) (ap place_of z)) ∙ not-true (place_of k == place_of l) parts.1))

other-by : (w : List ℕ) (l k : Literal) → weight_in w k ≢ 0 → k ≢ l → is_other w l k ≡ true
other-by w l k n o = and_from (not (weight_in w k == 0)) (not (place_of k == place_of l)) (ap not (ne_eqb (weight_in w k) 0 n)) (ap not (ne_eqb (place_of k) (place_of l) (λ e. o (same-place k l e))))

pub record IsOtherIn (w : List ℕ) (l k : Literal) (c : List Literal) : Type 0 where
  pub two : length c ≡ 2
  pub has : Contains c k
  pub other : is_other w l k ≡ true

slot-from : (w : List ℕ) (l k : Literal) (slot : Option (List Literal)) → Contains (others_in w l slot) k → (c : List Literal) × (slot ≡ Some c) × IsOtherIn w l k c
slot-from w l k None i = absurd (Contains-none k i)
slot-from w l k (Some c) i =
    elim (cases_Bool (length c == 2)) [
      | inl t ↦
          let there : Contains (filter (is_other w l) c) k = subst (λ b. Contains (cond b (filter (is_other w l) c) []) k) t i in
          let f = filter-from (is_other w l) c k there in
          (c, refl, record { two = eqb-true (length c) 2 t; has = f.0; other = f.1 })
      | inr f ↦ absurd (Contains-none k (subst (λ b. Contains (cond b (filter (is_other w l) c) []) k) f i))
    ]

slot-has : (w : List ℕ) (l k : Literal) (c : List Literal) → IsOtherIn w l k c → Contains (others_in w l (Some c)) k
slot-has w l k c o = subst (λ b. Contains (cond b (filter (is_other w l) c) []) k) (sym (eq-eqb (length c) 2 o.two)) (filter-has (is_other w l) c k o.has o.other)

others-from : (w : List ℕ) (l k : Literal) (s : List (Option (List Literal))) (ids : List ℕ) → Contains (others_at w l s ids) k → (id : ℕ) × Contains ids id × ((c : List Literal) × (clause_of s id ≡ Some c) × IsOtherIn w l k c)
others-from w l k s [] i = absurd (Contains-none k i)
others-from w l k s (id ∷ ids) i =
    elim (Contains-append_cases (others_in w l (clause_of s id)) (others_at w l s ids) k i) [
      | inl a ↦ (id, Contains-first id ids, slot-from w l k (clause_of s id) a)
      | inr b ↦ let r = others-from w l k s ids b in (r.0, Contains-later id ids r.0 r.1, r.2)
    ]

others-has : (w : List ℕ) (l k : Literal) (s : List (Option (List Literal))) (ids : List ℕ) (id : ℕ) (c : List Literal) → Contains ids id → clause_of s id ≡ Some c → IsOtherIn w l k c → Contains (others_at w l s ids) k
others-has w l k s [] id c i e o = absurd (Contains-none id i)
others-has w l k s (x ∷ ids) id c i e o =
    elim (Contains-cases x ids id i) [
      | inl f ↦ Contains-append_left (others_in w l (clause_of s x)) (others_at w l s ids) k (rw (← f, e) (slot-has w l k c o))
      | inr r ↦ Contains-append_right (others_in w l (clause_of s x)) (others_at w l s ids) k (others-has w l k s ids id c r e o)
    ]

-- over the clauses of the label they are its partners
pub found-partners : (h : Held) (l : Literal) (ids : List ℕ) (found : List Literal) → ids ≡ ids_with (place_of l) h.slots → found ≡ others_at h.weights l h.slots ids → ArePartners h l found
found-partners h l ids found e f =
    let same : found ≡ others_at h.weights l h.slots (ids_with (place_of l) h.slots) = f ∙ ap (others_at h.weights l h.slots) e in
    record {
      each = λ k p.
          let w = clause-found (live_clauses h.slots) l k p.clause in
          let at = live-id h.slots w.0 w.1 in
          subst (λ (xs : List Literal). Contains xs k) (sym same)
          (others-has h.weights l k h.slots (ids_with (place_of l) h.slots) at.0 w.0 (id-in l h.slots at.0 w.0 at.1 w.2.has_a) at.1 (record { two = w.2.two; has = w.2.has_b; other = other-by h.weights l k p.label p.other }));
      only = λ k i.
          let w = others-from h.weights l k h.slots (ids_with (place_of l) h.slots) (subst (λ (xs : List Literal). Contains xs k) same i) in
          let c = w.2 in
          let o = id-of l h.slots w.0 w.1 in
          let is : o.0 ≡ c.0 = (let q : Some o.0 ≡ Some c.0 = sym o.1 ∙ c.1 in cc) in
          let parts = other-parts h.weights l k c.2.other in
          record {
            label = parts.0;
            other = parts.1;
            clause = clause-by (live_clauses h.slots) l k c.0 (live-at h.slots w.0 c.0 c.1) (record { two = c.2.two; has_a = subst (λ (x : List Literal). Contains x l) is o.2; has_b = c.2.has });
          };
    }

pub same-partners : (h : Held) (l : Literal) (ks ms : List Literal) → ArePartners h l ks → SameLiterals ks ms → ArePartners h l ms
same-partners h l ks ms p s = record { each = λ k q. (s k).0 (p.each k q); only = λ k i. p.only k ((s k).1 i) }

pub sorted-partners : (h : Held) (l : Literal) (found sorted items was left : List Literal) → ArePartners h l found → SameLiterals found sorted → items ≡ sorted → was ≡ [] → left ≡ was ++ items → ArePartners h l left
sorted-partners h l found sorted items was left p same e f g =
    let is : left ≡ sorted = g ∙ (ap (λ (xs : List Literal). xs ++ items) f ∙ e) in
    subst (ArePartners h l) (sym is) (same-partners h l found sorted p same)
