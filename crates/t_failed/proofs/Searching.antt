-- The partners of a cost literal.
use Rattle.std.proofs.Common.{◌≡◌, ◌≢◌, ◌⊎◌, ℕ, ◌+◌, ◌<◌, ◌≤◌, Bool, true, false, List, [], ◌∷◌, ◌++◌, length, get_or, take, suc, refl, sym, ◌∙◌, ap, subst, arith, inl, inr, Contains, IsTrue}
use Rattle.std.specs.Prelude.{Option, Some, MatchBool, ◌==◌, nat_lt}
use Rattle.std.specs.List.Sorted.{IsPermutation}
use Rattle.std.proofs.lemmas.Bool.{cases_Bool, and_parts, ltb-true, eqb-true, eq-eqb, false_from_ne_true, true≢false}
use Rattle.std.proofs.lemmas.List.{take_all}
use Rattle.std.proofs.lemmas.List.Elements.{All-contains, Contains-append_left, Contains-append_right, Contains-append_cases, Contains-push, Contains-push_cases}
use Rattle.std.proofs.lemmas.List.Sorted.{Contains-permutation, IsPermutation-sym}
use Rattle.std.proofs.Math.Seq.{take-suc}
use Rattle.mp_logic.specs.Literal.{Literal, negation}
use Rattle.mp_logic.specs.Normal.{rises}
use Rattle.mp_logic.specs.Truth.{literal_value}
use Rattle.mp_logic.proofs.Literals.{cases_contains, negation_true}
use Rattle.mp_logic.proofs.Members.{Contains-none, Contains-one, Contains-first, Contains-later, Contains-cases}
use Rattle.mp_clauses.specs.Places.{place_of, has}
use Rattle.mp_clauses.specs.Slots.{clause_of, live_clauses}
use Rattle.mp_clauses.specs.Weighing.{weight_in}
use Rattle.mp_clauses.specs.Occurrences.{AreExactOccurrences}
use Rattle.mp_clauses.proofs.Steps.{get_or-any}
use Rattle.mp_clauses.proofs.Pricing.{same-place}
use Rattle.mp_clauses.proofs.Found.{has-by, has-contains}
use Rattle.mp_store.specs.Held.{Held}
use Rattle.mp_store.specs.Soundness.{IsStore}
use Rattle.mp_store.specs.Measures.{is_covered, occurs}
use Rattle.mp_store.proofs.KeptFixing.{live-at, live-id}
use Rattle.mp_store.proofs.Runs.{none-empty}
use Rattle.t_failed.specs.Propagating.{IsMentioned, IsProbed, IsFailed}
use Rattle.t_failed.specs.Partners.{IsPartner, IsBeside, ArePartnersOf, AreLabels, AreFound}
use Rattle.t_failed.proofs.LabelLists.{label-has}
use Rattle.t_failed.proofs.PairClauses.{covered-by, covered-found}

-- one more of a list was looked at
pub take-more : {X : Type 0} (xs : List X) (i : ℕ) (x y : X) → i < length xs → x ≡ get_or xs i x → Contains (take (i + 1) xs) y → Contains (take i xs) y ⊎ (y ≡ x)
take-more xs i x y h e m =
    let split : take (i + 1) xs ≡ take i xs ++ x ∷ [] = (let s : i + 1 ≡ suc i = omega arith in ap (λ n. take n xs) s) ∙ (take-suc xs i x h ∙ ap (λ z. take i xs ++ z ∷ []) (sym e)) in
    elim (Contains-push_cases (take i xs) x y (subst (λ ys. Contains ys y) split m)) [ inl a ↦ inl a | inr s ↦ inr (sym s) ]

pub take-own : {X : Type 0} (xs : List X) (i : ℕ) (x : X) → i < length xs → x ≡ get_or xs i x → Contains (take (i + 1) xs) x
take-own xs i x h e =
    let split : take (i + 1) xs ≡ take i xs ++ x ∷ [] = (let s : i + 1 ≡ suc i = omega arith in ap (λ n. take n xs) s) ∙ (take-suc xs i x h ∙ ap (λ z. take i xs ++ z ∷ []) (sym e)) in
    subst (λ ys. Contains ys x) (sym split) (Contains-push (take i xs) x)

pub take-less : {X : Type 0} (xs : List X) (i : ℕ) (x y : X) → i < length xs → x ≡ get_or xs i x → Contains (take i xs) y → Contains (take (i + 1) xs) y
take-less xs i x y h e m =
    let split : take (i + 1) xs ≡ take i xs ++ x ∷ [] = (let s : i + 1 ≡ suc i = omega arith in ap (λ n. take n xs) s) ∙ (take-suc xs i x h ∙ ap (λ z. take i xs ++ z ∷ []) (sym e)) in
    subst (λ ys. Contains ys y) (sym split) (Contains-append_left (take i xs) (x ∷ []) y m)

-- clauses with a literal, by their ids
pub record AtId (slots : List (Option (List Literal))) (l : Literal) (id : ℕ) : Type 0 where
  pub clause : List Literal
  pub is : clause_of slots id ≡ Some clause
  pub has : Contains clause l
  pub live : Contains (live_clauses slots) clause

pub at-id : (slots : List (Option (List Literal))) (l : Literal) (ids : List ℕ) (id : ℕ) → AreExactOccurrences l slots ids → Contains ids id → AtId slots l id
at-id slots l ids id e m = let w = (e.each id).0 m in record { clause = w.0; is = w.1; has = w.2; live = live-at slots id w.0 w.1 }

pub id-of : (slots : List (Option (List Literal))) (l : Literal) (ids : List ℕ) (c : List Literal) → AreExactOccurrences l slots ids → Contains (live_clauses slots) c → Contains c l → (id : ℕ) × Contains ids id × (clause_of slots id ≡ Some c)
id-of slots l ids c e m i = let w = live-id slots c m in (w.0, (e.each w.0).1 (c, w.1, i), w.1)

pub some-same : (c d : List Literal) → Some c ≡ Some d → c ≡ d
some-same c d e = cc

pub read-clause : (slots : List (Option (List Literal))) (l : Literal) (id : ℕ) (c : List Literal) → (w : AtId slots l id) → Some c ≡ clause_of slots id → c ≡ w.clause
read-clause slots l id c w e = some-same c w.clause (e ∙ w.is)

-- the short clauses beside a literal, so far
pub record AreBesides (slots : List (Option (List Literal))) (l : Literal) (ids : List ℕ) (lits : List Literal) : Type 0 where
  pub some : (k : Literal) → Contains lits k → (c : List Literal) × Contains (live_clauses slots) c × Contains c l × (length c ≤ 2) × Contains c k
  pub all : (id : ℕ) (c : List Literal) (k : Literal) → Contains ids id → clause_of slots id ≡ Some c → length c ≤ 2 → Contains c k → Contains lits k

pub besides-none : (slots : List (Option (List Literal))) (l : Literal) (lits : List Literal) → lits ≡ [] → AreBesides slots l [] lits
besides-none slots l lits e = record { some = λ k i. absurd (Contains-none k (subst (λ xs. Contains xs k) e i)); all = λ id c k i. absurd (Contains-none id i) }

pub besides-short : (slots : List (Option (List Literal))) (l : Literal) (ids : List ℕ) (i id : ℕ) (lits new c : List Literal) → AreExactOccurrences l slots ids → i < length ids → id ≡ get_or ids i 0 → Some c ≡ clause_of slots id → length c ≤ 2 → new ≡ lits ++ c → AreBesides slots l (take i ids) lits → AreBesides slots l (take (i + 1) ids) new
besides-short slots l ids i id lits new c x h e r short is b =
    let w = at-id slots l ids id x (i, h, sym (e ∙ get_or-any ids i 0 id h)) in
    let own = read-clause slots l id c w r in
    record {
      some = λ k m. elim (Contains-append_cases lits c k (subst (λ xs. Contains xs k) is m)) [
        | inl a ↦ b.some k a
        | inr a ↦ (c, subst (Contains (live_clauses slots)) (sym own) w.live, subst (λ xs. Contains xs l) (sym own) w.has, short, a)
      ];
      all = λ j d k m f s a. subst (λ xs. Contains xs k) (sym is) (elim (take-more ids i id j h (e ∙ get_or-any ids i 0 id h) m) [
        | inl old ↦ Contains-append_left lits c k (b.all j d k old f s a)
        | inr same ↦
            let d_is : d ≡ c = some-same d c (sym f ∙ (ap (clause_of slots) same ∙ sym r)) in
            Contains-append_right lits c k (subst (λ xs. Contains xs k) d_is a)
      ]);
    }

pub besides-long : (slots : List (Option (List Literal))) (l : Literal) (ids : List ℕ) (i id : ℕ) (lits c : List Literal) → i < length ids → id ≡ get_or ids i 0 → Some c ≡ clause_of slots id → 2 < length c → AreBesides slots l (take i ids) lits → AreBesides slots l (take (i + 1) ids) lits
besides-long slots l ids i id lits c h e r long b = record {
  some = b.some;
  all = λ j d k m f s a. elim (take-more ids i id j h (e ∙ get_or-any ids i 0 id h) m) [
    | inl old ↦ b.all j d k old f s a
    | inr same ↦
        let d_is : d ≡ c = some-same d c (sym f ∙ (ap (clause_of slots) same ∙ sym r)) in
        absurd (let z : length d ≡ length c = ap (λ (xs : List Literal). length xs) d_is in omega (arith, z, s, long))
  ];
}

pub besides-done : (slots : List (Option (List Literal))) (l : Literal) (ids : List ℕ) (i : ℕ) (lits set : List Literal) → AreExactOccurrences l slots ids → length ids ≤ i → set ≡ lits → AreBesides slots l (take i ids) lits → (k : Literal) → IsBeside slots l set k
besides-done slots l ids i lits set x h e b k =
    let whole : take i ids ≡ ids = take_all i ids h in
    record {
      some = λ m. b.some k (subst (λ xs. Contains xs k) e m);
      all = λ c m o short j. let w = id-of slots l ids c x m o in subst (λ xs. Contains xs k) (sym e) (b.all w.0 c k (subst (λ ys. Contains ys w.0) (sym whole) w.1) w.2 short j);
    }

-- clauses that cover a pair
above : (n : ℕ) (c : List Literal) (k : Literal) → rises n c ≡ true → Contains c k → n < k.variable
above n [] k h i = absurd (Contains-none k i)
above n (l ∷ c) k h i =
    let parts = and_parts (nat_lt n l.variable) (rises l.variable c) h in
    let low = ltb-true n l.variable parts.0 in
    elim (Contains-cases l c k i) [
      | inl e ↦ subst (λ (x : Literal). n < x.variable) (sym e) low
      | inr j ↦ let high = above l.variable c k parts.1 j in omega (arith, low, high)
    ]

-- a normal clause of one literal
alone-is : (n : ℕ) (c : List Literal) (l : Literal) → rises n c ≡ true → ((k : Literal) → Contains c k → k ≡ l) → (c ≡ []) ⊎ (c ≡ l ∷ [])
alone-is n [] l h all = inl refl
alone-is n (k ∷ []) l h all = inr (ap (λ x. x ∷ []) (all k (Contains-first k [])))
alone-is n (k ∷ (j ∷ c)) l h all =
    let parts = and_parts (nat_lt n k.variable) (rises k.variable (j ∷ c)) h in
    let high = above k.variable (j ∷ c) j parts.1 (Contains-first j c) in
    let e : k ≡ l = all k (Contains-first k (j ∷ c)) in
    let f : j ≡ l = all j (Contains-later k (j ∷ c) j (Contains-first j c)) in
    absurd (omega (arith, high, ap (λ (x : Literal). x.variable) e, ap (λ (x : Literal). x.variable) f))

-- a normal clause of two literals is short
differ : (a b : Literal) → a.variable < b.variable → a ≢ b
differ a b h e = omega (arith, h, ap (λ (x : Literal). x.variable) e)

two-short : (n : ℕ) (c : List Literal) (a b : Literal) → rises n c ≡ true → ((k : Literal) → Contains c k → (k ≡ a) ⊎ (k ≡ b)) → length c ≤ 2
two-short n [] a b h all = omega arith
two-short n (x ∷ []) a b h all = omega arith
two-short n (x ∷ (y ∷ [])) a b h all = omega arith
two-short n (x ∷ (y ∷ (z ∷ c))) a b h all =
    let first = and_parts (nat_lt n x.variable) (rises x.variable (y ∷ (z ∷ c))) h in
    let second = and_parts (nat_lt x.variable y.variable) (rises y.variable (z ∷ c)) first.1 in
    let low = above x.variable (y ∷ (z ∷ c)) y first.1 (Contains-first y (z ∷ c)) in
    let high = above y.variable (z ∷ c) z second.1 (Contains-first z c) in
    let xy = differ x y low in
    let yz = differ y z high in
    let xz = differ x z (omega (arith, low, high)) in
    let ox = all x (Contains-first x (y ∷ (z ∷ c))) in
    let oy = all y (Contains-later x (y ∷ (z ∷ c)) y (Contains-first y (z ∷ c))) in
    let oz = all z (Contains-later x (y ∷ (z ∷ c)) z (Contains-later y (z ∷ c) z (Contains-first z c))) in
    absurd (elim ox [
      | inl p ↦ elim oy [
        | inl q ↦ xy (p ∙ sym q)
        | inr q ↦ elim oz [ inl r ↦ xz (p ∙ sym r) | inr r ↦ yz (q ∙ sym r) ]
      ]
      | inr p ↦ elim oy [
        | inr q ↦ xy (p ∙ sym q)
        | inl q ↦ elim oz [ inr r ↦ xz (p ∙ sym r) | inl r ↦ yz (q ∙ sym r) ]
      ]
    ])

-- a short clause with two literals has no other
two-only : (c : List Literal) (a b k : Literal) → length c ≤ 2 → Contains c a → Contains c b → b ≢ a → Contains c k → (k ≡ a) ⊎ (k ≡ b)
two-only [] a b k h i j n m = absurd (Contains-none k m)
two-only (x ∷ []) a b k h i j n m = inl (Contains-one x k m ∙ sym (Contains-one x a i))
two-only (x ∷ (y ∷ [])) a b k h i j n m =
    let which : (l : Literal) → Contains (x ∷ (y ∷ [])) l → (l ≡ x) ⊎ (l ≡ y) = λ l o. elim (Contains-cases x (y ∷ []) l o) [ inl e ↦ inl e | inr r ↦ inr (Contains-one y l r) ] in
    elim (which a i) [
      | inl p ↦ elim (which b j) [
        | inl q ↦ absurd (n (q ∙ sym p))
        | inr q ↦ elim (which k m) [ inl r ↦ inl (r ∙ sym p) | inr r ↦ inr (r ∙ sym q) ]
      ]
      | inr p ↦ elim (which b j) [
        | inr q ↦ absurd (n (q ∙ sym p))
        | inl q ↦ elim (which k m) [ inl r ↦ inr (r ∙ sym q) | inr r ↦ inl (r ∙ sym p) ]
      ]
    ]
two-only (x ∷ (y ∷ (z ∷ c))) a b k h i j n m = absurd (omega arith)

live-rises : (h : Held) (c : List Literal) → IsStore h → Contains (live_clauses h.slots) c → rises 0 c ≡ true
live-rises h c s m = All-contains (λ c. IsTrue (rises 0 c)) (live_clauses h.slots) c s.labelled.hard_normal m

-- what makes a partner
pub partner-open : (h : Held) (b l : Literal) (beside : List Literal) → IsStore h → h.refuted ≡ false → IsBeside h.slots b beside l → (Contains (live_clauses h.slots) (b ∷ []) → ⊥) → (Contains (live_clauses h.slots) (l ∷ []) → ⊥) → (Contains beside l → ⊥) → is_covered (live_clauses h.slots) b l ≡ false
partner-open h b l beside s u near alone single lacks =
    false_from_ne_true (is_covered (live_clauses h.slots) b l) (λ t.
    let w = covered-found (live_clauses h.slots) b l t in
    let rise = live-rises h w.0 s w.1 in
    let empty : w.0 ≡ [] → ⊥ = λ e. none-empty h s u (subst (Contains (live_clauses h.slots)) e w.1) in
    elim (cases_contains b w.0) [
      | inr lack ↦ elim (alone-is 0 w.0 l rise (λ k i. elim (w.2 k i) [ inl e ↦ absurd (lack (subst (Contains w.0) e i)) | inr e ↦ e ])) [
        | inl e ↦ empty e
        | inr e ↦ single (subst (Contains (live_clauses h.slots)) e w.1)
      ]
      | inl i ↦ elim (cases_contains l w.0) [
        | inl j ↦ lacks (near.all w.0 w.1 i (two-short 0 w.0 b l rise w.2) j)
        | inr lack ↦ elim (alone-is 0 w.0 b rise (λ k m. elim (w.2 k m) [ inl e ↦ e | inr e ↦ absurd (lack (subst (Contains w.0) e m)) ])) [
          | inl e ↦ empty e
          | inr e ↦ alone (subst (Contains (live_clauses h.slots)) e w.1)
        ]
      ]
    ])

pub partner-beside : (h : Held) (b l : Literal) (beside : List Literal) → IsBeside h.slots b beside l → Contains beside l → IsPartner h b l → ⊥
partner-beside h b l beside near i p =
    let w = near.some i in
    true≢false (sym (covered-by (live_clauses h.slots) b l w.0 w.1 (λ k m. two-only w.0 b l k w.3 w.2 w.4 p.other m)) ∙ p.open_pair)

pub partner-single : (h : Held) (b l : Literal) → Contains (live_clauses h.slots) (l ∷ []) → IsPartner h b l → ⊥
partner-single h b l i p = true≢false (sym (covered-by (live_clauses h.slots) b l (l ∷ []) i (λ k m. inr (Contains-one l k m))) ∙ p.open_pair)

pub partner-alone : (h : Held) (b l : Literal) → Contains (live_clauses h.slots) (b ∷ []) → IsPartner h b l → ⊥
partner-alone h b l i p = true≢false (sym (covered-by (live_clauses h.slots) b l (b ∷ []) i (λ k m. inl (Contains-one b k m))) ∙ p.open_pair)

-- partners so far
pub partners-none : (h : Held) (b : Literal) (partners : List Literal) → partners ≡ [] → ArePartnersOf h b [] partners
partners-none h b partners e = record { each = λ l i. absurd (Contains-none l (subst (λ xs. Contains xs l) e i)); all = λ l p i. absurd (Contains-none l i) }

pub partners-more : (h : Held) (b : Literal) (lits : List Literal) (i : ℕ) (x : Literal) (old new : List Literal) → i < length lits → x ≡ get_or lits i x → IsPartner h b x → new ≡ old ++ x ∷ [] → ArePartnersOf h b (take i lits) old → ArePartnersOf h b (take (i + 1) lits) new
partners-more h b lits i x old new inside e p is a = record {
  each = λ l m. elim (Contains-push_cases old x l (subst (λ xs. Contains xs l) is m)) [
    | inl o ↦ let w = a.each l o in (w.0, take-less lits i x l inside e w.1)
    | inr s ↦ (subst (IsPartner h b) s p, subst (Contains (take (i + 1) lits)) s (take-own lits i x inside e))
  ];
  all = λ l q m. subst (λ xs. Contains xs l) (sym is) (elim (take-more lits i x l inside e m) [
    | inl o ↦ Contains-append_left old (x ∷ []) l (a.all l q o)
    | inr s ↦ subst (Contains (old ++ x ∷ [])) (sym s) (Contains-push old x)
  ]);
}

pub partners-same : (h : Held) (b : Literal) (lits : List Literal) (i : ℕ) (x : Literal) (old : List Literal) → i < length lits → x ≡ get_or lits i x → (IsPartner h b x → ⊥) → ArePartnersOf h b (take i lits) old → ArePartnersOf h b (take (i + 1) lits) old
partners-same h b lits i x old inside e n a = record {
  each = λ l m. let w = a.each l m in (w.0, take-less lits i x l inside e w.1);
  all = λ l q m. elim (take-more lits i x l inside e m) [ inl o ↦ a.all l q o | inr s ↦ absurd (n (subst (IsPartner h b) s q)) ];
}

pub partners-sorted : (h : Held) (b : Literal) (lits : List Literal) (i : ℕ) (old new : List Literal) → length lits ≤ i → IsPermutation old new → ArePartnersOf h b (take i lits) old → ArePartnersOf h b lits new
partners-sorted h b lits i old new less p a =
    let whole : take i lits ≡ lits = take_all i lits less in
    record {
      each = λ l m. let w = a.each l (Contains-permutation new old l (IsPermutation-sym old new p) m) in (w.0, subst (λ xs. Contains xs l) whole w.1);
      all = λ l q m. Contains-permutation old new l p (a.all l q (subst (λ xs. Contains xs l) (sym whole) m));
    }

-- what a probe finds
pub derived-found : (h : Held) (b : Literal) (old p lits partners : List Literal) → IsMentioned (live_clauses h.slots) old → IsProbed h old (negation b) p → lits ≡ p → ArePartnersOf h b lits partners → AreFound h b partners
derived-found h b old p lits partners named r same a =
    let inside : (l : Literal) → Contains partners l → Contains p l = λ l i. subst (λ xs. Contains xs l) same (a.each l i).1 in
    record {
      each = λ l i. (a.each l i).0;
      implied = λ l i x m. elim (cases_Bool (literal_value x b)) [
        | inl t ↦ inl t
        | inr f ↦
            let v = negation_true x b f in
            inr (elim (r.occur named l (inside l i)) [
              | inl e ↦ ap (literal_value x) e ∙ v
              | inr o ↦ r.forced x m v l (inside l i) o
            ])
      ];
      all = inl (p, record { propagated = r.propagated; own = r.own; derived = inside; all = λ l q i. a.all l q (subst (λ xs. Contains xs l) (sym same) i) });
    }

pub failed-found : (h : Held) (b : Literal) (labels partners : List Literal) → AreLabels h labels → IsFailed (live_clauses h.slots) (negation b) → ArePartnersOf h b labels partners → AreFound h b partners
failed-found h b labels partners listed f a = record {
  each = λ l i. (a.each l i).0;
  implied = λ l i x m. inl (elim (cases_Bool (literal_value x b)) [ inl t ↦ t | inr g ↦ absurd (f x m (negation_true x b g)) ]);
  all = inr (λ l q. a.all l q (label-has h labels l listed q.weighs));
}

pub alone-found : (h : Held) (b : Literal) (partners : List Literal) → Contains (live_clauses h.slots) (b ∷ []) → partners ≡ [] → AreFound h b partners
alone-found h b partners i e =
    let none : (l : Literal) → Contains partners l → ⊥ = λ l m. Contains-none l (subst (λ xs. Contains xs l) e m) in
    record {
      each = λ l m. absurd (none l m);
      implied = λ l m. absurd (none l m);
      all = inr (λ l q. absurd (partner-alone h b l i q));
    }

-- the literal whose negation is probed occurs if it was made true
pub negated-named : (cs : List (List Literal)) (p : List Literal) (n : Literal) → IsMentioned cs p → Contains p (negation n) → occurs n.variable cs ≡ true
negated-named cs p n named i = named (negation n) i

pub set-has : (set : List Literal) (l : Literal) (b : Bool) → b ≡ has (place_of l) set → b ≡ true → Contains set l
set-has set l b e t = has-contains set l (sym e ∙ t)

pub set-lacks : (set : List Literal) (l : Literal) (b : Bool) → b ≡ has (place_of l) set → b ≡ false → Contains set l → ⊥
set-lacks set l b e f i = true≢false (sym (has-by set l i) ∙ (sym e ∙ f))

pub partner-weightless : (h : Held) (b l : Literal) (w : ℕ) → w ≡ weight_in h.weights l → w ≡ 0 → IsPartner h b l → ⊥
partner-weightless h b l w e z p = p.weighs (sym e ∙ z)

pub partner-itself : (h : Held) (b l : Literal) (t : Bool) → t ≡ (place_of l == place_of b) → t ≡ true → IsPartner h b l → ⊥
partner-itself h b l t e s p = p.other (same-place l b (eqb-true (place_of l) (place_of b) (sym e ∙ s)))

pub partner-made : (h : Held) (b l : Literal) (beside : List Literal) (w : ℕ) (t : Bool) → IsStore h → h.refuted ≡ false → IsBeside h.slots b beside l → (Contains (live_clauses h.slots) (b ∷ []) → ⊥) → (Contains (live_clauses h.slots) (l ∷ []) → ⊥) → (Contains beside l → ⊥)
    → w ≡ weight_in h.weights l → w ≢ 0 → t ≡ (place_of l == place_of b) → t ≡ false → IsPartner h b l
partner-made h b l beside w t s u near alone single lacks e n f d = record {
  weighs = λ z. n (e ∙ z);
  other = λ same. true≢false (sym (eq-eqb (place_of l) (place_of b) (ap place_of same)) ∙ (sym f ∙ d));
  open_pair = partner-open h b l beside s u near alone single lacks;
}

-- the same, of the literal that was probed
pub derived-by : (h : Held) (b n : Literal) (old p lits partners : List Literal) (t : Bool) → n ≡ negation b → t ≡ true → MatchBool t (IsProbed h old n p) (IsFailed (live_clauses h.slots) n) → IsMentioned (live_clauses h.slots) old → lits ≡ p → ArePartnersOf h b lits partners → AreFound h b partners
derived-by h b n old p lits partners t e holds m named same a =
    let r : IsProbed h old n p = subst (λ x. MatchBool x (IsProbed h old n p) (IsFailed (live_clauses h.slots) n)) holds m in
    derived-found h b old p lits partners named (subst (λ x. IsProbed h old x p) e r) same a

pub failed-by : (h : Held) (b n : Literal) (old p labels partners : List Literal) (t : Bool) → n ≡ negation b → t ≡ false → MatchBool t (IsProbed h old n p) (IsFailed (live_clauses h.slots) n) → AreLabels h labels → ArePartnersOf h b labels partners → AreFound h b partners
failed-by h b n old p labels partners t e failing m listed a =
    let f : IsFailed (live_clauses h.slots) n = subst (λ x. MatchBool x (IsProbed h old n p) (IsFailed (live_clauses h.slots) n)) failing m in
    failed-found h b labels partners listed (subst (IsFailed (live_clauses h.slots)) e f) a
