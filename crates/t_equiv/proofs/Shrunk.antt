-- The rewrite of a turn makes the state smaller.
use Rattle.std.proofs.Common.{◌≡◌, ◌≢◌, ◌⊎◌, ℕ, ◌+◌, ◌<◌, ◌≤◌, Bool, true, false, not, cond, List, [], ◌∷◌, ◌++◌, length, get_or, suc, All, Contains, refl, ap, sym, ◌∙◌, subst, arith, inl, inr, sum, sum_by, add-zero}
use Rattle.std.specs.Prelude.{◌==◌, ◌||◌}
use Rattle.std.specs.List.{list_all}
use Rattle.std.proofs.lemmas.Bool.{cases_Bool, cases_eq, true≢false, false≢true, eqb-true, eq-eqb, ne_eqb}
use Rattle.std.proofs.lemmas.List.Elements.{All-contains, Contains-append_cases, Contains-append_left, Contains-append_right}
use Rattle.std.proofs.lemmas.List.Sums.{sum_by-cons}
use Rattle.mp_logic.specs.Literal.{Literal, negation, IsUpTo}
use Rattle.mp_logic.specs.Labelled.{AreApart}
use Rattle.mp_logic.specs.declared.instances.Cost.{Cost}
use Rattle.mp_logic.proofs.Members.{Contains-first, Contains-later, Contains-none, Contains-cases}
use Rattle.mp_clauses.specs.Places.{place_of, literal_at}
use Rattle.mp_clauses.specs.Slots.{clause_of, live_clauses}
use Rattle.mp_clauses.specs.Weighing.{costs_of}
use Rattle.mp_clauses.proofs.Found.{both-ways, is_in-contains, any-by, any-found}
use Rattle.mp_clauses.proofs.Pricing.{cost_at, has_cost, literal-place, sum-costs}
use Rattle.mp_store.specs.declared.rewrite.Rewrite.{Rewrite}
use Rattle.mp_store.specs.Held.{Held, labelled_of}
use Rattle.mp_store.specs.Rewriting.{weights_after, changed_by}
use Rattle.mp_store.specs.Soundness.{IsStore}
use Rattle.mp_store.specs.Measures.{occurs, occurring, is_covered, uncovered, IsLower, IsSmaller}
use Rattle.mp_store.specs.Replacing.{clauses_after}
use Rattle.mp_store.proofs.KeptFixing.{live-id}
use Rattle.mp_store.proofs.Measured.{occurs-by, occurs-found, occurring-lower, covered-only, only-covered, lower-or-same}
use Rattle.mp_store.proofs.Replaced.{replaced_count, sum-ones}
use Rattle.t_equiv.specs.Substituting.{AreSubstituted, positive}
use Rattle.t_equiv.specs.Images.{image_in, AreReplaced}
use Rattle.t_equiv.specs.Pooling.{worth, image_place}
use Rattle.t_equiv.specs.Substitutions.{moves, slot_moves, AreSound, IsImageRewrite}
use Rattle.t_equiv.proofs.Classes.{Classes, Closes, closes, closes-image, opposite-known}
use Rattle.t_equiv.proofs.Kept.{not-moved, moved-at, rewrite-substitutes, NewWeights, new-weights, rewrite-valid}

-- two literals cover in either order
cover-turned : (cs : List (List Literal)) (a b : Literal) → is_covered cs a b ≡ true → is_covered cs b a ≡ true
cover-turned cs a b t =
    let w = any-found (λ (c : List Literal). list_all (λ k. (place_of k == place_of a) || (place_of k == place_of b)) c) cs t in
    any-by (λ (c : List Literal). list_all (λ k. (place_of k == place_of b) || (place_of k == place_of a)) c) cs w.0 w.1 (only-covered b a w.0 (λ k i. elim (covered-only a b w.0 w.2 k i) [ inl e ↦ inr e | inr e ↦ inl e ]))

cover-either : (cs : List (List Literal)) (a b : Literal) → is_covered cs a b ≡ is_covered cs b a
cover-either cs a b = both-ways (is_covered cs a b) (is_covered cs b a) (cover-turned cs a b) (cover-turned cs b a)

-- one cost put first
pub record Split (y : Cost) (ys : List Cost) : Type 0 where
  pub left : List Cost
  pub right : List Cost
  pub is : ys ≡ left ++ y ∷ right

split-at : (y : Cost) (ys : List Cost) → Contains ys y → Split y ys
split-at y [] i = absurd (Contains-none y i)
split-at y (z ∷ ys) i = elim (Contains-cases z ys y i) [
  | inl e ↦ record { left = []; right = ys; is = ap (λ x. x ∷ ys) (sym e) }
  | inr j ↦ let s = split-at y ys j in record { left = z ∷ s.left; right = s.right; is = ap (λ xs. z ∷ xs) s.is }
]

sum-front : (g : Cost → ℕ) (y : Cost) (l r : List Cost) → sum_by g (l ++ y ∷ r) ≡ g y + sum_by g (l ++ r)
sum-front g y [] r = sum_by-cons g y r
sum-front g y (z ∷ l) r = let rest = sum-front g y l r in omega (arith, rest, sum_by-cons g z (l ++ y ∷ r), sum_by-cons g z (l ++ r))

others-kept : (y z : Cost) (l r : List Cost) → Contains (l ++ y ∷ r) z → z ≢ y → Contains (l ++ r) z
others-kept y z l r i n = elim (Contains-append_cases l (y ∷ r) z i) [
  | inl j ↦ Contains-append_left l r z j
  | inr j ↦ elim (Contains-cases y r z j) [ inl e ↦ absurd (n e) | inr k ↦ Contains-append_right l r z k ]
]

-- each cost of the one list comes from one of the other, and different ones from different ones
abbrev ComeFrom : (Literal → Literal) → List Cost → List Cost → Type 0
ComeFrom image xs ys = (x : Cost) → Contains xs x → (y : Cost) × Contains ys y × (x.lit ≡ image y.lit)

rest-from : (image : Literal → Literal) (x : Cost) (xs : List Cost) (y : Cost) (l r : List Cost) → AreApart (x ∷ xs) → x.lit ≡ image y.lit → ComeFrom image (x ∷ xs) (l ++ y ∷ r) → ComeFrom image xs (l ++ r)
rest-from image x xs y l r a e h z i =
    let w = h z (Contains-later x xs z i) in
    let other : w.0 ≢ y = λ s. All-contains (λ (q : Cost). q.lit.variable ≢ x.lit.variable) xs z a.0 i (ap (λ (k : Literal). k.variable) (w.2 ∙ ap (λ (c : Cost). image c.lit) s ∙ sym e)) in
    (w.0, others-kept y w.0 l r w.1 other, w.2)

sum-from : (image : Literal → Literal) (f g : Cost → ℕ) (xs ys : List Cost) → AreApart xs → ComeFrom image xs ys → ((x y : Cost) → Contains xs x → x.lit ≡ image y.lit → f x ≤ g y) → sum_by f xs ≤ sum_by g ys
sum-from image f g [] ys a h le = omega arith
sum-from image f g (x ∷ xs) ys a h le =
    let w = h x (Contains-first x xs) in
    let s = split-at w.0 ys w.1 in
    let h' : ComeFrom image (x ∷ xs) (s.left ++ w.0 ∷ s.right) = subst (ComeFrom image (x ∷ xs)) s.is h in
    let rest = sum-from image f g xs (s.left ++ s.right) a.1 (rest-from image x xs w.0 s.left s.right a w.2 h') (λ z y i e. le z y (Contains-later x xs z i) e) in
    let own = le x w.0 (Contains-first x xs) w.2 in
    let whole : sum_by g ys ≡ g w.0 + sum_by g (s.left ++ s.right) = ap (sum_by g) s.is ∙ sum-front g w.0 s.left s.right in
    omega (arith, rest, own, whole, sum_by-cons f x xs)

abbrev bit : List (List Literal) → Cost → Cost → ℕ
bit cs p q = cond (not (is_covered cs p.lit q.lit)) 1 0

uncovered-cons : (cs : List (List Literal)) (p : Cost) (ps : List Cost) → uncovered cs (p ∷ ps) ≡ sum_by (bit cs p) ps + uncovered cs ps
uncovered-cons cs p ps = refl

uncovered-front : (cs : List (List Literal)) (y : Cost) (l r : List Cost) → uncovered cs (l ++ y ∷ r) ≡ sum_by (bit cs y) (l ++ r) + uncovered cs (l ++ r)
uncovered-front cs y [] r = refl
uncovered-front cs y (z ∷ l) r =
    let rest = uncovered-front cs y l r in
    let one = sum-front (bit cs z) y l r in
    let two = sum_by-cons (bit cs y) z (l ++ r) in
    let same : bit cs z y ≡ bit cs y z = ap (λ b. cond (not b) 1 0) (cover-either cs z.lit y.lit) in
    omega (arith, rest, one, two, same)

bit-le : (s t : Bool) → (s ≡ true → t ≡ true) → cond (not t) 1 0 ≤ cond (not s) 1 0
bit-le true t h = let e = h refl in rw e (omega arith)
bit-le false true h = omega arith
bit-le false false h = omega arith

uncovered-from : (image : Literal → Literal) (cs ds : List (List Literal)) (xs ys : List Cost) → AreApart xs → ComeFrom image xs ys
    → ((a b : Cost) (p q : Cost) → a.lit.variable ≢ b.lit.variable → a.lit ≡ image p.lit → b.lit ≡ image q.lit → is_covered cs p.lit q.lit ≡ true → is_covered ds a.lit b.lit ≡ true)
    → uncovered ds xs ≤ uncovered cs ys
uncovered-from image cs ds [] ys a h cov = omega arith
uncovered-from image cs ds (x ∷ xs) ys a h cov =
    let w = h x (Contains-first x xs) in
    let s = split-at w.0 ys w.1 in
    let h' : ComeFrom image (x ∷ xs) (s.left ++ w.0 ∷ s.right) = subst (ComeFrom image (x ∷ xs)) s.is h in
    let next = rest-from image x xs w.0 s.left s.right a w.2 h' in
    let rest = uncovered-from image cs ds xs (s.left ++ s.right) a.1 next cov in
    let own = sum-from image (bit ds x) (bit cs w.0) xs (s.left ++ s.right) a.1 next (λ z y i e.
    bit-le (is_covered cs w.0.lit y.lit) (is_covered ds x.lit z.lit) (cov x z w.0 y (λ v. All-contains (λ (q : Cost). q.lit.variable ≢ x.lit.variable) xs z a.0 i (sym v)) w.2 e)) in
    let whole : uncovered cs ys ≡ sum_by (bit cs w.0) (s.left ++ s.right) + uncovered cs (s.left ++ s.right) = ap (uncovered cs) s.is ∙ uncovered-front cs w.0 s.left s.right in
    omega (arith, rest, own, whole, uncovered-cons ds x xs)

-- a clause that covers a pair has an image that covers the pair's image
sign-flips : (l : Literal) → l ≡ negation l → ⊥
sign-flips l e =
    let f : l.negative ≡ not l.negative = ap (λ (k : Literal). k.negative) e in
    elim (cases_Bool l.negative) [ inl t ↦ true≢false (sym t ∙ f ∙ ap not t) | inr n ↦ false≢true (sym n ∙ f ∙ ap not n) ]

covers-on : (image : Literal → Literal) (cs ds : List (List Literal)) (a b p q : Literal) → AreSubstituted image cs ds → a.variable ≢ b.variable → a ≡ image p → b ≡ image q → is_covered cs p q ≡ true → is_covered ds a b ≡ true
covers-on image cs ds a b p q sub apart ea eb t =
    let w = any-found (λ (c : List Literal). list_all (λ k. (place_of k == place_of p) || (place_of k == place_of q)) c) cs t in
    let only : (k : Literal) → Contains w.0 k → (image k ≡ a) ⊎ (image k ≡ b) = λ k i. elim (covered-only p q w.0 w.2 k i) [ inl e ↦ inl (ap image e ∙ sym ea) | inr e ↦ inr (ap image e ∙ sym eb) ] in
    elim (sub.made w.0 w.1) [
      | inl o ↦
          let same : image o.1 ≡ negation (image o.0) = o.4 in
          let vars : (image o.1).variable ≡ (image o.0).variable = ap (λ (k : Literal). k.variable) same in
          absurd (elim (only o.0 o.2) [
            | inl e ↦ elim (only o.1 o.3) [
              | inl f ↦ sign-flips a (sym f ∙ same ∙ ap negation e)
              | inr f ↦ apart (ap (λ (k : Literal). k.variable) (sym e) ∙ sym vars ∙ ap (λ (k : Literal). k.variable) f)
            ]
            | inr e ↦ elim (only o.1 o.3) [
              | inl f ↦ apart (ap (λ (k : Literal). k.variable) (sym f) ∙ vars ∙ ap (λ (k : Literal). k.variable) e)
              | inr f ↦ sign-flips b (sym f ∙ same ∙ ap negation e)
            ]
          ])
      | inr d ↦ any-by (λ (c : List Literal). list_all (λ k. (place_of k == place_of a) || (place_of k == place_of b)) c) ds d.0 d.1 (only-covered a b d.0 (λ m i. let k = d.2.back m i in elim (only k.0 k.1) [ inl e ↦ inl (k.2 ∙ e) | inr e ↦ inr (k.2 ∙ e) ]))
    ]

-- where a new cost comes from
worth-found : (b : ℕ → Bool) (i : ℕ) (ws : List ℕ) → worth b i ws ≢ 0 → (k : ℕ) × (b (i + k) ≡ true) × (get_or ws k 0 ≢ 0)
worth-found b i [] n = absurd (n refl)
worth-found b i (w ∷ ws) n =
    let later : worth b (i + 1) ws ≢ 0 → (k : ℕ) × (b (i + k) ≡ true) × (get_or (w ∷ ws) k 0 ≢ 0) = λ m. let r = worth-found b (i + 1) ws m in let e : i + 1 + r.0 ≡ i + suc r.0 = omega arith in (suc r.0, ap b (sym e) ∙ r.1, r.2) in
    let step : (t : Bool) → b i ≡ t → (k : ℕ) × (b (i + k) ≡ true) × (get_or (w ∷ ws) k 0 ≢ 0) =
    λ (t : Bool). elim t as (λ t. b i ≡ t → (k : ℕ) × (b (i + k) ≡ true) × (get_or (w ∷ ws) k 0 ≢ 0)) [
      | true ↦ λ e. elim (cases_eq w 0) [
        | inl z ↦ later (λ m. n (let f : cond (b i) w 0 ≡ w = ap (λ t. cond t w 0) e in omega arith))
        | inr z ↦ let f : i + 0 ≡ i = omega arith in (0, ap b f ∙ e, z)
      ]
      | false ↦ λ e. later (λ m. n (let f : cond (b i) w 0 ≡ 0 = ap (λ t. cond t w 0) e in omega arith))
    ] in
    step (b i) refl

costs-from-images : (im : List Literal) (h : Held) (r : Rewrite) → (n : NewWeights im h r) → ComeFrom (image_in im) (costs_of (weights_after r h)) (costs_of h.weights)
costs-from-images im h r n x i =
    let c = cost_at 0 n.now x (subst (λ ws. Contains (costs_of ws) x) n.is i) in
    let w = worth-found (λ p. image_place im p == c.place) 0 h.weights (n.from c.place c.some) in
    let z : 0 + w.0 ≡ w.0 = omega arith in
    let y : 0 + c.place ≡ c.place = omega arith in
    let at : image_place im w.0 ≡ c.place = eqb-true (image_place im w.0) c.place (rw z at w.1) in
    let lit : x.lit ≡ literal_at c.place = ap (λ (q : Cost). q.lit) c.is ∙ ap literal_at y in
    let old : Contains (costs_of h.weights) (record { lit = literal_at (0 + w.0); weight = get_or h.weights w.0 0 }) = has_cost 0 h.weights w.0 w.2 in
    (record { lit = literal_at (0 + w.0); weight = get_or h.weights w.0 0 }, old, lit ∙ ap literal_at (sym at) ∙ literal-place (image_in im (literal_at w.0)) ∙ ap (λ p. image_in im (literal_at p)) (sym z))

-- what a turn has at hand
pub record Turned (h : Held) (ns : List ℕ) (im : List Literal) (vs : List ℕ) (v : ℕ) (r : Rewrite) : Type 0 where
  pub store : IsStore h
  pub unrefuted : h.refuted ≡ false
  pub classes : Classes h.vars (live_clauses h.slots) ns im
  pub replaced : AreReplaced h.vars im vs
  pub one : Contains vs v
  pub sound : AreSound h.vars (live_clauses h.slots) im vs
  pub is : IsImageRewrite im vs h r

another : (im : List Literal) (h : Held) (ns vs : List ℕ) (v : ℕ) (r : Rewrite) → Turned h ns im vs v r → image_in im (positive v) ≢ positive v
another im h ns vs v r t e = (t.replaced.only v t.one).moved (ap (λ (k : Literal). k.variable) e)

closed-by : (im : List Literal) (h : Held) (ns vs : List ℕ) (v : ℕ) (r : Rewrite) → Turned h ns im vs v r → Closes im (live_clauses h.slots) (positive v)
closed-by im h ns vs v r t = closes h.vars (live_clauses h.slots) ns im (positive v) t.classes (t.replaced.only v t.one).up (another im h ns vs v r t)

-- fewer clauses
fewer-clauses : (im : List Literal) (h : Held) (ns vs : List ℕ) (v : ℕ) (r : Rewrite) → Turned h ns im vs v r → length (clauses_after r h) < length (live_clauses h.slots)
fewer-clauses im h ns vs v r t =
    let c = closed-by im h ns vs v r t in
    let at = live-id h.slots c.clause c.live in
    let up = (t.replaced.only v t.one).up in
    let turned = opposite-known h.vars (live_clauses h.slots) ns im (positive v) t.classes up in
    let moved : moves im (negation (positive v)) ≡ true = ap not (ne_eqb (place_of (image_in im (negation (positive v)))) (place_of (negation (positive v))) (λ e. (t.replaced.only v t.one).moved (ap (λ (k : Literal). k.variable) (sym turned ∙ sym (literal-place (image_in im (negation (positive v)))) ∙ ap literal_at e ∙ literal-place (negation (positive v)))))) in
    let slot : slot_moves im (clause_of h.slots at.0) ≡ true = rw at.1 (any-by (moves im) c.clause (negation (positive v)) c.has moved) in
    let gone : Contains r.gone at.0 = is_in-contains r.gone at.0 (moved-at im h r at.0 t.is.gone ∙ slot) in
    let few = t.is.added.fewer at.0 c.clause gone at.1 c.opposites in
    let valid = rewrite-valid im vs h r t.store t.sound t.is in
    let count = replaced_count r.gone r.added h.slots valid.gone_live valid.gone_distinct in
    omega arith

-- fewer variables occur
still-occurs : (im : List Literal) (h : Held) (ns vs : List ℕ) (v : ℕ) (r : Rewrite) → Turned h ns im vs v r → (u : ℕ) → occurs u (clauses_after r h) ≡ true → occurs u (live_clauses h.slots) ≡ true
still-occurs im h ns vs v r t u o =
    let cs = live_clauses h.slots in
    let w = occurs-found u (clauses_after r h) o in
    let c = (rewrite-substitutes im vs h r t.is).only w.clause w.live in
    let k = c.2.back w.literal w.has in
    let up : IsUpTo h.vars k.0 = All-contains (IsUpTo h.vars) c.0 k.0 (All-contains (All (IsUpTo h.vars)) cs c.0 t.store.labelled.hard_within c.1) k.1 in
    let same : (image_in im k.0).variable ≡ u = ap (λ (l : Literal). l.variable) (sym k.2) ∙ w.variable in
    elim (cases_Bool (moves im k.0)) [
      | inl m ↦
          let apart : image_in im k.0 ≢ k.0 = λ e. true≢false (sym m ∙ ap not (eq-eqb (place_of (image_in im k.0)) (place_of k.0) (ap place_of e))) in
          let d = closes-image h.vars cs ns im k.0 t.classes up apart in
          occurs-by u cs d.clause (negation (image_in im k.0)) d.live d.has same
      | inr m ↦ occurs-by u cs c.0 k.0 c.1 k.1 (ap (λ (l : Literal). l.variable) (sym (not-moved im k.0 m)) ∙ same)
    ]

occurs-no-more : (im : List Literal) (h : Held) (ns vs : List ℕ) (v : ℕ) (r : Rewrite) → Turned h ns im vs v r → occurs v (clauses_after r h) ≡ false
occurs-no-more im h ns vs v r t =
    elim (cases_Bool (occurs v (clauses_after r h))) [
      | inr f ↦ f
      | inl o ↦
          let w = occurs-found v (clauses_after r h) o in
          let c = (rewrite-substitutes im vs h r t.is).only w.clause w.live in
          let k = c.2.back w.literal w.has in
          let up : IsUpTo h.vars k.0 = All-contains (IsUpTo h.vars) c.0 k.0 (All-contains (All (IsUpTo h.vars)) (live_clauses h.slots) c.0 t.store.labelled.hard_within c.1) k.1 in
          absurd (t.sound.substitution.away k.0 up.0 (subst (Contains vs) (sym (ap (λ (l : Literal). l.variable) (sym k.2) ∙ w.variable)) t.one))
    ]

pub fewer-occur : (im : List Literal) (h : Held) (ns vs : List ℕ) (v : ℕ) (r : Rewrite) → Turned h ns im vs v r → occurring (h.vars + r.fresh) (clauses_after r h) < occurring h.vars (live_clauses h.slots)
fewer-occur im h ns vs v r t =
    let vars : h.vars + r.fresh ≡ h.vars = ap (λ n. h.vars + n) t.is.fresh ∙ add-zero h.vars in
    let up = (t.replaced.only v t.one).up in
    let c = closed-by im h ns vs v r t in
    let was = occurs-by v (live_clauses h.slots) c.clause (negation (positive v)) c.live c.has refl in
    rw vars (occurring-lower h.vars (live_clauses h.slots) (clauses_after r h) v up.0 up.1 (still-occurs im h ns vs v r t) was (occurs-no-more im h ns vs v r t))

-- and the state is smaller
lower-fourth : (a b c d e f a' b' c' d' e' f' : ℕ) → a' ≤ a → b' ≤ b → c' ≤ c → d' < d → IsLower (a' ∷ (b' ∷ (c' ∷ (d' ∷ (e' ∷ (f' ∷ [])))))) (a ∷ (b ∷ (c ∷ (d ∷ (e ∷ (f ∷ []))))))
lower-fourth a b c d e f a' b' c' d' e' f' p q s l =
    lower-or-same a' a (b' ∷ (c' ∷ (d' ∷ (e' ∷ (f' ∷ []))))) (b ∷ (c ∷ (d ∷ (e ∷ (f ∷ []))))) p
    (lower-or-same b' b (c' ∷ (d' ∷ (e' ∷ (f' ∷ [])))) (c ∷ (d ∷ (e ∷ (f ∷ [])))) q
    (lower-or-same c' c (d' ∷ (e' ∷ (f' ∷ []))) (d ∷ (e ∷ (f ∷ []))) s (inl l)))

pub turned-smaller : (im : List Literal) (h : Held) (ns vs : List ℕ) (v : ℕ) (r : Rewrite) → Turned h ns im vs v r → AreApart (costs_of (weights_after r h)) → IsSmaller (labelled_of (changed_by r h)) (labelled_of h)
turned-smaller im h ns vs v r t apart =
    let n = new-weights im vs h r t.store t.is in
    let from = costs-from-images im h r n in
    let new = costs_of (weights_after r h) in
    let old = costs_of h.weights in
    let weights : sum_by (λ (c : Cost). c.weight) new ≤ sum_by (λ (c : Cost). c.weight) old =
    let a : sum_by (λ (c : Cost). c.weight) new ≡ sum n.now = ap (λ ws. sum_by (λ (c : Cost). c.weight) (costs_of ws)) n.is ∙ sum-costs 0 n.now in
    let b = sum-costs 0 h.weights in
    let c = n.total in
    omega arith in
    let few = sum-from (image_in im) (λ (c : Cost). 1) (λ (c : Cost). 1) new old apart from (λ x y i e. omega arith) in
    let fewer : length new ≤ length old = omega (arith, few, sum-ones new, sum-ones old) in
    let sub = rewrite-substitutes im vs h r t.is in
    let pairs = uncovered-from (image_in im) (live_clauses h.slots) (clauses_after r h) new old apart from (λ a b p q d ea eb c. covers-on (image_in im) (live_clauses h.slots) (clauses_after r h) a.lit b.lit p.lit q.lit sub d ea eb c) in
    lower-fourth _ _ _ _ _ _ _ _ _ _ _ _ weights fewer pairs (fewer-clauses im h ns vs v r t)
