-- A list of literals and the table of its marks.
use Rattle.std.proofs.Common.{◌≡◌, ◌≢◌, ◌⊎◌, ℕ, ◌+◌, ◌-◌, ◌<◌, ◌≤◌, Bool, true, false, not, cond, List, [], ◌∷◌, ◌++◌, length, get_or, set, take, map, eqb, zero, suc, refl, sym, ◌∙◌, ap, subst, arith, inl, inr, Contains}
use Rattle.std.specs.Prelude.{◌==◌, ◌||◌, MatchBool}
use Rattle.std.specs.List.{list_any}
use Rattle.std.proofs.lemmas.Bool.{cases_eq, cases_lt, and_parts, and_from, or_left, or_right, not-true, eqb-true, eq-eqb, ne_eqb, false_from_ne_true, true≢false}
use Rattle.std.proofs.lemmas.List.{length-map, take_all, take_more, take-take, length-take-le, get_or_past, get_or-set_same, get_or-set_other}
use Rattle.std.proofs.lemmas.List.Elements.{Contains-get_or, Contains-append_left, Contains-push, Contains-push_cases}
use Rattle.std.proofs.lemmas.Map.Keys.{IsDistinct-from_apart}
use Rattle.std.proofs.lemmas.Map.Steps.{length-le_from_distinct_below}
use Rattle.mp_logic.specs.Literal.{Literal, negation}
use Rattle.mp_logic.proofs.Literals.{negation-negation}
use Rattle.mp_logic.proofs.Members.{Contains-map, any_found}
use Rattle.mp_clauses.specs.Places.{place_of, width, has, is_in, no_repeats}
use Rattle.mp_clauses.specs.Tables.{marked}
use Rattle.mp_clauses.proofs.Found.{is_in-by, is_in-contains, has-by, has-contains}
use Rattle.mp_store.proofs.Sound.{place-below}
use Rattle.t_failed.specs.Propagating.{IsMarked, AreUpTo}

-- one number more
in-push : (xs : List ℕ) (x k : ℕ) → is_in k (xs ++ x ∷ []) ≡ true → (is_in k xs ≡ true) ⊎ (x ≡ k)
in-push xs x k t =
    elim (Contains-push_cases xs x k (is_in-contains (xs ++ x ∷ []) k t)) [
      | inl i ↦ inl (is_in-by xs k i)
      | inr e ↦ inr e
    ]

once-push : (xs : List ℕ) (x : ℕ) → no_repeats xs ≡ true → is_in x xs ≡ false → no_repeats (xs ++ x ∷ []) ≡ true
once-push [] x h n = refl
once-push (y ∷ xs) x h n =
    let parts = and_parts (not (is_in y xs)) (no_repeats xs) h in
    let far : is_in x xs ≡ false = false_from_ne_true (is_in x xs) (λ t. true≢false (sym (or_right (y == x) (is_in x xs) t) ∙ n)) in
    let other : is_in y (xs ++ x ∷ []) ≡ false = false_from_ne_true (is_in y (xs ++ x ∷ [])) (λ t. elim (in-push xs x y t) [
      | inl i ↦ true≢false (sym i ∙ not-true (is_in y xs) parts.0)
      | inr e ↦ true≢false (sym (or_left (y == x) (is_in x xs) (eq-eqb y x (sym e))) ∙ n)
    ]) in
    and_from (not (is_in y (xs ++ x ∷ []))) (no_repeats (xs ++ x ∷ [])) (ap not other) (once-push xs x parts.1 far)

-- one number less
once-pop : (xs : List ℕ) (x : ℕ) → no_repeats (xs ++ x ∷ []) ≡ true → (no_repeats xs ≡ true) × (is_in x xs ≡ false)
once-pop [] x h = (refl, refl)
once-pop (y ∷ xs) x h =
    let parts = and_parts (not (is_in y (xs ++ x ∷ []))) (no_repeats (xs ++ x ∷ [])) h in
    let rest = once-pop xs x parts.1 in
    let gone = not-true (is_in y (xs ++ x ∷ [])) parts.0 in
    let own : is_in y xs ≡ false = false_from_ne_true (is_in y xs) (λ t. true≢false (sym (is_in-by (xs ++ x ∷ []) y (Contains-append_left xs (x ∷ []) y (is_in-contains xs y t))) ∙ gone)) in
    let far : (y == x) ≡ false = ne_eqb y x (λ e. true≢false (sym (is_in-by (xs ++ x ∷ []) y (subst (Contains (xs ++ x ∷ [])) (sym e) (Contains-push xs x))) ∙ gone)) in
    (and_from (not (is_in y xs)) (no_repeats xs) (ap not own) rest.0, ap (λ b. b || is_in x xs) far ∙ rest.1)

-- the places of literals
pub has-places : (p : ℕ) (c : List Literal) → has p c ≡ is_in p (map place_of c)
has-places p [] = refl
has-places p (l ∷ c) = ap (λ b. (place_of l == p) || b) (has-places p c)

pub places-push : (c : List Literal) (l : Literal) → map place_of (c ++ l ∷ []) ≡ map place_of c ++ place_of l ∷ []
places-push [] l = refl
places-push (k ∷ c) l = ap (λ xs. place_of k ∷ xs) (places-push c l)

lacks-place : (c : List Literal) (l : Literal) → (Contains c l → ⊥) → has (place_of l) c ≡ false
lacks-place c l n = false_from_ne_true (has (place_of l) c) (λ t. n (has-contains c l t))

not_own : (n : Bool) → n ≢ not n
not_own true e = true≢false e
not_own false e = true≢false (sym e)

not-own : (k : Literal) → k ≢ negation k
not-own k e = not_own k.negative (ap (λ (l : Literal). l.negative) e)

-- a literal that is put last
pub pushed : (new : List Bool) (lits : List Literal) (l : Literal) (marks : List Bool) → IsMarked marks lits → (Contains lits l → ⊥) → (Contains lits (negation l) → ⊥) → ((p : ℕ) → marked new p ≡ has p (lits ++ l ∷ [])) → IsMarked new (lits ++ l ∷ [])
pushed new lits l marks m n o each = record {
  each = each;
  once = ap no_repeats (places-push lits l) ∙ once-push (map place_of lits) (place_of l) m.once (sym (has-places (place_of l) lits) ∙ lacks-place lits l n);
  consistent = λ k i j. elim (Contains-push_cases lits l k i) [
    | inl a ↦ elim (Contains-push_cases lits l (negation k) j) [
      | inl b ↦ m.consistent k a b
      | inr e ↦ o (subst (Contains lits) (sym (negation-negation k) ∙ ap negation (sym e)) a)
    ]
    | inr e ↦ elim (Contains-push_cases lits l (negation k) j) [
      | inl b ↦ o (subst (λ x. Contains lits (negation x)) (sym e) b)
      | inr f ↦ not-own k (sym e ∙ f)
    ]
  ];
}

has-before : (p : ℕ) (lits : List Literal) (l : Literal) → p ≢ place_of l → has p (lits ++ l ∷ []) ≡ has p lits
has-before p [] l n = ap (λ b. b || false) (ne_eqb (place_of l) p (λ e. n (sym e)))
has-before p (k ∷ lits) l n = ap (λ b. (place_of k == p) || b) (has-before p lits l n)

any-eqb : (xs : List ℕ) (q : ℕ) → list_any (eqb q) xs ≡ true → Contains xs q
any-eqb xs q t = let w = any_found (eqb q) xs t in subst (Contains xs) (sym (eqb-true q w.0 w.2)) w.1

-- the last literal is taken away
popped-part : (new marks : List Bool) (lits : List Literal) (l : Literal) → IsMarked marks (lits ++ l ∷ []) → ((p : ℕ) → marked new p ≡ cond (p == place_of l) false (marked marks p)) → IsMarked new lits
popped-part new marks lits l m each =
    let out = once-pop (map place_of lits) (place_of l) (sym (ap no_repeats (places-push lits l)) ∙ m.once) in
    record {
      each = λ p. elim (cases_eq p (place_of l)) [
        | inl e ↦
            let a : marked new p ≡ false = each p ∙ ap (λ b. cond b false (marked marks p)) (eq-eqb p (place_of l) e) in
            a ∙ sym (has-places p lits ∙ (ap (λ q. is_in q (map place_of lits)) e ∙ out.1))
        | inr n ↦
            let a : marked new p ≡ marked marks p = each p ∙ ap (λ b. cond b false (marked marks p)) (ne_eqb p (place_of l) n) in
            a ∙ (m.each p ∙ has-before p lits l n)
      ];
      once = out.0;
      consistent = λ k i j. m.consistent k (Contains-append_left lits (l ∷ []) k i) (Contains-append_left lits (l ∷ []) (negation k) j);
    }

inside : (marks : List Bool) (lits : List Literal) (l : Literal) → IsMarked marks lits → Contains lits l → place_of l < length marks
inside marks lits l m i =
    elim (cases_lt (place_of l) (length marks)) [
      | inl b ↦ b
      | inr past ↦ absurd (true≢false (sym (has-by lits l i) ∙ (sym (m.each (place_of l)) ∙ get_or_past marks (place_of l) false past)))
    ]

cleared-mark : (marks : List Bool) (k p : ℕ) → k < length marks → marked (set marks k false) p ≡ cond (p == k) false (marked marks p)
cleared-mark marks k p h =
    elim (cases_eq p k) [
      | inl e ↦ ap (marked (set marks k false)) e ∙ (get_or-set_same marks k false false h ∙ sym (ap (λ b. cond b false (marked marks p)) (eq-eqb p k e)))
      | inr n ↦ get_or-set_other marks k p false false n ∙ sym (ap (λ b. cond b false (marked marks p)) (ne_eqb p k n))
    ]

pub cut-step : (marks : List Bool) (lits initial now : List Literal) (last len : ℕ) (l : Literal) → IsMarked marks lits → lits ≡ take (length lits) initial → len < length lits → last ≡ length lits - 1 → l ≡ get_or lits last l → now ≡ take last lits
    → IsMarked (set marks (place_of l) false) now × (now ≡ take (length now) initial) × (len ≤ length now) × (place_of l < length marks)
cut-step marks lits initial now last len l m e less w g n =
    let within : last < length lits = omega arith in
    let size : length (take last lits) ≡ last = length-take-le last lits (omega arith) in
    let split : lits ≡ take last lits ++ l ∷ [] = sym (take_all (last + 1) lits (omega arith)) ∙ (take_more lits last l within ∙ ap (λ x. take last lits ++ x ∷ []) (sym g)) in
    let there : place_of l < length marks = inside marks lits l m (last, within, sym g) in
    let out : IsMarked (set marks (place_of l) false) (take last lits) = popped-part (set marks (place_of l) false) marks (take last lits) l (subst (IsMarked marks) split m) (λ p. cleared-mark marks (place_of l) p there) in
    let size_now : length now ≡ last = ap (λ (xs : List Literal). length xs) n ∙ size in (
      subst (IsMarked (set marks (place_of l) false)) (sym n) out,
      n ∙ (ap (take last) e ∙ (take-take last (length lits) initial (omega arith) ∙ ap (λ x. take x initial) (sym size_now))),
      omega (arith, size_now),
      there,
    )

-- what the marks say
pub found-marked : (marks : List Bool) (lits : List Literal) (l : Literal) (b : Bool) → IsMarked marks lits → b ≡ marked marks (place_of l) → MatchBool b (Contains lits l) (Contains lits l → ⊥)
found-marked marks lits l b m e =
    let at : has (place_of l) lits ≡ b = sym (m.each (place_of l)) ∙ sym e in
    let cases : (t : Bool) → has (place_of l) lits ≡ t → MatchBool t (Contains lits l) (Contains lits l → ⊥) =
    λ (t : Bool). elim t as (λ t. has (place_of l) lits ≡ t → MatchBool t (Contains lits l) (Contains lits l → ⊥)) [ true ↦ λ h. has-contains lits l h | false ↦ λ h i. true≢false (sym (has-by lits l i) ∙ h) ] in
    cases b at

-- a table that grew
pub same-marks : (old new : List Bool) (lits : List Literal) → ((p : ℕ) → marked new p ≡ marked old p) → IsMarked old lits → IsMarked new lits
same-marks old new lits e m = record { each = λ p. e p ∙ m.each p; once = m.once; consistent = m.consistent }

has-last : (p : ℕ) (lits : List Literal) (l : Literal) → p ≡ place_of l → has p (lits ++ l ∷ []) ≡ true
has-last p lits l e = ap (λ q. has q (lits ++ l ∷ [])) e ∙ has-by (lits ++ l ∷ []) l (Contains-push lits l)

pub push-step : (old wide : List Bool) (lits : List Literal) (l : Literal) → IsMarked old lits → ((p : ℕ) → marked wide p ≡ marked old p) → place_of l + 1 ≤ length wide → (Contains lits l → ⊥) → (Contains lits (negation l) → ⊥) → IsMarked (set wide (place_of l) true) (lits ++ l ∷ [])
push-step old wide lits l m e long n o =
    pushed (set wide (place_of l) true) lits l old m n o (λ p. elim (cases_eq p (place_of l)) [
      | inl s ↦ ap (marked (set wide (place_of l) true)) s ∙ (get_or-set_same wide (place_of l) true false (omega arith) ∙ sym (has-last p lits l s))
      | inr d ↦ get_or-set_other wide (place_of l) p true false d ∙ (e p ∙ (m.each p ∙ sym (has-before p lits l d)))
    ])

-- distinct numbers below a bound
apart_at : (xs : List ℕ) → no_repeats xs ≡ true → (i j d : ℕ) → i < j → j < length xs → get_or xs i d ≢ get_or xs j d
apart_at [] h i j d a b e = omega (arith, b)
apart_at (x ∷ xs) h i zero d a b e = omega (arith, a)
apart_at (x ∷ xs) h zero (suc j) d a b e =
    let parts = and_parts (not (is_in x xs)) (no_repeats xs) h in
    true≢false (sym (is_in-by xs x (subst (Contains xs) (sym e) (Contains-get_or xs j d (omega arith)))) ∙ not-true (is_in x xs) parts.0)
apart_at (x ∷ xs) h (suc i) (suc j) d a b e = apart_at xs (and_parts (not (is_in x xs)) (no_repeats xs) h).1 i j d (omega arith) (omega arith) e

few_below : (xs : List ℕ) (n : ℕ) → no_repeats xs ≡ true → ((x : ℕ) → Contains xs x → x < n) → length xs ≤ n
few_below xs n h below =
    length-le_from_distinct_below xs n
    (IsDistinct-from_apart eqb xs (λ i j d less inside. ne_eqb (get_or xs i d) (get_or xs j d) (apart_at xs h i j d less inside)))
    (λ q t. below q (any-eqb xs q t))

pub few : (marks : List Bool) (lits : List Literal) (vars : ℕ) → IsMarked marks lits → AreUpTo vars lits → length lits ≤ width vars
few marks lits vars m up =
    let size = length-map lits place_of in
    let below : length (map place_of lits) ≤ width vars = few_below (map place_of lits) (width vars) m.once (λ x i.
    let w = Contains-map place_of lits x i in
    let u = up w.0 w.1 in
    subst (λ k. k < width vars) (sym w.2) (place-below vars w.0 u)) in
    omega (arith, size, below)
