-- The choice of labels, each two of which are a clause.
use Rattle.std.proofs.Common.{◌≡◌, ◌≢◌, ℕ, ◌<◌, ◌≤◌, Bool, true, false, not, cond, List, [], ◌∷◌, ◌++◌, length, length-append, refl, sym, ◌∙◌, ap, subst, arith, inl, inr, Contains}
use Rattle.std.specs.Prelude.{◌==◌, ◌||◌, map}
use Rattle.std.specs.List.{filter}
use Rattle.std.proofs.lemmas.Bool.{cases_Bool, cases_eq, and_parts, or_parts, not-true, true≢false, eqb-true, eq-eqb, false_from_ne_true}
use Rattle.std.proofs.lemmas.List.Elements.{Contains-append_cases, Contains-append_left, Contains-push}
use Rattle.mp_logic.specs.Literal.{Literal}
use Rattle.mp_logic.proofs.Members.{Contains-none, Contains-first, Contains-later, Contains-cases, Contains-one}
use Rattle.mp_clauses.specs.Places.{place_of, has, is_in, no_repeats}
use Rattle.mp_clauses.specs.Weighing.{weight_in}
use Rattle.mp_clauses.proofs.Found.{is_in-by, is_in-contains, has-by, has-contains}
use Rattle.mp_clauses.proofs.Pricing.{same-place}
use Rattle.mp_logic.proofs.Chosen.{Contains-map}
use Rattle.mp_store.specs.Held.{Held}
use Rattle.mp_store.specs.Soundness.{IsStore}
use Rattle.t_amo.proofs.Weighed.{label-within}
use Rattle.mp_store.proofs.Fixes.{filter-from, filter-has}
use Rattle.t_amo.specs.Choosing.{IsPartner, ArePartners, AreMutual, IsChoice, AreChosenSoFar, IsKept}
use Rattle.t_amo.proofs.PairClauses.{partner-back}
use Rattle.t_amo.proofs.LabelPlaces.{map-has}

-- places without repeats, and one more
snoc-in : (x p : ℕ) (ps : List ℕ) → is_in x (ps ++ p ∷ []) ≡ (is_in x ps || (p == x))
snoc-in x p [] = elim (p == x) as (λ b. (b || false) ≡ b) [ true ↦ refl | false ↦ refl ]
snoc-in x p (q ∷ ps) =
    let rest = snoc-in x p ps in
    elim (q == x) as (λ b. (b || is_in x (ps ++ p ∷ [])) ≡ ((b || is_in x ps) || (p == x))) [ true ↦ refl | false ↦ rest ]

pub snoc-once : (ps : List ℕ) (p : ℕ) → no_repeats ps ≡ true → is_in p ps ≡ false → no_repeats (ps ++ p ∷ []) ≡ true
snoc-once [] p h f = refl
snoc-once (q ∷ ps) p h f =
    let parts = and_parts (not (is_in q ps)) (no_repeats ps) h in
    let two = or_parts (q == p) (is_in p ps) f in
    let rest = snoc-once ps p parts.1 two.1 in
    let a : is_in q ps ≡ false = not-true (is_in q ps) parts.0 in
    let b : (p == q) ≡ false = elim (cases_Bool (p == q)) [ inl t ↦ absurd (true≢false (sym (eq-eqb q p (sym (eqb-true p q t))) ∙ two.0)) | inr g ↦ g ] in
    let out : is_in q (ps ++ p ∷ []) ≡ false = snoc-in q p ps ∙ rw (a, b) refl in
    rw (out, rest) refl

map-snoc : (bs : List Literal) (l : Literal) → map place_of (bs ++ l ∷ []) ≡ map place_of bs ++ place_of l ∷ []
map-snoc [] l = refl
map-snoc (b ∷ bs) l = ap (λ (x : List ℕ). place_of b ∷ x) (map-snoc bs l)

pub not-in-places : (bs : List Literal) (l : Literal) → (Contains bs l → ⊥) → is_in (place_of l) (map place_of bs) ≡ false
not-in-places bs l far =
    let none : is_in (place_of l) (map place_of bs) ≡ true → ⊥ = λ t. (let w = Contains-map place_of bs (place_of l) (is_in-contains (map place_of bs) (place_of l) t) in far (subst (Contains bs) (same-place w.0 l (sym w.2)) w.1)) in
    false_from_ne_true (is_in (place_of l) (map place_of bs)) none

-- different from each that stands before it
pub first-other : (b : Literal) (bs : List Literal) (d : Literal) → no_repeats (map place_of (b ∷ bs)) ≡ true → Contains bs d → d ≢ b
first-other b bs d once i e =
    let parts = and_parts (not (is_in (place_of b) (map place_of bs))) (no_repeats (map place_of bs)) once in
    true≢false (sym (is_in-by (map place_of bs) (place_of b) (subst (λ (k : Literal). Contains (map place_of bs) (place_of k)) e (map-has place_of bs d i))) ∙ not-true (is_in (place_of b) (map place_of bs)) parts.0)

-- one of two or more is another one
pub another : (bs : List Literal) (b : Literal) → no_repeats (map place_of bs) ≡ true → 2 ≤ length bs → (d : Literal) × Contains bs d × (d ≢ b)
another [] b once two = absurd (omega (arith, two))
another (x ∷ []) b once two = absurd (omega (arith, two))
another (x ∷ (y ∷ bs)) b once two =
    elim (cases_eq (place_of x) (place_of b)) [
      | inl e ↦ (y, Contains-later x (y ∷ bs) y (Contains-first y bs), λ f. first-other x (y ∷ bs) y once (Contains-first y bs) (f ∙ sym (same-place x b e)))
      | inr n ↦ (x, Contains-first x (y ∷ bs), λ f. n (ap place_of f))
    ]

one-mutual : (h : Held) (l : Literal) → weight_in h.weights l ≢ 0 → AreMutual h (l ∷ [])
one-mutual h l n = record {
  labels = λ b i. subst (λ (k : Literal). weight_in h.weights k ≢ 0) (sym (Contains-one l b i)) n;
  once = refl;
  paired = λ b d i j o. absurd (o (Contains-one l d j ∙ sym (Contains-one l b i)));
}

-- a further partner of all
more-mutual : (h : Held) (bs : List Literal) (l : Literal) → AreMutual h bs → (b : Literal) × Contains bs b → ((b : Literal) → Contains bs b → IsPartner h b l) → AreMutual h (bs ++ l ∷ [])
more-mutual h bs l m some p =
    let weighs : weight_in h.weights l ≢ 0 = (p some.0 some.1).label in
    let far : Contains bs l → ⊥ = λ i. (p l i).other refl in
    record {
      labels = λ b i. elim (Contains-append_cases bs (l ∷ []) b i) [ inl a ↦ m.labels b a | inr o ↦ subst (λ (k : Literal). weight_in h.weights k ≢ 0) (sym (Contains-one l b o)) weighs ];
      once = ap no_repeats (map-snoc bs l) ∙ snoc-once (map place_of bs) (place_of l) m.once (not-in-places bs l far);
      paired = λ b d i j o. elim (Contains-append_cases bs (l ∷ []) b i) [
        | inl a ↦ elim (Contains-append_cases bs (l ∷ []) d j) [
          | inl c ↦ m.paired b d a c o
          | inr c ↦ subst (λ (k : Literal). IsPartner h b k) (sym (Contains-one l d c)) (p b a)
        ]
        | inr a ↦ elim (Contains-append_cases bs (l ∷ []) d j) [
          | inl c ↦ subst (λ (k : Literal). IsPartner h k d) (sym (Contains-one l b a)) (partner-back h d l (m.labels d c) (p d c))
          | inr c ↦ absurd (o (Contains-one l d c ∙ sym (Contains-one l b a)))
        ]
      ];
    }

pub choice-begun : (h : Held) (l : Literal) (chosen left : List Literal) → weight_in h.weights l ≢ 0 → ArePartners h l left → 1 ≤ length left → chosen ≡ l ∷ [] → AreChosenSoFar h l chosen left
choice-begun h l chosen left n p some e =
    let begun : AreChosenSoFar h l (l ∷ []) left = record {
      each_two = one-mutual h l n;
      own = Contains-first l [];
      some = omega arith;
      two = omega (arith, some);
      each = λ k q. p.each k (q l (Contains-first l []));
      only = λ k i b j. subst (λ (x : Literal). IsPartner h x k) (sym (Contains-one l b j)) (p.only k i);
    } in
    subst (λ (bs : List Literal). AreChosenSoFar h l bs left) (sym e) begun

pub choice-more : (h : Held) (l next : Literal) (chosen left after kept : List Literal) → AreChosenSoFar h l chosen left → Contains left next → after ≡ chosen ++ next ∷ [] → IsKept h next left kept → AreChosenSoFar h l after kept
choice-more h l next chosen left after kept c i e k =
    let own = c.own in
    let few = c.some in
    let more = length-append chosen (next ∷ []) in
    subst (λ (bs : List Literal). AreChosenSoFar h l bs kept) (sym e) (record {
      each_two = more-mutual h chosen next c.each_two (l, own) (c.only next i);
      own = Contains-append_left chosen (next ∷ []) l own;
      some = omega (arith, few, more);
      two = omega (arith, few, more);
      each = λ m q. subst (λ (xs : List Literal). Contains xs m) (sym k.2) (filter-has (λ (x : Literal). has (place_of x) k.0) left m (c.each m (λ b j. q b (Contains-append_left chosen (next ∷ []) b j))) (has-by k.0 m (k.1.each m (q next (Contains-push chosen next)))));
      only = λ m j b a.
          let f = filter-from (λ (x : Literal). has (place_of x) k.0) left m (subst (λ (xs : List Literal). Contains xs m) k.2 j) in
          elim (Contains-append_cases chosen (next ∷ []) b a) [
            | inl o ↦ c.only m f.0 b o
            | inr o ↦ subst (λ (x : Literal). IsPartner h x m) (sym (Contains-one next b o)) (k.1.only m (has-contains k.0 m f.1))
          ];
    })

-- what is left gets shorter
filter_le : {X : Type 0} (p : X → Bool) (xs : List X) → length (filter p xs) ≤ length xs
filter_le p [] = omega arith
filter_le p (x ∷ xs) = let rest = filter_le p xs in elim (p x) as (λ b. length (cond b (x ∷ filter p xs) (filter p xs)) ≤ length (x ∷ xs)) [ true ↦ omega (arith, rest) | false ↦ omega (arith, rest) ]

filter-less : {X : Type 0} (p : X → Bool) (xs : List X) (x : X) → Contains xs x → p x ≡ false → length (filter p xs) < length xs
filter-less p [] x i f = absurd (Contains-none x i)
filter-less p (y ∷ xs) x i f =
    let all = filter_le p xs in
    elim (Contains-cases y xs x i) [
      | inl e ↦ (let own : p y ≡ false = ap p (sym e) ∙ f in rw own (omega (arith, all)))
      | inr r ↦ let rest = filter-less p xs x r f in elim (p y) as (λ b. length (cond b (y ∷ filter p xs) (filter p xs)) < length (y ∷ xs)) [ true ↦ omega (arith, rest) | false ↦ omega (arith, rest) ]
    ]

pub kept-fewer : (h : Held) (next : Literal) (left kept : List Literal) → Contains left next → IsKept h next left kept → length kept < length left
kept-fewer h next left kept i k =
    let out : has (place_of next) k.0 ≡ false = false_from_ne_true (has (place_of next) k.0) (λ t. (k.1.only next (has-contains k.0 next t)).other refl) in
    let less = filter-less (λ (x : Literal). has (place_of x) k.0) left next i out in
    subst (λ (xs : List Literal). length xs < length left) (sym k.2) less

pub choice-done : (h : Held) (l : Literal) (chosen left : List Literal) → AreChosenSoFar h l chosen left → length left ≡ 0 → IsChoice h l chosen
choice-done h l chosen left c z = record {
  each_two = c.each_two;
  own = c.own;
  two = (let two = c.two in omega (arith, two, z));
  most = λ k q. (let lt = (c.each k q).1 in omega (arith, lt, z));
}

pub kept-is : (h : Held) (l : Literal) (found items hand was kept : List Literal) → ArePartners h l found → items ≡ found → hand ≡ items → kept ≡ filter (λ (k : Literal). has (place_of k) hand) was → IsKept h l was kept
kept-is h l found items hand was kept p e f g = (found, p, g ∙ ap (λ (ks : List Literal). filter (λ (k : Literal). has (place_of k) ks) was) (f ∙ e))

-- whether literals are left
pub left-some : (xs : List Literal) (n : ℕ) (t : Bool) → t ≡ (n == 0) → n ≡ length xs → t ≡ false → 0 < length xs
left-some [] n t e f g = absurd (true≢false (sym (e ∙ ap (λ (k : ℕ). k == 0) f) ∙ g))
left-some (x ∷ xs) n t e f g = omega arith

pub left-none : (xs : List Literal) (n : ℕ) (t : Bool) → t ≡ (n == 0) → n ≡ length xs → t ≡ true → length xs ≡ 0
left-none xs n t e f g = sym f ∙ eqb-true n 0 (sym e ∙ g)

pub next-within : (h : Held) (l next : Literal) (chosen left : List Literal) → IsStore h → AreChosenSoFar h l chosen left → Contains left next → next.variable ≤ h.vars
next-within h l next chosen left s c i = let own = c.own in (label-within h next s (c.only next i l own).label).1
