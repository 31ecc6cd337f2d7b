-- Clauses with images in place of literals.
use Rattle.std.proofs.Common.{◌≡◌, ℕ, ◌+◌, ◌<◌, ◌≤◌, List, [], ◌∷◌, ◌++◌, map, length, take, get_or, All, IsTrue, Contains, suc, ap, sym, ◌∙◌, subst, arith, inl, inr}
use Rattle.std.specs.Prelude.{Option, Some, None, MatchOption, option_to_list}
use Rattle.std.proofs.lemmas.List.{length-append, take_all, append-nil}
use Rattle.std.proofs.lemmas.List.Elements.{All-contains, Contains-append_cases, Contains-append_left, Contains-append_right}
use Rattle.std.proofs.Math.Seq.{take-suc}
use Rattle.mp_logic.specs.Literal.{Literal, negation, IsUpTo}
use Rattle.mp_logic.specs.Normal.{rises, literals_rise, SameLiterals, IsTautology}
use Rattle.mp_logic.proofs.Members.{Contains-first, Contains-later, Contains-one, Contains-none, Contains-cases, Contains-map, All-from_contained}
use Rattle.mp_logic.proofs.Rising.{rising_is_normal}
use Rattle.mp_clauses.specs.Slots.{clause_of, live_clauses}
use Rattle.mp_store.specs.Held.{Held}
use Rattle.mp_store.specs.Soundness.{IsStore}
use Rattle.mp_store.proofs.KeptFixing.{live-at}
use Rattle.t_equiv.specs.Substituting.{HasImages, HasOpposites}
use Rattle.t_equiv.specs.Images.{image_in, StaysKnown}
use Rattle.t_equiv.specs.Substitutions.{IsImageClause, AreImageClauses}

pub map-has : {X Y : Type 0} (f : X → Y) (xs : List X) (x : X) → Contains xs x → Contains (map f xs) (f x)
map-has f [] x i = absurd (Contains-none x i)
map-has f (y ∷ xs) x i = elim (Contains-cases y xs x i) [ inl e ↦ subst (λ z. Contains (f y ∷ map f xs) (f z)) (sym e) (Contains-first (f y) (map f xs)) | inr j ↦ Contains-later (f y) (map f xs) (f x) (map-has f xs x j) ]

has-images : (f : Literal → Literal) (c m d : List Literal) → m ≡ map f c → SameLiterals m d → HasImages f c d
has-images f c m d e s = record {
  on = λ k i. (s (f k)).0 (subst (λ x. Contains x (f k)) (sym e) (map-has f c k i));
  back = λ k i. Contains-map f c k (subst (λ x. Contains x k) e ((s k).1 i));
}

-- a tautology, and a clause that is none
pub tautology-opposites : (f : Literal → Literal) (c m d : List Literal) → m ≡ map f c → SameLiterals m d → IsTautology d → HasOpposites f c
tautology-opposites f c m d e s t =
    let h = has-images f c m d e s in
    let k = h.back t.0 t.1 in
    let j = h.back (negation t.0) t.2 in
    (k.0, j.0, k.1, j.1, sym j.2 ∙ ap negation k.2)

pub image-clause : (f : Literal → Literal) (c m d : List Literal) → m ≡ map f c → SameLiterals m d → IsTrue (literals_rise d) → All (λ k. 1 ≤ (f k).variable) c → (IsTautology d → ⊥) → IsImageClause f c d
image-clause f c m d e s r one none =
    let h = has-images f c m d e s in
    record {
      images = h;
      normal = (rising_is_normal d (λ k i. let w = h.back k i in subst (λ (x : Literal). 1 ≤ x.variable) (sym w.2) (All-contains (λ k. 1 ≤ (f k).variable) c w.0 one w.1))).0 r none;
      apart = λ o. none (f o.0, h.on o.0 o.2, subst (Contains d) o.4 (h.on o.1 o.3));
    }

-- one id more
some-same : (a b : List Literal) → Some a ≡ Some b → a ≡ b
some-same a b e = cc

same-clause : (s : List (Option (List Literal))) (x y : ℕ) (c d : List Literal) → y ≡ x → clause_of s x ≡ Some c → clause_of s y ≡ Some d → d ≡ c
same-clause s x y c d e f g = some-same d c (sym g ∙ ap (clause_of s) e ∙ f)

pub clauses-dropped : (im : List Literal) (s : List (Option (List Literal))) (front : List ℕ) (id : ℕ) (c : List Literal) (made : List (List Literal)) → Some c ≡ clause_of s id → HasOpposites (image_in im) c → AreImageClauses im s front made → AreImageClauses im s (front ++ id ∷ []) made
clauses-dropped im s front id c made e o h = record {
  made = λ x d i f. elim (Contains-append_cases front (id ∷ []) x i) [
    | inl j ↦ h.made x d j f
    | inr j ↦ inl (subst (HasOpposites (image_in im)) (sym (same-clause s id x c d (Contains-one id x j) (sym e) f)) o)
  ];
  only = λ d i. let w = h.only d i in (w.0, w.1, Contains-append_left front (id ∷ []) w.0 w.2, w.3, w.4);
  normal = h.normal;
  few = let few = h.few in omega (arith, length-append front (id ∷ []));
  fewer = λ x d i f p. let few = h.few in omega (arith, length-append front (id ∷ []));
}

pub clauses-made : (im : List Literal) (s : List (Option (List Literal))) (front : List ℕ) (id : ℕ) (c d : List Literal) (made made' : List (List Literal)) → Some c ≡ clause_of s id → IsImageClause (image_in im) c d → made' ≡ made ++ d ∷ [] → AreImageClauses im s front made → AreImageClauses im s (front ++ id ∷ []) made'
clauses-made im s front id c d made made' e w g h = rw g (record {
  made = λ x b i f. elim (Contains-append_cases front (id ∷ []) x i) [
    | inl j ↦ elim (h.made x b j f) [ inl o ↦ inl o | inr m ↦ inr (m.0, Contains-append_left made (d ∷ []) m.0 m.1, m.2) ]
    | inr j ↦ inr (d, Contains-append_right made (d ∷ []) d (Contains-first d []), subst (λ y. HasImages (image_in im) y d) (sym (same-clause s id x c b (Contains-one id x j) (sym e) f)) w.images)
  ];
  only = λ b i. elim (Contains-append_cases made (d ∷ []) b i) [
    | inl j ↦ let v = h.only b j in (v.0, v.1, Contains-append_left front (id ∷ []) v.0 v.2, v.3, v.4)
    | inr j ↦ (id, c, Contains-append_right front (id ∷ []) id (Contains-first id []), sym e, subst (HasImages (image_in im) c) (sym (Contains-one d b j)) w.images)
  ];
  normal = All-from_contained (λ d. IsTrue (rises 0 d)) (made ++ d ∷ []) (λ b i. elim (Contains-append_cases made (d ∷ []) b i) [
    | inl j ↦ All-contains (λ d. IsTrue (rises 0 d)) made b h.normal j
    | inr j ↦ subst (λ d. IsTrue (rises 0 d)) (sym (Contains-one d b j)) w.normal
  ]);
  few = let few = h.few in omega (arith, length-append front (id ∷ []), length-append made (d ∷ []));
  fewer = λ x b i f p. elim (Contains-append_cases front (id ∷ []) x i) [
    | inl j ↦ let few = h.fewer x b j f p in omega (arith, length-append front (id ∷ []), length-append made (d ∷ []))
    | inr j ↦ absurd (w.apart (subst (HasOpposites (image_in im)) (same-clause s id x c b (Contains-one id x j) (sym e) f) p))
  ];
})

pub clauses-start : (im : List Literal) (s : List (Option (List Literal))) (front : List ℕ) (made : List (List Literal)) → front ≡ [] → made ≡ [] → AreImageClauses im s front made
clauses-start im s front made e g = rw (e, g) (record {
  made = λ x d i f. absurd (Contains-none x i);
  only = λ d i. absurd (Contains-none d i);
  normal = All-from_contained (λ d. IsTrue (rises 0 d)) [] (λ d i. absurd (Contains-none d i));
  few = omega arith;
  fewer = λ x d i f p. absurd (Contains-none x i);
})

pub front-more : (ids : List ℕ) (n d : ℕ) → n < length ids → take (n + 1) ids ≡ take n ids ++ get_or ids n d ∷ []
front-more ids n d l = let m : n + 1 ≡ suc n = omega arith in rw m (take-suc ids n d l)

pub whole-made : (f : Literal → Literal) (c m : List Literal) (n : ℕ) → length c ≤ n → m ≡ map f (take n c) → m ≡ map f c
whole-made f c m n l e = e ∙ ap (map f) (take_all n c l)

-- images of the literals of a store's clause have variables
pub clause-known : (h : Held) (im : List Literal) (id : ℕ) (c : List Literal) → IsStore h → StaysKnown h.vars im → Some c ≡ clause_of h.slots id → All (λ l. 1 ≤ (image_in im l).variable) c
clause-known h im id c s known e =
    let all = All-contains (All (IsUpTo h.vars)) (live_clauses h.slots) c s.labelled.hard_within (live-at h.slots id c (sym e)) in
    All-from_contained (λ l. 1 ≤ (image_in im l).variable) c (λ l i. (known l (All-contains (IsUpTo h.vars) c l all i)).0)

-- one id more, whatever becomes of its clause
pub clauses-next : (im : List Literal) (s : List (Option (List Literal))) (ids : List ℕ) (n d : ℕ) (c : List Literal) (o : Option (List Literal)) (made made' : List (List Literal)) → n < length ids → Some c ≡ clause_of s (get_or ids n d) → MatchOption o (HasOpposites (image_in im) c) (λ d. IsImageClause (image_in im) c d) → made' ≡ made ++ option_to_list o → AreImageClauses im s (take n ids) made → AreImageClauses im s (take (n + 1) ids) made'
clauses-next im s ids n d c None made made' l e h g k = rw (front-more ids n d l) (subst (AreImageClauses im s (take n ids ++ get_or ids n d ∷ [])) (sym (g ∙ append-nil made)) (clauses-dropped im s (take n ids) (get_or ids n d) c made e h k))
clauses-next im s ids n d c (Some b) made made' l e h g k = rw (front-more ids n d l) (clauses-made im s (take n ids) (get_or ids n d) c b made made' e h g k)
