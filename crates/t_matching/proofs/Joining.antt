-- How joins are gathered.
use Rattle.std.proofs.Common.{◌≡◌, ◌≢◌, ℕ, ◌+◌, ◌<◌, true, not, List, [], ◌∷◌, ◌++◌, length, get_or, drop, add-one, drop-cons, append_assoc, refl, sym, ◌∙◌, ap, subst, inl, inr, Contains}
use Rattle.std.specs.Prelude.{Option, Some, ◌==◌}
use Rattle.std.proofs.lemmas.Bool.{eq-eqb, ne_eqb, true≢false, not-true}
use Rattle.std.proofs.lemmas.List.{append-nil}
use Rattle.std.proofs.lemmas.List.Elements.{Contains-append_cases, Contains-append_left, Contains-append_right}
use Rattle.mp_logic.specs.Literal.{Literal}
use Rattle.mp_logic.specs.Normal.{literals_rise, SameLiterals}
use Rattle.mp_clauses.specs.Places.{place_of}
use Rattle.mp_clauses.specs.Slots.{clause_of}
use Rattle.mp_clauses.proofs.Pricing.{same-place}
use Rattle.mp_store.proofs.Fixes.{filter-from, filter-has}
use Rattle.t_matching.specs.Joins.{others, clauses_at, IsJoinOf, IsPutUnlessTautology, AreJoinsOf, JoinsFollow}

pub others-from : (m : Literal) (d : List Literal) (k : Literal) → Contains (others m d) k → Contains d k × (k ≢ m)
others-from m d k h =
    let w = filter-from (λ k. not (place_of k == place_of m)) d k h in
    (w.0, λ e. true≢false (sym (eq-eqb (place_of k) (place_of m) (ap place_of e)) ∙ not-true (place_of k == place_of m) w.1))

pub others-has : (m : Literal) (d : List Literal) (k : Literal) → Contains d k → k ≢ m → Contains (others m d) k
others-has m d k h n = filter-has (λ k. not (place_of k == place_of m)) d k h (ap not (ne_eqb (place_of k) (place_of m) (λ e. n (same-place k m e))))

-- the literals in order
pub join-is : (c d : List Literal) (m : Literal) (before made : List Literal) → before ≡ c ++ others m d → literals_rise made ≡ true → SameLiterals before made → IsJoinOf c d m made
join-is c d m before made e up same = record {
  rising = up;
  each = λ k. (
    λ h. elim (Contains-append_cases c (others m d) k (subst (λ (x : List Literal). Contains x k) e ((same k).1 h))) [ inl a ↦ inl a | inr b ↦ inr (others-from m d k b) ],
    λ h. (same k).0 (subst (λ (x : List Literal). Contains x k) (sym e) (elim h [ inl a ↦ Contains-append_left c (others m d) k a | inr b ↦ Contains-append_right c (others m d) k (others-has m d k b.0 b.1) ])),
  );
}

-- some clauses are done, and what is made of the rest makes the whole
abbrev pub JoinsSoFar : List Literal → Literal → List (Option (List Literal)) → List ℕ → ℕ → List (List Literal) → List (List Literal) → Type 0
JoinsSoFar c m slots ids i old now = (more : List (List Literal)) × (now ≡ old ++ more) × ((tail : List (List Literal)) → AreJoinsOf c m (clauses_at slots (drop i ids)) tail → AreJoinsOf c m (clauses_at slots ids) (more ++ tail))

pub joins-none : (c : List Literal) (m : Literal) (slots : List (Option (List Literal))) (ids : List ℕ) (old : List (List Literal)) → JoinsSoFar c m slots ids 0 old old
joins-none c m slots ids old = ([], sym (append-nil old), λ tail h. h)

pub rest-clauses : (slots : List (Option (List Literal))) (ids : List ℕ) (i id : ℕ) (d : List Literal) → i < length ids → id ≡ get_or ids i 0 → Some d ≡ clause_of slots id → clauses_at slots (drop i ids) ≡ d ∷ clauses_at slots (drop (i + 1) ids)
rest-clauses slots ids i id d h e f =
    let front : drop i ids ≡ get_or ids i 0 ∷ drop (i + 1) ids = rw (add-one, drop-cons ids i 0) in
    let own : drop i ids ≡ id ∷ drop (i + 1) ids = front ∙ ap (λ (x : ℕ). x ∷ drop (i + 1) ids) (sym e) in
    rw (own, ← f) refl

pub joins-step : (c : List Literal) (m : Literal) (slots : List (Option (List Literal))) (ids : List ℕ) (i id : ℕ) (d r : List Literal) (old now new : List (List Literal)) → i < length ids → id ≡ get_or ids i 0 → Some d ≡ clause_of slots id
    → IsJoinOf c d m r → IsPutUnlessTautology r now new → JoinsSoFar c m slots ids i old now → JoinsSoFar c m slots ids (i + 1) old new
joins-step c m slots ids i id d r old now new h e f join put s =
    let rest = rest-clauses slots ids i id d h e f in
    elim put [
      | inl t ↦ (s.0, t.1 ∙ s.1, λ tail g. s.2 tail (rw rest (r, join, inl (t.0, g))))
      | inr t ↦ (
        s.0 ++ r ∷ [],
        t.1 ∙ (ap (λ (x : List (List Literal)). x ++ r ∷ []) s.1 ∙ append_assoc old s.0 (r ∷ [])),
        λ tail g. rw (append_assoc s.0 (r ∷ []) tail) (s.2 (r ∷ tail) (rw rest (r, join, inr (t.0, (tail, refl, g))))),
      )
    ]

pub joins-done : (c : List Literal) (m : Literal) (slots : List (Option (List Literal))) (ids : List ℕ) (i : ℕ) (old now : List (List Literal)) → drop i ids ≡ [] → JoinsSoFar c m slots ids i old now → JoinsFollow c m (clauses_at slots ids) old now
joins-done c m slots ids i old now z s =
    let whole = s.2 [] (rw z refl) in
    (s.0, s.1, rw (append-nil s.0) at whole)
