-- Which unit clauses wait, and what is left where none does.
use Rattle.std.proofs.Common.{◌≡◌, ◌⊎◌, ℕ, ◌+◌, ◌<◌, ◌≤◌, true, false, List, [], ◌∷◌, ◌++◌, length, refl, sym, ◌∙◌, ap, subst, arith, inl, inr, Contains}
use Rattle.std.specs.Prelude.{Option, Some, None, ◌==◌, map}
use Rattle.std.specs.List.Sorted.{IsPermutation}
use Rattle.std.proofs.lemmas.Bool.{cases_lt, cases_Bool, or_left, true≢false}
use Rattle.std.proofs.lemmas.List.{length-append, get_or_append_left}
use Rattle.std.proofs.lemmas.List.Sorted.{Contains-permutation, IsPermutation-map}
use Rattle.mp_logic.specs.Literal.{Literal}
use Rattle.mp_logic.specs.EndStates.{NoUnits}
use Rattle.mp_logic.specs.Sets.{Among}
use Rattle.mp_logic.proofs.Members.{Contains-none, Contains-first, Contains-later, Contains-cases, All-from_contained}
use Rattle.mp_clauses.specs.Places.{is_in}
use Rattle.mp_store.specs.Held.{Held}
use Rattle.mp_clauses.specs.Slots.{clause_of, live_clauses}
use Rattle.mp_clauses.specs.Slots.{cleared}
use Rattle.mp_store.specs.Soundness.{IsStore}
use Rattle.mp_store.specs.Fixing.{meets, clashes, slot_touched, touched_by, shortened}
use Rattle.mp_clauses.proofs.Found.{any-by, ids_where-at}
use Rattle.mp_store.proofs.KeptFixing.{live-id, live-at, cleared-out, cleared-other, one-meets, new-slots}
use Rattle.mp_store.proofs.Replaced.{length-cleared}
use Rattle.t_units.specs.Waiting.{AreWaiting, AreAllWaiting, OthersAreWaiting, IsNoUnit, HasNoUnit}

-- the units that wait after a step
pub step-waiting : (h : Held) (l : Literal) (seen : ℕ) (waiting : List ℕ) → seen ≤ length h.slots → OthersAreWaiting l h.slots waiting → AreWaiting (new-slots l h) seen waiting
step-waiting h l seen waiting w o id k b e =
    let ids = touched_by (l ∷ []) h.slots in
    let long : id < length (cleared ids h.slots) = omega (arith, length-cleared ids h.slots) in
    let first : clause_of (cleared ids h.slots) id ≡ Some (k ∷ []) = sym (get_or_append_left (cleared ids h.slots) (map Some (shortened (l ∷ []) h.slots)) None id long) ∙ e in
    elim (cases_Bool (is_in id ids)) [
      | inl t ↦ let n = cleared-out ids h.slots id t in absurd (cc)
      | inr f ↦
          let was : clause_of h.slots id ≡ Some (k ∷ []) = sym (cleared-other ids h.slots id f) ∙ first in
          elim (o id k was) [
            | inl i ↦ i
            | inr g ↦
                let test : slot_touched (l ∷ []) (clause_of h.slots id) ≡ true = rw was (or_left (meets (l ∷ []) (k ∷ [])) (clashes (l ∷ []) (k ∷ [])) (one-meets l (k ∷ []) (subst (Contains (k ∷ [])) g (Contains-first k [])))) in
                absurd (true≢false (sym (ids_where-at (slot_touched (l ∷ [])) h.slots id refl ∙ test) ∙ f))
          ]
    ]

pub step-length : (h : Held) (l : Literal) → length h.slots ≤ length (new-slots l h)
step-length h l = omega (arith, length-cleared (touched_by (l ∷ []) h.slots) h.slots, length-append (cleared (touched_by (l ∷ []) h.slots) h.slots) (map Some (shortened (l ∷ []) h.slots)))

-- the end state
two-long : (c : List Literal) → (length c == 0) ≡ false → ((l : Literal) → c ≡ l ∷ [] → ⊥) → 2 ≤ length c
two-long [] e h = absurd (true≢false e)
two-long (k ∷ []) e h = absurd (h k refl)
two-long (k ∷ (j ∷ c)) e h = omega arith

pub no-units : (h : Held) → IsStore h → h.refuted ≡ false → HasNoUnit h.slots → NoUnits (live_clauses h.slots)
no-units h s u n = All-from_contained (λ c. 2 ≤ length c) (live_clauses h.slots) (λ c m.
    let full : (length c == 0) ≡ false = elim (cases_Bool (length c == 0)) [ inl t ↦ absurd (true≢false (sym (s.refuted ∙ any-by (λ (d : List Literal). length d == 0) (live_clauses h.slots) c m t) ∙ u)) | inr f ↦ f ] in
    let w = live-id h.slots c m in
    two-long c full (λ l e. n w.0 l (w.1 ∙ ap (λ x. Some x) e)))

-- looking at one id more
pub found-more : (slots : List (Option (List Literal))) (id : ℕ) (old new : List ℕ) → AreWaiting slots id old → IsNoUnit (clause_of slots id) ⊎ Contains new id → Among old new → AreWaiting slots (id + 1) new
found-more slots id old new w own rest x l b e =
    elim (cases_lt x id) [
      | inl a ↦ rest x (w x l a e)
      | inr a ↦
          let same : x ≡ id = omega arith in
          elim own [ inl o ↦ absurd (o l (subst (λ k. clause_of slots k ≡ Some (l ∷ [])) same e)) | inr i ↦ subst (Contains new) (sym same) i ]
    ]

-- taking one id out
pub taken-unit : (slots : List (Option (List Literal))) (id : ℕ) (l : Literal) (old new : List ℕ) → AreAllWaiting slots old → ((x : ℕ) → Contains old x → (x ≡ id) ⊎ Contains new x) → clause_of slots id ≡ Some (l ∷ []) → Contains (live_clauses slots) (l ∷ []) × OthersAreWaiting l slots new
taken-unit slots id l old new w t e = (
  live-at slots id (l ∷ []) e,
  λ x k f. elim (t x (w x k f)) [
    | inl g ↦ let same : clause_of slots id ≡ Some (k ∷ []) = subst (λ j. clause_of slots j ≡ Some (k ∷ [])) g f in let heads : Some (k ∷ []) ≡ Some (l ∷ []) = sym same ∙ e in inr (cc)
    | inr i ↦ inl i
  ],
)

pub taken-other : (slots : List (Option (List Literal))) (id : ℕ) (old new : List ℕ) → AreAllWaiting slots old → ((x : ℕ) → Contains old x → (x ≡ id) ⊎ Contains new x) → IsNoUnit (clause_of slots id) → AreAllWaiting slots new
taken-other slots id old new w t n x l e = elim (t x (w x l e)) [ inl g ↦ absurd (n l (subst (λ j. clause_of slots j ≡ Some (l ∷ [])) g e)) | inr i ↦ i ]

pub none-left : (slots : List (Option (List Literal))) (old : List ℕ) → AreAllWaiting slots old → old ≡ [] → HasNoUnit slots
none-left slots old w e id l f = Contains-none id (subst (λ (q : List ℕ). Contains q id) e (w id l f))

-- what a push and a pop leave, by the numbers alone
pub pushed-has : {X : Type 0} (f : X → ℕ) (x : X) (old new : List X) → IsPermutation (x ∷ old) new → Contains (map f new) (f x)
pushed-has f x old new p = Contains-permutation (map f (x ∷ old)) (map f new) (f x) (IsPermutation-map f (x ∷ old) new p) (Contains-first (f x) (map f old))

pub pushed-rest : {X : Type 0} (f : X → ℕ) (x : X) (old new : List X) → IsPermutation (x ∷ old) new → Among (map f old) (map f new)
pushed-rest f x old new p y m = Contains-permutation (map f (x ∷ old)) (map f new) y (IsPermutation-map f (x ∷ old) new p) (Contains-later (f x) (map f old) y m)

pub popped : {X : Type 0} (f : X → ℕ) (x : X) (old new : List X) → IsPermutation old (x ∷ new) → (y : ℕ) → Contains (map f old) y → (y ≡ f x) ⊎ Contains (map f new) y
popped f x old new p y m = Contains-cases (f x) (map f new) y (Contains-permutation (map f old) (map f (x ∷ new)) y (IsPermutation-map f old (x ∷ new) p) m)
