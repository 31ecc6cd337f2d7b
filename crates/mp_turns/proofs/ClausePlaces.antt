-- Clauses by id and by place.
use Rattle.std.proofs.Common.{◌≡◌, ◌≢◌, ◌⊎◌, ℕ, ◌+◌, ◌<◌, true, false, List, [], ◌∷◌, ◌++◌, length, take, get_or, zero, suc, refl, sym, ◌∙◌, ap, subst, arith, inl, inr, Contains, length-append}
use Rattle.std.specs.Prelude.{Option, Some, None, is_some}
use Rattle.std.specs.List.{slice_get}
use Rattle.std.proofs.lemmas.Bool.{cases_Bool, true≢false}
use Rattle.std.proofs.lemmas.List.{get_or_append_left}
use Rattle.std.proofs.lemmas.List.Elements.{Contains-get_or}
use Rattle.mp_logic.specs.Literal.{Literal}
use Rattle.mp_logic.proofs.Members.{Contains-none, Contains-cases}
use Rattle.mp_logic.specs.Keeping.{State}
use Rattle.mp_clauses.specs.Places.{is_in, no_repeats}
use Rattle.mp_store.specs.Held.{Held, labelled_of}
use Rattle.mp_clauses.specs.Slots.{clause_of, live_clauses}
use Rattle.mp_clauses.specs.Occurrences.{ids_where}
use Rattle.mp_clauses.proofs.Found.{is_in-contains, ids_where-at, ids_where-once}
use Rattle.std.specs.List.{range_with_len}
use Rattle.std.proofs.lemmas.List.FromFn.{length-range_with_len, get_or-range_with_len}
use Rattle.mp_store.specs.Techniques.{Technique, HasIdle}
use Rattle.mp_turns.specs.Counting.{HasMany}
use Rattle.mp_turns.specs.Clauses.{live_ids, clause_places}

pub live-counted : (i : ℕ) (s : List (Option (List Literal))) → length (ids_where is_some i s) ≡ length (live_clauses s)
live-counted i [] = refl
live-counted i (None ∷ s) = live-counted (i + 1) s
live-counted i (Some c ∷ s) = ap suc (live-counted (i + 1) s)

pub live-once : (s : List (Option (List Literal))) → no_repeats (live_ids s) ≡ true
live-once s = ids_where-once is_some 0 s

pub none-of : (x : Option (List Literal)) → is_some x ≡ false → x ≡ None
none-of None e = refl
none-of (Some c) e = absurd (true≢false e)

-- an id is live or has no clause
pub live-others : (s : List (Option (List Literal))) (id : ℕ) → Contains (live_ids s) id ⊎ (clause_of s id ≡ None)
live-others s id = elim (cases_Bool (is_some (clause_of s id))) [ inl t ↦ inl (is_in-contains (live_ids s) id (ids_where-at is_some s id refl ∙ t)) | inr f ↦ inr (none-of (clause_of s id) f) ]

-- the place of an id's clause among the live clauses
abbrev pub place_among : List (Option (List Literal)) → ℕ → ℕ
place_among s id = length (live_clauses (take id s))

pub record IsPlaced (s : List (Option (List Literal))) (id k : ℕ) (c : List Literal) : Type 0 where
  pub clause : clause_of s id ≡ Some c
  pub place : slice_get (live_clauses s) k ≡ Some c
  pub among : place_among s id ≡ k

placed-none : (s : List (Option (List Literal))) (id k : ℕ) (c : List Literal) → IsPlaced s id k c → IsPlaced (None ∷ s) (suc id) k c
placed-none s id k c p = record { clause = p.clause; place = p.place; among = p.among }

placed-some : (s : List (Option (List Literal))) (d : List Literal) (id k : ℕ) (c : List Literal) → IsPlaced s id k c → IsPlaced (Some d ∷ s) (suc id) (suc k) c
placed-some s d id k c p = record { clause = p.clause; place = p.place; among = ap suc p.among }

pub placed-at : (s : List (Option (List Literal))) (k : ℕ) (c : List Literal) → slice_get (live_clauses s) k ≡ Some c → (id : ℕ) × IsPlaced s id k c
placed-at [] k c h = absurd (cc)
placed-at (None ∷ s) k c h = let w = placed-at s k c h in (suc w.0, placed-none s w.0 k c w.1)
placed-at (Some d ∷ s) zero c h = (zero, record { clause = h; place = h; among = refl })
placed-at (Some d ∷ s) (suc k) c h = let w = placed-at s k c h in (suc w.0, placed-some s d w.0 k c w.1)

-- clauses at two places have two ids
pub places-differ : (s : List (Option (List Literal))) (id j k l : ℕ) (c d : List Literal) → IsPlaced s id k c → IsPlaced s j l d → k ≢ l → id ≢ j
places-differ s id j k l c d p q n e = n (sym p.among ∙ ap (place_among s) e ∙ q.among)

pub placed-id : (i : ℕ) (s : List (Option (List Literal))) (k : ℕ) → k < length (ids_where is_some i s) → (m : ℕ) × (c : List Literal) × (get_or (ids_where is_some i s) k 0 ≡ i + m) × IsPlaced s m k c
placed-id i [] k h = absurd (omega arith)
placed-id i (None ∷ s) k h = let w = placed-id (i + 1) s k h in (suc w.0, w.1, w.2 ∙ (omega arith), placed-none s w.0 k w.1 w.3)
placed-id i (Some d ∷ s) zero h = (zero, d, omega arith, record { clause = refl; place = refl; among = refl })
placed-id i (Some d ∷ s) (suc k) h = let w = placed-id (i + 1) s k (omega arith) in (suc w.0, w.1, w.2 ∙ (omega arith), placed-some s d w.0 k w.1 w.3)

-- the numbers below a number
abbrev downward : ℕ → List ℕ
downward zero = []
downward (suc n) = n ∷ downward n

downward-below : (n i : ℕ) → Contains (downward n) i → i < n
downward-below zero i h = absurd (Contains-none i h)
downward-below (suc n) i h = elim (Contains-cases n (downward n) i h) [ inl e ↦ omega arith | inr r ↦ let b = downward-below n i r in omega arith ]

downward-once : (n : ℕ) → no_repeats (downward n) ≡ true
downward-once zero = refl
downward-once (suc n) =
    let new : is_in n (downward n) ≡ false = elim (cases_Bool (is_in n (downward n))) [ inl t ↦ absurd (let b = downward-below n n (is_in-contains (downward n) n t) in omega arith) | inr f ↦ f ] in
    rw (new, downward-once n) refl

downward-length : (n : ℕ) → length (downward n) ≡ n
downward-length zero = refl
downward-length (suc n) = ap suc (downward-length n)

-- where the first live ids have a property, so many places have what it comes to at a place
pub first-places : (P Q : ℕ → Type 0) (s : List (Option (List Literal))) (first rest : List ℕ) → live_ids s ≡ first ++ rest → ((id : ℕ) → Contains first id → P id) → ((id k : ℕ) (c : List Literal) → IsPlaced s id k c → P id → Q k) → HasMany Q (length first)
first-places P Q s first rest e own to = record {
  numbers = downward (length first);
  once = downward-once (length first);
  many = downward-length (length first);
  each = λ k m.
      let below : k < length first = downward-below (length first) k m in
      let many : length (live_ids s) ≡ length first + length rest = ap (λ (xs : List ℕ). length xs) e ∙ length-append first rest in
      let w = placed-id 0 s k (omega arith) in
      let at : get_or first k 0 ≡ w.0 = sym (get_or_append_left first rest 0 k below) ∙ ap (λ (xs : List ℕ). get_or xs k 0) (sym e) ∙ w.2 ∙ (omega arith) in
      to w.0 k w.1 w.3 (subst P at (own (get_or first k 0) (Contains-get_or first k 0 below)));
}

-- the places of clauses
pub length-places : (s : State) → length (clause_places s) ≡ length s.hard
length-places s = length-range_with_len 0 (length s.hard)

pub live-placed : (h : Held) → length (live_ids h.slots) ≡ length (clause_places (labelled_of h))
live-placed h = live-counted 0 h.slots ∙ sym (length-places (labelled_of h))

in-range : (n k : ℕ) → k < n → Contains (range_with_len 0 n) k
in-range n k lt =
    let at : get_or (range_with_len 0 n) k 0 ≡ k = get_or-range_with_len 0 n k 0 lt ∙ (omega arith) in
    subst (Contains (range_with_len 0 n)) at (Contains-get_or (range_with_len 0 n) k 0 (let many = length-range_with_len 0 n in omega (arith, many)))

slice-below : (xs : List (List Literal)) (k : ℕ) (c : List Literal) → slice_get xs k ≡ Some c → k < length xs
slice-below [] k c h = absurd (cc)
slice-below (x ∷ xs) zero c h = omega arith
slice-below (x ∷ xs) (suc k) c h = let r = slice-below xs k c h in omega arith

-- where the first live ids are idle, so many places are
pub first-idle : (technique : Technique) (h : Held) (P : ℕ → Type 0) (first rest : List ℕ) → technique.candidates (labelled_of h) ≡ clause_places (labelled_of h) → live_ids h.slots ≡ first ++ rest → ((id : ℕ) → Contains first id → P id) → ((id k : ℕ) (c : List Literal) → IsPlaced h.slots id k c → P id → technique.IsIdle (labelled_of h) k) → HasIdle technique (labelled_of h) (length first)
first-idle technique h P first rest places e own to =
    let Q : ℕ → Type 0 = λ k. Contains (clause_places (labelled_of h)) k × technique.IsIdle (labelled_of h) k in
    let w = first-places P Q h.slots first rest e own (λ id k c p i. (in-range (length (live_clauses h.slots)) k (slice-below (live_clauses h.slots) k c p.place), to id k c p i)) in
    let many = w.many in
    record {
      idle = w.numbers;
      many = omega (arith, many);
      once = w.once;
      each = λ k m. let q = w.each k m in (subst (λ xs. Contains xs k) (sym places) q.0, q.1);
    }
