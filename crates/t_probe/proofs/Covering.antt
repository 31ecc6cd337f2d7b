-- Whether a pair is covered, by the clauses of its literals.
use Rattle.std.proofs.Common.{◌≡◌, ◌⊎◌, ℕ, Bool, true, false, List, [], ◌∷◌, refl, sym, ◌∙◌, ap, subst, inl, inr, Contains, All}
use Rattle.std.specs.Prelude.{Option, Some, None, ◌==◌, ◌||◌}
use Rattle.std.specs.List.{list_any, list_all}
use Rattle.std.proofs.lemmas.Bool.{false≢true, or_cases, or_left, or_right}
use Rattle.mp_logic.specs.Literal.{Literal}
use Rattle.mp_logic.proofs.Members.{Contains-first, All-from_contained}
use Rattle.mp_clauses.specs.Places.{place_of}
use Rattle.mp_clauses.specs.Slots.{clause_of, is_live, live_clauses}
use Rattle.mp_clauses.specs.Occurrences.{ids_with}
use Rattle.mp_clauses.proofs.Found.{both-ways, any-by, any-found, exact-ids}
use Rattle.mp_store.specs.Held.{Held}
use Rattle.mp_store.specs.Soundness.{IsStore}
use Rattle.mp_store.specs.Measures.{is_covered}
use Rattle.mp_store.proofs.KeptFixing.{live-at, live-id}
use Rattle.mp_store.proofs.Measured.{covered-only}
use Rattle.mp_store.proofs.Runs.{none-empty}
use Rattle.t_probe.specs.Underway.{is_within, slot_within, has_within}

live-some : (s : List (Option (List Literal))) (id : ℕ) (c : List Literal) → clause_of s id ≡ Some c → is_live s id ≡ true
live-some s id c e = rw e refl

pub ids-live : (l : Literal) (s : List (Option (List Literal))) (ids : List ℕ) → ids ≡ ids_with (place_of l) s → All (λ id. is_live s id ≡ true) ids
ids-live l s ids e =
    subst (λ (xs : List ℕ). All (λ id. is_live s id ≡ true) xs) (sym e) (All-from_contained (λ id. is_live s id ≡ true) (ids_with (place_of l) s) (λ id m. let w = ((exact-ids l s).each id).0 m in live-some s id w.0 w.1))

within-some : (a b : Literal) (o : Option (List Literal)) → slot_within a b o ≡ true → (c : List Literal) × (o ≡ Some c) × (is_within a b c ≡ true)
within-some a b None t = absurd (false≢true t)
within-some a b (Some c) t = (c, refl, t)

within-covers : (s : List (Option (List Literal))) (ids : List ℕ) (a b : Literal) → has_within s ids a b ≡ true → is_covered (live_clauses s) a b ≡ true
within-covers s ids a b t =
    let w = any-found (λ id. slot_within a b (clause_of s id)) ids t in
    let c = within-some a b (clause_of s w.0) w.2 in
    any-by (λ c. list_all (λ l. (place_of l == place_of a) || (place_of l == place_of b)) c) (live_clauses s) c.0 (live-at s w.0 c.0 c.1) c.2

has-by-clause : (s : List (Option (List Literal))) (k a b : Literal) (c : List Literal) → Contains (live_clauses s) c → Contains c k → is_within a b c ≡ true → has_within s (ids_with (place_of k) s) a b ≡ true
has-by-clause s k a b c m i t =
    let w = live-id s c m in
    let there = ((exact-ids k s).each w.0).1 (c, w.1, i) in
    any-by (λ id. slot_within a b (clause_of s id)) (ids_with (place_of k) s) w.0 there (rw w.1 t)

abbrev by_first : List (Option (List Literal)) → Literal → Literal → Bool
by_first s a b = has_within s (ids_with (place_of a) s) a b

abbrev by_second : List (Option (List Literal)) → Literal → Literal → Bool
by_second s a b = has_within s (ids_with (place_of b) s) a b

covers-within : (s : List (Option (List Literal))) (a b : Literal) → (Contains (live_clauses s) [] → ⊥) → is_covered (live_clauses s) a b ≡ true → (by_first s a b || by_second s a b) ≡ true
covers-within s a b none t =
    let w = any-found (λ c. list_all (λ l. (place_of l == place_of a) || (place_of l == place_of b)) c) (live_clauses s) t in
    let by : (c : List Literal) → Contains (live_clauses s) c → is_within a b c ≡ true → (by_first s a b || by_second s a b) ≡ true =
    λ (c : List Literal). elim c as (λ c. Contains (live_clauses s) c → is_within a b c ≡ true → (by_first s a b || by_second s a b) ≡ true) [
      | [] ↦ λ m e. absurd (none m)
      | k ∷ ks ↦ λ m e. elim (covered-only a b (k ∷ ks) e k (Contains-first k ks)) [
        | inl f ↦ or_left (by_first s a b) (by_second s a b) (has-by-clause s a a b (k ∷ ks) m (subst (Contains (k ∷ ks)) f (Contains-first k ks)) e)
        | inr f ↦ or_right (by_first s a b) (by_second s a b) (has-by-clause s b a b (k ∷ ks) m (subst (Contains (k ∷ ks)) f (Contains-first k ks)) e)
      ]
    ] in
    by w.0 w.1 w.2

covered-exact : (h : Held) (a b : Literal) → IsStore h → h.refuted ≡ false → (by_first h.slots a b || by_second h.slots a b) ≡ is_covered (live_clauses h.slots) a b
covered-exact h a b s n =
    both-ways (by_first h.slots a b || by_second h.slots a b) (is_covered (live_clauses h.slots) a b)
    (λ t. elim (or_cases (by_first h.slots a b) (by_second h.slots a b) t) [ inl x ↦ within-covers h.slots (ids_with (place_of a) h.slots) a b x | inr x ↦ within-covers h.slots (ids_with (place_of b) h.slots) a b x ])
    (covers-within h.slots a b (none-empty h s n))

pub covered-then : (h : Held) (a b : Literal) (ids : List ℕ) (x : Bool) → x ≡ has_within h.slots ids a b → x ≡ true → x ≡ is_covered (live_clauses h.slots) a b
covered-then h a b ids x e t = t ∙ sym (within-covers h.slots ids a b (sym e ∙ t))

pub covered-else : (h : Held) (a b : Literal) (ids jds : List ℕ) (x y : Bool) → IsStore h → h.refuted ≡ false → ids ≡ ids_with (place_of a) h.slots → jds ≡ ids_with (place_of b) h.slots → x ≡ has_within h.slots ids a b → x ≡ false → y ≡ has_within h.slots jds a b → y ≡ is_covered (live_clauses h.slots) a b
covered-else h a b ids jds x y s n f g e t k =
    let first : by_first h.slots a b ≡ false = ap (λ (xs : List ℕ). has_within h.slots xs a b) (sym f) ∙ (sym e ∙ t) in
    let second : y ≡ by_second h.slots a b = k ∙ ap (λ (xs : List ℕ). has_within h.slots xs a b) g in
    second ∙ (ap (λ z. z || by_second h.slots a b) (sym first) ∙ covered-exact h a b s n)
