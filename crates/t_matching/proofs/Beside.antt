-- Which labels stand beside two literals.
use Rattle.std.proofs.Common.{◌≡◌, ◌≢◌, ℕ, true, false, List, [], ◌∷◌, ◌++◌, sym, ◌∙◌, ap, subst, inl, inr, Contains}
use Rattle.std.specs.Prelude.{Option, Some}
use Rattle.std.specs.List.Sorted.{IsStrictlyIncreasing}
use Rattle.std.proofs.lemmas.Bool.{cases_Bool, ne_eqb}
use Rattle.std.proofs.lemmas.List.Elements.{Contains-append_left, Contains-append_right}
use Rattle.mp_logic.specs.Literal.{Literal, negation}
use Rattle.mp_logic.proofs.Members.{Contains-none, Contains-first, Contains-cases}
use Rattle.mp_logic.proofs.Literals.{negation-negation, same_or_negation}
use Rattle.mp_clauses.specs.Places.{place_of, is_in}
use Rattle.mp_clauses.specs.Slots.{clause_of, live_clauses}
use Rattle.mp_clauses.specs.Weighing.{weight_in}
use Rattle.mp_clauses.specs.Occurrences.{ids_with}
use Rattle.mp_clauses.proofs.Found.{is_in-by, is_in-contains}
use Rattle.mp_store.specs.Held.{Held}
use Rattle.mp_store.proofs.KeptFixing.{live-id}
use Rattle.t_matching.specs.Labels.{cost_place, places_on, slot_places, places_at}
use Rattle.t_matching.specs.Cores.{AreNear}
use Rattle.t_matching.proofs.Labels.{id-in}

own-place : (w : List ℕ) (a : Literal) → weight_in w a ≢ 0 → Contains (cost_place w a) (place_of a)
own-place w a n = rw (ne_eqb (weight_in w a) 0 n) (Contains-first (place_of a) [])

-- a label on the variable of a literal of the clause
places-own : (w : List ℕ) (c : List Literal) (k a : Literal) → Contains c k → k.variable ≡ a.variable → weight_in w a ≢ 0 → Contains (places_on w c) (place_of a)
places-own w [] k a i e n = absurd (Contains-none k i)
places-own w (x ∷ c) k a i e n =
    elim (Contains-cases x c k i) [
      | inl f ↦ Contains-append_left (cost_place w x ++ cost_place w (negation x)) (places_on w c) (place_of a) (elim (same_or_negation k a e) [
        | inl g ↦ Contains-append_left (cost_place w x) (cost_place w (negation x)) (place_of a) (subst (λ (y : Literal). Contains (cost_place w y) (place_of a)) (sym g ∙ f) (own-place w a n))
        | inr g ↦ Contains-append_right (cost_place w x) (cost_place w (negation x)) (place_of a) (subst (λ (y : Literal). Contains (cost_place w y) (place_of a)) (sym (negation-negation a) ∙ ap negation (sym g ∙ f)) (own-place w a n))
      ])
      | inr r ↦ Contains-append_right (cost_place w x ++ cost_place w (negation x)) (places_on w c) (place_of a) (places-own w c k a r e n)
    ]

places-has : (w : List ℕ) (s : List (Option (List Literal))) (ids : List ℕ) (id : ℕ) (c : List Literal) (p : ℕ) → Contains ids id → clause_of s id ≡ Some c → Contains (places_on w c) p → Contains (places_at w s ids) p
places-has w s [] id c p i e j = absurd (Contains-none id i)
places-has w s (x ∷ ids) id c p i e j =
    elim (Contains-cases x ids id i) [
      | inl f ↦
          let own : slot_places w (clause_of s x) ≡ places_on w c = ap (λ k. slot_places w (clause_of s k)) (sym f) ∙ ap (slot_places w) e in
          Contains-append_left (slot_places w (clause_of s x)) (places_at w s ids) p (rw own j)
      | inr r ↦ Contains-append_right (slot_places w (clause_of s x)) (places_at w s ids) p (places-has w s ids id c p r e j)
    ]

pub near-by : (l m : Literal) (h : Held) (near : List ℕ) → IsStrictlyIncreasing near → ((p : ℕ) → Contains (places_at h.weights h.slots (ids_with (place_of l) h.slots) ++ places_at h.weights h.slots (ids_with (place_of m) h.slots)) p → Contains near p) → AreNear l m h near
near-by l m h near up all =
    let at_l = places_at h.weights h.slots (ids_with (place_of l) h.slots) in
    let at_m = places_at h.weights h.slots (ids_with (place_of m) h.slots) in
    let beside : (x : Literal) (c : List Literal) (k a : Literal) → Contains (live_clauses h.slots) c → Contains c x → Contains c k → k.variable ≡ a.variable → weight_in h.weights a ≢ 0 → Contains (places_at h.weights h.slots (ids_with (place_of x) h.slots)) (place_of a) = λ x c k a i j q e n.
    (let w = live-id h.slots c i in places-has h.weights h.slots (ids_with (place_of x) h.slots) w.0 c (place_of a) (id-in x h.slots w.0 c w.1 j) w.1 (places-own h.weights c k a q e n)) in
    record {
      rising = up;
      each = λ a n. elim (cases_Bool (is_in (place_of a) near)) [
        | inl t ↦ inl (is_in-contains near (place_of a) t)
        | inr f ↦
            let out : Contains near (place_of a) → ⊥ = λ i. absurd (let t : true ≡ false = sym (is_in-by near (place_of a) i) ∙ f in cc) in
            inr (λ c i own k j e. out (all (place_of a) (elim own [
              | inl p ↦ Contains-append_left at_l at_m (place_of a) (beside l c k a i p j e n)
              | inr p ↦ Contains-append_right at_l at_m (place_of a) (beside m c k a i p j e n)
            ])))
      ];
    }
