-- The clauses of a label, by their ids.
use Rattle.std.proofs.Common.{◌≡◌, ℕ, ◌+◌, ◌<◌, true, false, cond, List, [], ◌∷◌, length, get_or, suc, refl, ◌∙◌, ap, arith}
use Rattle.std.specs.Prelude.{Option, Some, None}
use Rattle.std.specs.List.{filter}
use Rattle.mp_logic.specs.Literal.{Literal}
use Rattle.mp_clauses.specs.Places.{place_of, has}
use Rattle.mp_clauses.specs.Slots.{clause_of, live_clauses}
use Rattle.mp_clauses.specs.Occurrences.{ids_where, ids_with, slot_has}
use Rattle.mp_store.specs.Held.{Held}
use Rattle.t_labels.specs.Grouping.{clause_in, clauses_at, clauses_with}

clauses-filter : (l : Literal) (all : List (Option (List Literal))) (i : ℕ) (s : List (Option (List Literal))) → ((k : ℕ) → k < length s → clause_of all (i + k) ≡ get_or s k None) → clauses_at all (ids_where (slot_has (place_of l)) i s) ≡ filter (has (place_of l)) (live_clauses s)
clauses-filter l all i [] h = refl
clauses-filter l all i (None ∷ s) h = clauses-filter l all (i + 1) s (λ k q. let n : i + 1 + k ≡ i + suc k = omega arith in ap (clause_of all) n ∙ h (suc k) (omega arith))
clauses-filter l all i (Some c ∷ s) h =
    let rest = clauses-filter l all (i + 1) s (λ k q. let n : i + 1 + k ≡ i + suc k = omega arith in ap (clause_of all) n ∙ h (suc k) (omega arith)) in
    let own : clause_of all i ≡ Some c = (let n : i ≡ i + 0 = omega arith in ap (clause_of all) n ∙ h 0 (omega arith)) in
    let first : clause_in (clause_of all i) ≡ c ∷ [] = ap clause_in own in
    elim (has (place_of l) c) as (λ b. clauses_at all (cond b (i ∷ ids_where (slot_has (place_of l)) (i + 1) s) (ids_where (slot_has (place_of l)) (i + 1) s)) ≡ cond b (c ∷ filter (has (place_of l)) (live_clauses s)) (filter (has (place_of l)) (live_clauses s))) [ true ↦ rw (first, rest) refl | false ↦ rest ]

pub clauses-are : (h : Held) (l : Literal) → clauses_at h.slots (ids_with (place_of l) h.slots) ≡ clauses_with l h
clauses-are h l = clauses-filter l h.slots 0 h.slots (λ k q. let n : 0 + k ≡ k = omega arith in ap (clause_of h.slots) n)
