-- Clauses that stop the walk over the clauses with a literal.
use Rattle.std.proofs.Common.{◌≡◌, ℕ, true, false, cond, List, [], ◌∷◌, refl, sym, ◌∙◌, ap, inl, inr, Contains}
use Rattle.std.specs.Prelude.{Option, Some, is_none, ◌&&◌, not}
use Rattle.std.proofs.lemmas.Bool.{cases_Bool, and_parts, true≢false}
use Rattle.mp_logic.specs.Literal.{Literal, negation}
use Rattle.mp_clauses.specs.Places.{place_of}
use Rattle.mp_clauses.specs.Slots.{clause_of}
use Rattle.mp_clauses.specs.Occurrences.{ids_with, slot_has}
use Rattle.mp_store.specs.Clashing.{slot_clashes, all_clash}
use Rattle.mp_clauses.proofs.Found.{ids_where-at, is_in-contains}
use Rattle.mp_store.proofs.Measured.{all-at}
use Rattle.t_blocked.specs.Stopping.{first_stop}

-- where a clause with the literal does not clash, not all clauses with it do
pub stopped-by : (v : ℕ) (c : List Literal) (slots : List (Option (List Literal))) (l : Literal) (id : ℕ) → (slot_has (place_of l) (clause_of slots id) && not (slot_clashes v c (clause_of slots id))) ≡ true → all_clash v c slots (ids_with (place_of l) slots) ≡ false
stopped-by v c slots l id t =
    let ids = ids_with (place_of l) slots in
    let parts = and_parts (slot_has (place_of l) (clause_of slots id)) (not (slot_clashes v c (clause_of slots id))) t in
    let there : Contains ids id = is_in-contains ids id (ids_where-at (slot_has (place_of l)) slots id refl ∙ parts.0) in
    elim (cases_Bool (all_clash v c slots ids)) [
      | inl all ↦ absurd (true≢false (sym parts.1 ∙ ap not (all-at (λ k. slot_clashes v c (clause_of slots k)) ids id all there)))
      | inr f ↦ f
    ]

-- all clash where none stops the walk over them
first-none : (v : ℕ) (c : List Literal) (slots : List (Option (List Literal))) (ids : List ℕ) → is_none (first_stop v c slots ids) ≡ all_clash v c slots ids
first-none v c slots [] = refl
first-none v c slots (id ∷ ids) =
    elim (slot_clashes v c (clause_of slots id)) as (λ b. is_none (cond (not b) (Some id) (first_stop v c slots ids)) ≡ (b && all_clash v c slots ids)) [ true ↦ first-none v c slots ids | false ↦ refl ]

pub walked : (l : Literal) (c : List Literal) (slots : List (Option (List Literal))) (k : Literal) (v : ℕ) (ids : List ℕ) (found : Option ℕ) → k ≡ negation l → v ≡ l.variable → ids ≡ ids_with (place_of k) slots → found ≡ first_stop v c slots ids
    → is_none found ≡ all_clash l.variable c slots (ids_with (place_of (negation l)) slots)
walked l c slots k v ids found other own all is = ap is_none is ∙ first-none v c slots ids ∙ rw (own, all, other) refl
