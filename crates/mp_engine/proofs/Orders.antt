-- Being smaller is an order.
use Rattle.std.proofs.Common.{◌≡◌, ℕ, List, [], ◌∷◌, Bool, true, false, ◌||◌, length, ◌==◌, refl, sym, ◌∙◌, subst, inl, inr, arith}
use Rattle.std.specs.Prelude.{Contains}
use Rattle.mp_logic.specs.Literal.{Literal}
use Rattle.mp_clauses.proofs.Found.{any-by}
use Rattle.std.proofs.lemmas.Bool.{true≢false}
use Rattle.mp_logic.specs.Keeping.{State}
use Rattle.mp_clauses.specs.Slots.{has_empty}
use Rattle.mp_store.specs.Measures.{measures, IsLower, IsSmaller}
use Rattle.mp_engine.specs.Stages.{IsRefuted}
use Rattle.mp_engine.specs.Stores.{Moves}

lower_irreflexive : (xs : List ℕ) → IsLower xs xs → ⊥
lower_irreflexive [] h = h
lower_irreflexive (x ∷ xs) h = elim h [ inl l ↦ omega arith | inr p ↦ lower_irreflexive xs p.1 ]

lower_transitive : (xs ys zs : List ℕ) → IsLower xs ys → IsLower ys zs → IsLower xs zs
lower_transitive [] ys zs h k = absurd h
lower_transitive (x ∷ xs) [] zs h k = absurd h
lower_transitive (x ∷ xs) (y ∷ ys) [] h k = absurd k
lower_transitive (x ∷ xs) (y ∷ ys) (z ∷ zs) h k =
    elim h [
      | inl l ↦ elim k [ inl m ↦ inl (omega arith) | inr q ↦ inl (omega (arith, q.0)) ]
      | inr p ↦ elim k [ inl m ↦ inl (omega (arith, p.0)) | inr q ↦ inr (p.0 ∙ q.0, lower_transitive xs ys zs p.1 q.1) ]
    ]

pub smaller_irreflexive : (s t : State) → t ≡ s → IsSmaller t s → ⊥
smaller_irreflexive s t e h = lower_irreflexive (measures s) (subst (λ (x : State). IsSmaller x s) e h)

pub smaller_transitive : (s u t : State) → IsSmaller u s → IsSmaller t u → IsSmaller t s
smaller_transitive s u t h k = lower_transitive (measures t) (measures u) (measures s) k h

pub not_empty : (s : State) → has_empty s.hard ≡ false → Contains s.hard [] → ⊥
not_empty s e m = true≢false (sym (any-by (λ (c : List Literal). length c == 0) s.hard [] m refl) ∙ e)

pub not_both : (s : State) → has_empty s.hard ≡ false → IsRefuted s → ⊥
not_both s e h = true≢false (sym h ∙ e)

-- steps one after the other move as far as both
pub moves_on : (a b : Bool) (s u t : State) → has_empty u.hard ≡ false → Moves a s u → Moves b u t → Moves (a || b) s t
moves_on false false s u t e h k = k ∙ h
moves_on false true s u t e h k = subst (λ (x : State). Moves true x t) h k
moves_on true false s u t e h k = subst (λ (x : State). Moves true s x) (sym k) h
moves_on true true s u t e h k =
    elim h [
      | inl r ↦ absurd (not_both u e r)
      | inr p ↦ elim k [ inl r ↦ inl r | inr q ↦ inr (smaller_transitive s u t p.0 q.0, q.1) ]
    ]
