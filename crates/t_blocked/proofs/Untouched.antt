-- Clauses that need no look.
use Rattle.std.proofs.Common.{◌≡◌, ◌⊎◌, ℕ, ◌+◌, ◌≤◌, Bool, true, false, not, List, length, sym, ◌∙◌, ap, subst, arith, inl, inr, Contains}
use Rattle.std.specs.Prelude.{Option}
use Rattle.std.proofs.lemmas.Bool.{cases_Bool, cases_eq, true≢false}
use Rattle.mp_logic.specs.Literal.{Literal, negation}
use Rattle.mp_clauses.specs.Places.{place_of}
use Rattle.mp_clauses.specs.Tables.{marked}
use Rattle.mp_store.specs.Held.{Held}
use Rattle.mp_store.specs.Soundness.{IsStore}
use Rattle.mp_store.proofs.KeptFixing.{live-at}
use Rattle.mp_turns.specs.Turned.{IsTurn}
use Rattle.mp_turns.specs.declared.turn.Turned.TheVariants.{Changed}
use Rattle.mp_resting.specs.declared.seen.Seen.{Seen}
use Rattle.mp_resting.specs.Resting.{is_touched, IsRestedBy}
use Rattle.mp_resting.proofs.Touching.{untouched-old}
use Rattle.t_blocked.specs.BlockedClauses.{blocking}
use Rattle.t_blocked.specs.Untouched.{AreTouched, AreIdle}
use Rattle.t_blocked.proofs.Dropped.{not-blocks, literal-within}
use Rattle.t_blocked.proofs.Passed.{kept-unblocked}

-- the negation of the literal has kept its clauses, or those with the literal are touched
abbrev pub IsCovered : Literal → List Bool → List Bool → List (Option (List Literal)) → Type 0
IsCovered l kept touched slots = (marked kept (place_of (negation l)) ≡ true) ⊎ AreTouched l touched slots

covered-on : (l : Literal) (kept old new : List Bool) (slots : List (Option (List Literal))) → ((id : ℕ) → is_touched old id ≡ true → is_touched new id ≡ true) → IsCovered l kept old slots → IsCovered l kept new slots
covered-on l kept old new slots stays h = elim h [ inl k ↦ inl k | inr t ↦ inr (λ id c e m. stays id (t id c e m)) ]

literal-is : (k l : Literal) → k.variable ≡ l.variable → k.negative ≡ l.negative → k ≡ l
literal-is k l e f =
    let first : k ≡ record { variable = l.variable; negative = k.negative } = ap (λ (x : ℕ). record { variable = x; negative = k.negative }) e in
    first ∙ ap (λ (x : Bool). record { variable = l.variable; negative = x }) f

covered-own : (l n : Literal) (kept touched : List Bool) (slots : List (Option (List Literal))) → n ≡ negation l → (marked kept (place_of n) ≡ true) ⊎ AreTouched l touched slots → IsCovered l kept touched slots
covered-own l n kept touched slots e h = subst (λ x. (marked kept (place_of x) ≡ true) ⊎ AreTouched l touched slots) e h

-- both literals of one variable more
pub covered-more : (v : ℕ) (p n : Literal) (kept old middle new : List Bool) (slots : List (Option (List Literal))) → p.variable ≡ v + 1 → n.variable ≡ v + 1 → p.negative ≡ false → n.negative ≡ true
    → ((id : ℕ) → is_touched old id ≡ true → is_touched middle id ≡ true) → ((id : ℕ) → is_touched middle id ≡ true → is_touched new id ≡ true)
    → (marked kept (place_of n) ≡ true) ⊎ AreTouched p middle slots → (marked kept (place_of p) ≡ true) ⊎ AreTouched n new slots
    → ((l : Literal) → 1 ≤ l.variable → l.variable ≤ v → IsCovered l kept old slots) → (l : Literal) → 1 ≤ l.variable → l.variable ≤ v + 1 → IsCovered l kept new slots
covered-more v p n kept old middle new slots pv nv ps ns first second own-p own-n before l low high =
    elim (cases_eq l.variable (v + 1)) [
      | inl e ↦ elim (cases_Bool l.negative) [
        | inl t ↦
            let same : l ≡ n = literal-is l n (e ∙ sym nv) (t ∙ sym ns) in
            subst (λ x. IsCovered x kept new slots) (sym same) (covered-own n p kept new slots (literal-is p (negation n) (pv ∙ sym nv) (ps ∙ ap not (sym ns))) own-n)
        | inr f ↦
            let same : l ≡ p = literal-is l p (e ∙ sym pv) (f ∙ sym ps) in
            subst (λ x. IsCovered x kept new slots) (sym same) (covered-on p kept middle new slots second (covered-own p n kept middle slots (literal-is n (negation p) (nv ∙ sym pv) (ns ∙ ap not (sym ps))) own-p))
      ]
      | inr other ↦ covered-on l kept middle new slots second (covered-on l kept old middle slots first (before l low (omega (arith, high, other))))
    ]

-- a clause all of whose literals are covered is idle where it is not touched
pub covered-idle : (seen : Seen) (kept touched : List Bool) (h : Held) → IsStore h → IsRestedBy blocking.IsIdle seen kept h → length touched ≡ seen.mark → ((l : Literal) → 1 ≤ l.variable → l.variable ≤ h.vars → IsCovered l kept touched h.slots) → AreIdle touched h
covered-idle seen kept touched h s rested len covered id f c e =
    let m = live-at h.slots id c e in
    let lt = untouched-old touched id f in
    not-blocks h c s m (λ l own.
    let w = literal-within h c l s m own in
    elim (covered l w.0 w.1) [
      | inl k ↦ kept-unblocked seen kept h id l rested (omega (arith, lt, len)) k c e own
      | inr t ↦ absurd (true≢false (sym (t id c e own) ∙ f))
    ])

-- once a clause is dropped, and those near it are touched
pub dropped-idle : (id : ℕ) (old new : Held) (touched more : List Bool) (near : List ℕ) → new.refuted ≡ false → AreIdle touched old → ((i : ℕ) → is_touched touched i ≡ true → is_touched more i ≡ true) → ((i : ℕ) → Contains near i → is_touched more i ≡ true) → IsTurn blocking id old new near Changed → AreIdle more new
dropped-idle id old new touched more near n idle stays own turned i f =
    elim turned [
      | inl r ↦ absurd (true≢false (sym r ∙ n))
      | inr change ↦ elim (cases_Bool (is_touched touched i)) [
        | inl t ↦ absurd (true≢false (sym (stays i t) ∙ f))
        | inr g ↦ elim (change.kept i (idle i g)) [ inl m ↦ absurd (true≢false (sym (own i m) ∙ f)) | inr k ↦ k ]
      ]
    ]
