-- Blocked clauses may go.
use Rattle.std.proofs.Common.{◌≡◌, ◌⊎◌, ◌≤◌, Bool, true, false, cond, List, [], ◌∷◌, Contains, refl, ap, sym, ◌∙◌, subst, inl, inr}
use Rattle.mp_logic.specs.Literal.{Literal, negation}
use Rattle.mp_logic.specs.Truth.{clause_value, IsSatisfied}
use Rattle.mp_logic.specs.Repairs.{made_true, repaired}
use Rattle.mp_logic.specs.declared.instances.Repair.{Repair}
use Rattle.mp_logic.proofs.MadeTrue.{literal_value-made_true}
use Rattle.mp_logic.specs.Rewrites.{set_repair}
use Rattle.mp_logic.specs.Blocking.{ClashesBeside, BlockedKeeps, IsNear, UnblockedStays}
use Rattle.mp_logic.proofs.Members.{Contains-none, Contains-first, Contains-later, Contains-cases, Contains-one, satisfied, IsSatisfied-from, witness, true_by, false_in}
use Rattle.mp_logic.proofs.Literals.{cases_contains, negation-negation, negation_true, kept_or_spoilt}
use Rattle.mp_logic.proofs.General.{Spared-set, Entails-among, repairing_keeps}

-- a clause that was true stays so where l is made true, if another literal of it was true where it has the negation of l
blocked_true : (a : List Bool) (l : Literal) (c d : List Literal) → 1 ≤ l.variable → ((k : Literal) → Contains d k → 1 ≤ k.variable) → clause_value a c ≡ false
    → (Contains d (negation l) → ClashesBeside l c d)
    → clause_value a d ≡ true → clause_value (made_true a l) d ≡ true
blocked_true a l c d p vs f h t =
    let w = witness a d t in
    let b = made_true a l in
    elim (kept_or_spoilt a l w.0 p (vs w.0 w.1) w.2) [
      | inl u ↦ true_by b d w.0 w.1 u
      | inr e ↦
          let o = h (subst (λ (k : Literal). Contains d k) e w.1) in
          let u = negation_true a o.0 (false_in a c o.0 f o.1) in
          elim (kept_or_spoilt a l (negation o.0) p (vs (negation o.0) o.3) u) [
            | inl v ↦ true_by b d (negation o.0) o.3 v
            | inr n ↦ absurd (o.2 (sym (negation-negation o.0) ∙ ap negation n ∙ negation-negation l))
          ]
    ]

pub blocked_keeps : BlockedKeeps
blocked_keeps s l c ds vs w own blocked free =
    let from_one = vs.hard c w.own l own in
    let spares = λ (r : Repair) (i : Contains (set_repair l c ∷ []) r). Spared-set s.costs l c from_one free r (Contains-one (set_repair l c) r i) in
    let back : (a : List Bool) → IsSatisfied a ds → IsSatisfied (repaired (set_repair l c ∷ []) a) s.hard = λ a m.
    let b = made_true a l in
    let step : (t : Bool) → clause_value a c ≡ t → IsSatisfied (cond t a b) s.hard =
    λ (t : Bool). elim t as (λ t. clause_value a c ≡ t → IsSatisfied (cond t a b) s.hard) [
      | true ↦ λ e. IsSatisfied-from a s.hard (λ d i. elim (w.only d i) [ inl j ↦ satisfied a ds d m j | inr o ↦ ap (clause_value a) o ∙ e ])
      | false ↦ λ e. IsSatisfied-from b s.hard (λ d i. elim (w.only d i) [
        | inl j ↦ blocked_true a l c d from_one (vs.hard d i) e (blocked d j) (satisfied a ds d m j)
        | inr o ↦ ap (clause_value b) o ∙ true_by b c l own (literal_value-made_true a l from_one)
      ])
    ] in
    step (clause_value a c) refl in
    repairing_keeps s ds (set_repair l c ∷ []) vs spares (Entails-among s.hard ds w.rest) back

near_or_far : (x c : List Literal) → IsNear x c ⊎ ((l : Literal) → Contains c l → Contains x (negation l) → ⊥)
near_or_far x [] = inr (λ l i. absurd (Contains-none l i))
near_or_far x (k ∷ c) =
    elim (cases_contains (negation k) x) [
      | inl i ↦ inl (k, Contains-first k c, i)
      | inr o ↦ elim (near_or_far x c) [
        | inl n ↦ inl (n.0, Contains-later k c n.0 n.1, n.2)
        | inr far ↦ inr (λ l i j. elim (Contains-cases k c l i) [ inl e ↦ o (subst (λ m. Contains x (negation m)) e j) | inr p ↦ far l p j ])
      ]
    ]

pub unblocked_stays : UnblockedStays
unblocked_stays ps x c cs ds w h =
    elim (near_or_far x c) [
      | inl n ↦ inl n
      | inr far ↦ inr (λ l i free.
          let d = h l i free in
          elim (w.only d.0 d.1) [
            | inl j ↦ (d.0, j, d.2, d.3)
            | inr e ↦ absurd (far l i (subst (λ y. Contains y (negation l)) e d.2))
          ])
    ]
