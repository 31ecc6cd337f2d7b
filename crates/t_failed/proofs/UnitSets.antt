-- The literals of the unit clauses.
use Rattle.std.proofs.Common.{◌≡◌, ◌≢◌, ℕ, ◌+◌, ◌<◌, ◌≤◌, false, List, [], ◌∷◌, ◌++◌, length, refl, sym, ◌∙◌, ap, subst, arith, inl, inr, Contains}
use Rattle.std.specs.Prelude.{Option, Some, None}
use Rattle.std.proofs.lemmas.Bool.{cases_lt}
use Rattle.std.proofs.lemmas.List.{get_or_past}
use Rattle.std.proofs.lemmas.List.Elements.{Contains-append_left, Contains-append_right, Contains-append_cases}
use Rattle.mp_logic.specs.Literal.{Literal}
use Rattle.mp_logic.proofs.Members.{Contains-none, Contains-one, Contains-first}
use Rattle.mp_clauses.specs.Slots.{clause_of, is_live, live_clauses}
use Rattle.mp_store.specs.Held.{Held}
use Rattle.mp_store.proofs.KeptFixing.{live-at, live-id}
use Rattle.t_failed.specs.Partners.{AreUnits}
use Rattle.t_failed.proofs.Searching.{some-same}
use Rattle.t_failed.proofs.Visits.{none-some}

-- of the clauses of ids below a number
pub record AreUnitsBelow (slots : List (Option (List Literal))) (least : ℕ) (lits : List Literal) : Type 0 where
  pub some : (l : Literal) → Contains lits l → Contains (live_clauses slots) (l ∷ [])
  pub all : (id : ℕ) (l : Literal) → id < least → clause_of slots id ≡ Some (l ∷ []) → Contains lits l

pub units-start : (slots : List (Option (List Literal))) (lits : List Literal) → lits ≡ [] → AreUnitsBelow slots 0 lits
units-start slots lits e = record { some = λ l i. absurd (Contains-none l (subst (λ xs. Contains xs l) e i)); all = λ id l less. absurd (omega (arith, less)) }

units-same : (slots : List (Option (List Literal))) (id : ℕ) (lits : List Literal) → ((l : Literal) → clause_of slots id ≡ Some (l ∷ []) → ⊥) → AreUnitsBelow slots id lits → AreUnitsBelow slots (id + 1) lits
units-same slots id lits none b = record {
  some = b.some;
  all = λ j l less f. elim (cases_lt j id) [
    | inl a ↦ b.all j l a f
    | inr a ↦
        let same : j ≡ id = omega arith in
        absurd (none l (sym (ap (clause_of slots) same) ∙ f))
  ];
}

pub units-dead : (slots : List (Option (List Literal))) (id : ℕ) (lits : List Literal) → is_live slots id ≡ false → AreUnitsBelow slots id lits → AreUnitsBelow slots (id + 1) lits
units-dead slots id lits dead b = units-same slots id lits (λ l f. none-some (clause_of slots id) (l ∷ []) dead f) b

pub units-longer : (slots : List (Option (List Literal))) (id : ℕ) (lits c : List Literal) → Some c ≡ clause_of slots id → length c ≢ 1 → AreUnitsBelow slots id lits → AreUnitsBelow slots (id + 1) lits
units-longer slots id lits c r n b = units-same slots id lits (λ l f. n (ap (λ (xs : List Literal). length xs) (some-same c (l ∷ []) (r ∙ f)))) b

one-long : (c : List Literal) (l : Literal) → length c ≡ 1 → Contains c l → c ≡ l ∷ []
one-long [] l h i = absurd (Contains-none l i)
one-long (k ∷ []) l h i = ap (λ x. x ∷ []) (sym (Contains-one k l i))
one-long (k ∷ (j ∷ c)) l h i = absurd (omega arith)

pub units-more : (slots : List (Option (List Literal))) (id : ℕ) (lits new c : List Literal) → Some c ≡ clause_of slots id → length c ≡ 1 → new ≡ lits ++ c → AreUnitsBelow slots id lits → AreUnitsBelow slots (id + 1) new
units-more slots id lits new c r one is b = record {
  some = λ l i. elim (Contains-append_cases lits c l (subst (λ xs. Contains xs l) is i)) [
    | inl old ↦ b.some l old
    | inr own ↦ subst (Contains (live_clauses slots)) (one-long c l one own) (live-at slots id c (sym r))
  ];
  all = λ j l less f. subst (λ xs. Contains xs l) (sym is) (elim (cases_lt j id) [
    | inl a ↦ Contains-append_left lits c l (b.all j l a f)
    | inr a ↦
        let same : j ≡ id = omega arith in
        let own : c ≡ l ∷ [] = some-same c (l ∷ []) (r ∙ (sym (ap (clause_of slots) same) ∙ f)) in
        Contains-append_right lits c l (subst (λ xs. Contains xs l) (sym own) (Contains-first l []))
  ]);
}

pub units-done : (h : Held) (id : ℕ) (lits set : List Literal) → length h.slots ≤ id → set ≡ lits → AreUnitsBelow h.slots id lits → AreUnits h set
units-done h id lits set past e b = record {
  some = λ l i. b.some l (subst (λ xs. Contains xs l) e i);
  all = λ l m.
      let w = live-id h.slots (l ∷ []) m in
      subst (λ xs. Contains xs l) (sym e) (elim (cases_lt w.0 id) [
        | inl a ↦ b.all w.0 l a w.1
        | inr a ↦ absurd (let z : clause_of h.slots w.0 ≡ None = get_or_past h.slots w.0 None (omega (arith, past, a)) in none-some (clause_of h.slots w.0) (l ∷ []) (rw z refl) w.1)
      ]);
}
