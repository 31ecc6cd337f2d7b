-- What a variable keeps of an earlier store where no clause with it went or came.
use Rattle.std.proofs.Common.{◌≡◌, ℕ, ◌<◌, ◌≤◌, Bool, true, false, cond, List, [], ◌∷◌, suc, refl, sym, ◌∙◌, ap, subst, inl, inr, Contains}
use Rattle.std.specs.Prelude.{Option, Some, None, is_some}
use Rattle.std.specs.List.{filter}
use Rattle.std.proofs.lemmas.Bool.{cases_Bool, true≢false, false≢true}
use Rattle.mp_logic.specs.Literal.{Literal}
use Rattle.mp_logic.proofs.Literals.{same_or_negation}
use Rattle.mp_clauses.specs.Places.{place_of, has}
use Rattle.mp_clauses.specs.Slots.{clause_of, live_clauses}
use Rattle.mp_clauses.specs.Occurrences.{ids_with}
use Rattle.mp_clauses.proofs.Found.{has-by, has-contains}
use Rattle.mp_store.specs.Held.{Held, labelled_of}
use Rattle.mp_store.specs.Measures.{occurs}
use Rattle.mp_store.proofs.Fixes.{filter-from, filter-has}
use Rattle.mp_store.proofs.Measured.{occurs-by, occurs-found}
use Rattle.mp_resting.specs.declared.seen.Seen.{Seen}
use Rattle.mp_resting.specs.Resting.{IsSeen, HasKept}
use Rattle.t_elim.specs.Eliminating.{positive, negative_of, having, PaysOff, IsIdleVariable}
use Rattle.t_elim.specs.Stayed.{HasStayed}
use Rattle.t_elim.proofs.Gone.{in-list, no-cost}

-- the clauses with a property are the same in two tables by id where each is in both, under one id
nothing-is : (c : List Literal) → None ≡ Some c → ⊥
nothing-is c e = false≢true (ap (λ (o : Option (List Literal)). is_some o) e)

abbrev With : (List Literal → Bool) → List (Option (List Literal)) → List (Option (List Literal)) → Type 0
With p s t = (id : ℕ) (c : List Literal) → p c ≡ true → clause_of s id ≡ Some c → clause_of t id ≡ Some c

fails : (b : Bool) → (b ≡ true → ⊥) → b ≡ false
fails true f = absurd (f refl)
fails false f = refl

without-first : (p : List Literal → Bool) (c : List Literal) (cs : List (List Literal)) → (p c ≡ true → ⊥) → filter p (c ∷ cs) ≡ filter p cs
without-first p c cs f = ap (λ b. cond b (c ∷ filter p cs) (filter p cs)) (fails (p c) f)

same-filtered : (p : List Literal → Bool) (s t : List (Option (List Literal))) → With p s t → With p t s → filter p (live_clauses s) ≡ filter p (live_clauses t)
same-filtered p [] [] f g = refl
same-filtered p [] (None ∷ t) f g = same-filtered p [] t (λ id c y e. absurd (nothing-is c e)) (λ id c y e. g (suc id) c y e)
same-filtered p [] (Some d ∷ t) f g =
    same-filtered p [] t (λ id c y e. absurd (nothing-is c e)) (λ id c y e. g (suc id) c y e) ∙ sym (without-first p d (live_clauses t) (λ y. nothing-is d (g 0 d y refl)))
same-filtered p (None ∷ s) [] f g = same-filtered p s [] (λ id c y e. f (suc id) c y e) (λ id c y e. absurd (nothing-is c e))
same-filtered p (Some c ∷ s) [] f g =
    without-first p c (live_clauses s) (λ y. nothing-is c (f 0 c y refl)) ∙ same-filtered p s [] (λ id c y e. f (suc id) c y e) (λ id c y e. absurd (nothing-is c e))
same-filtered p (None ∷ s) (None ∷ t) f g = same-filtered p s t (λ id c y e. f (suc id) c y e) (λ id c y e. g (suc id) c y e)
same-filtered p (None ∷ s) (Some d ∷ t) f g =
    same-filtered p s t (λ id c y e. f (suc id) c y e) (λ id c y e. g (suc id) c y e) ∙ sym (without-first p d (live_clauses t) (λ y. nothing-is d (g 0 d y refl)))
same-filtered p (Some c ∷ s) (None ∷ t) f g =
    without-first p c (live_clauses s) (λ y. nothing-is c (f 0 c y refl)) ∙ same-filtered p s t (λ id c y e. f (suc id) c y e) (λ id c y e. g (suc id) c y e)
same-filtered p (Some c ∷ s) (Some d ∷ t) f g =
    let rest = same-filtered p s t (λ id c y e. f (suc id) c y e) (λ id c y e. g (suc id) c y e) in
    elim (cases_Bool (p c)) [
      | inl y ↦
          let same : d ≡ c = let e : Some d ≡ Some c = f 0 c y refl in cc in
          subst (λ x. filter p (c ∷ live_clauses s) ≡ filter p (x ∷ live_clauses t)) (sym same) (ap (λ zs. cond (p c) (c ∷ zs) zs) rest)
      | inr n ↦
          let away : p d ≡ true → ⊥ = λ y. let e : Some c ≡ Some d = g 0 d y refl in let same : c ≡ d = cc in true≢false (sym (ap p same ∙ y) ∙ n) in
          without-first p c (live_clauses s) (λ y. true≢false (sym y ∙ n)) ∙ (rest ∙ sym (without-first p d (live_clauses t) away))
    ]

-- a literal that kept its clauses and gained none
pub stayed-by : (l : Literal) (seen : Seen) (before now : Held) → IsSeen seen before now → HasKept before now l → ((id : ℕ) → Contains (ids_with (place_of l) now.slots) id → id < seen.mark) → HasStayed l before now
stayed-by l seen before now s kept low = record {
  free = kept.free;
  clauses = same-filtered (has (place_of l)) now.slots before.slots
      (λ id c y e. s.before_is.ids id c (subst (λ n. id < n) s.mark (low id (in-list l now.slots id c e (has-contains c l y)))) e)
      (λ id c y e. kept.clauses id c e (has-contains c l y));
}

-- a variable whose literals stayed is idle if it was
stayed-occurs : (v : ℕ) (l : Literal) (before now : Held) (c : List Literal) → l.variable ≡ v → HasStayed l before now → Contains (live_clauses now.slots) c → Contains c l → occurs v (live_clauses before.slots) ≡ true
stayed-occurs v l before now c e stayed m i =
    let here : Contains (having l (live_clauses now.slots)) c = filter-has (has (place_of l)) (live_clauses now.slots) c m (has-by c l i) in
    let there = filter-from (has (place_of l)) (live_clauses before.slots) c (subst (λ cs. Contains cs c) stayed.clauses here) in
    occurs-by v (live_clauses before.slots) c l there.0 i e

pub stayed-idle : (v : ℕ) (before now : Held) → HasStayed (positive v) before now → HasStayed (negative_of v) before now → (1 ≤ v → v ≤ before.vars → IsIdleVariable (labelled_of before) v) → IsIdleVariable (labelled_of now) v
stayed-idle v before now p n idle t free pays =
    let o = occurs-found v (live_clauses now.slots) t in
    let was : occurs v (live_clauses before.slots) ≡ true =
    elim (same_or_negation o.literal (positive v) o.variable) [
      | inl e ↦ stayed-occurs v (positive v) before now o.clause refl p o.live (subst (Contains o.clause) e o.has)
      | inr e ↦ stayed-occurs v (negative_of v) before now o.clause refl n o.live (subst (Contains o.clause) e o.has)
    ] in
    let Q : List (List Literal) → Type 0 = λ x. PaysOff v x (having (negative_of v) (live_clauses now.slots)) in
    let R : List (List Literal) → Type 0 = λ x. PaysOff v (having (positive v) (live_clauses before.slots)) x in
    idle p.free.within.0 p.free.within.1 was (no-cost before v p.free.own p.free.turned) (subst R n.clauses (subst Q p.clauses pays))
