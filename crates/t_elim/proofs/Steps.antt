-- What the steps of a turn come to.
use Rattle.std.proofs.Common.{◌≡◌, ◌↔◌, ℕ, ◌+◌, ◌*◌, ◌≤◌, Bool, true, List, [], ◌∷◌, ◌++◌, map, length, refl, sym, ◌∙◌, ap, subst, inl, inr, Contains, IsTrue}
use Rattle.std.specs.Prelude.{Option, Some, None}
use Rattle.std.specs.List.{filter}
use Rattle.std.specs.List.Sorted.{IsStrictlyIncreasing, IsPermutation}
use Rattle.std.proofs.lemmas.List.Elements.{Contains-append_cases, Contains-append_left, Contains-append_right}
use Rattle.std.proofs.lemmas.List.Kept.{IsStrictlyIncreasing-filter}
use Rattle.std.proofs.lemmas.List.Sorted.{Contains-permutation, IsPermutation-sym}
use Rattle.mp_logic.specs.Literal.{Literal}
use Rattle.mp_logic.specs.Eliminating.{elimination_repairs}
use Rattle.mp_logic.specs.Sets.{IsWithList}
use Rattle.mp_logic.specs.declared.instances.Repair.{Repair}
use Rattle.mp_logic.proofs.Eliminated.{Contains-map}
use Rattle.mp_logic.proofs.Members.{Contains-none, Contains-first, Contains-later, Contains-cases, Contains-one}
use Rattle.mp_store.specs.declared.rewrite.Rewrite.{Rewrite}
use Rattle.mp_clauses.specs.Places.{place_of}
use Rattle.mp_store.specs.Held.{Held}
use Rattle.mp_clauses.specs.Slots.{clause_of, live_clauses}
use Rattle.mp_clauses.specs.Occurrences.{ids_with}
use Rattle.mp_store.specs.Rewriting.{after}
use Rattle.mp_store.specs.Replacing.{IsReplacement}
use Rattle.mp_store.specs.Held.{IsUntouched}
use Rattle.mp_turns.specs.Clauses.{replacing}
use Rattle.mp_store.specs.Soundness.{IsStore}
use Rattle.mp_store.proofs.Fixes.{filter-from, filter-has}
use Rattle.mp_store.proofs.KeptFixing.{live-at, live-id}
use Rattle.t_elim.specs.Resolving.{resolvents_of, slot_clauses, clauses_at, slot_variables, variables_at}
use Rattle.t_elim.specs.Eliminating.{positive, negative_of, having, PaysOff}
use Rattle.t_elim.specs.Resolved.{is_candidate, AreBeside, AreRepairs, Eliminates, AreEliminated, AreNear, IsEliminatedAt}
use Rattle.t_elim.proofs.Counted.{pays-off-by-ids}
use Rattle.t_elim.proofs.Gone.{candidate-is, listed-at, in-list}
use Rattle.t_elim.proofs.KeptElimination.{elimination-fits}

-- the test by ids
pub worth-is : (v : ℕ) (slots : List (Option (List Literal))) (l m : Literal) (xs ys : List ℕ) (b : Bool) → l ≡ positive v → m ≡ negative_of v → xs ≡ ids_with (place_of l) slots → ys ≡ ids_with (place_of m) slots
    → (IsTrue b ↔ (length xs * length ys ≤ 256) × (length (resolvents_of v slots xs ys) ≤ length xs + length ys)) → IsTrue b ↔ PaysOff v (having (positive v) (live_clauses slots)) (having (negative_of v) (live_clauses slots))
worth-is v slots l m xs ys b e f g h w =
    let P : List ℕ = ids_with (place_of (positive v)) slots in
    let N : List ℕ = ids_with (place_of (negative_of v)) slots in
    let a : xs ≡ P = g ∙ ap (λ k. ids_with (place_of k) slots) e in
    let c : ys ≡ N = h ∙ ap (λ k. ids_with (place_of k) slots) f in
    let Q : List ℕ → Type 0 = λ zs. IsTrue b ↔ (length zs * length ys ≤ 256) × (length (resolvents_of v slots zs ys) ≤ length zs + length ys) in
    let R : List ℕ → Type 0 = λ zs. IsTrue b ↔ (length P * length zs ≤ 256) × (length (resolvents_of v slots P zs) ≤ length P + length zs) in
    let moved = subst R c (subst Q a w) in
    let both = pays-off-by-ids v slots (length P) (length N) refl refl in
    (λ t. both.1 (moved.0 t), λ p. moved.1 (both.0 p))

-- the clauses of an occurrence list
clauses-have : (slots : List (Option (List Literal))) (ids : List ℕ) (id : ℕ) (c : List Literal) → Contains ids id → clause_of slots id ≡ Some c → Contains (clauses_at slots ids) c
clauses-have slots [] id c i e = absurd (Contains-none id i)
clauses-have slots (x ∷ ids) id c i e =
    elim (Contains-cases x ids id i) [
      | inl s ↦
          let at : slot_clauses (clause_of slots x) ≡ c ∷ [] = ap slot_clauses (ap (clause_of slots) (sym s) ∙ e) in
          Contains-append_left (slot_clauses (clause_of slots x)) (clauses_at slots ids) c (subst (λ l. Contains l c) (sym at) (Contains-first c []))
      | inr r ↦ Contains-append_right (slot_clauses (clause_of slots x)) (clauses_at slots ids) c (clauses-have slots ids id c r e)
    ]

slot-clause-is : (slot : Option (List Literal)) (c : List Literal) → Contains (slot_clauses slot) c → slot ≡ Some c
slot-clause-is None c m = absurd (Contains-none c m)
slot-clause-is (Some d) c m = ap (λ x. Some x) (sym (Contains-one d c m))

clauses-from : (slots : List (Option (List Literal))) (ids : List ℕ) (c : List Literal) → Contains (clauses_at slots ids) c → (id : ℕ) × Contains ids id × (clause_of slots id ≡ Some c)
clauses-from slots [] c m = absurd (Contains-none c m)
clauses-from slots (x ∷ ids) c m =
    elim (Contains-append_cases (slot_clauses (clause_of slots x)) (clauses_at slots ids) c m) [
      | inl a ↦ (x, Contains-first x ids, slot-clause-is (clause_of slots x) c a)
      | inr b ↦ let w = clauses-from slots ids c b in (w.0, Contains-later x ids w.0 w.1, w.2)
    ]

with-list : (l : Literal) (slots : List (Option (List Literal))) (ws : List (List Literal)) → IsPermutation (clauses_at slots (ids_with (place_of l) slots)) ws → IsWithList l (live_clauses slots) ws
with-list l slots ws p = record {
  has = λ c m i.
      let at = live-id slots c m in
      Contains-permutation (clauses_at slots (ids_with (place_of l) slots)) ws c p (clauses-have slots (ids_with (place_of l) slots) at.0 c (in-list l slots at.0 c at.1 i) at.1);
  only = λ c m.
      let w = clauses-from slots (ids_with (place_of l) slots) c (Contains-permutation ws (clauses_at slots (ids_with (place_of l) slots)) c (IsPermutation-sym (clauses_at slots (ids_with (place_of l) slots)) ws p) m) in
      let a = listed-at l slots w.0 w.1 in
      let both : Some a.clause ≡ Some c = sym a.is ∙ w.2 in
      let same : a.clause ≡ c = cc in
      (live-at slots w.0 c w.2, subst (λ x. Contains x l) same a.has);
}

-- what is put together is the rewrite
pub eliminates-by : (v : ℕ) (h : Held) (l m : Literal) (xs ys gone : List ℕ) (added : List (List Literal)) (repairs : List Repair) → l ≡ positive v → m ≡ negative_of v → xs ≡ ids_with (place_of l) h.slots → ys ≡ ids_with (place_of m) h.slots
    → gone ≡ xs ++ ys → added ≡ resolvents_of v h.slots xs ys → AreRepairs l (clauses_at h.slots xs) repairs → Eliminates v h (replacing gone added repairs)
eliminates-by v h l m xs ys gone added repairs e f g k a b r =
    let P : List ℕ = ids_with (place_of (positive v)) h.slots in
    let N : List ℕ = ids_with (place_of (negative_of v)) h.slots in
    let x : xs ≡ P = g ∙ ap (λ z. ids_with (place_of z) h.slots) e in
    let y : ys ≡ N = k ∙ ap (λ z. ids_with (place_of z) h.slots) f in
    let went : gone ≡ P ++ N = a ∙ (ap (λ z. z ++ ys) x ∙ ap (λ z. P ++ z) y) in
    let made : added ≡ resolvents_of v h.slots P N = b ∙ (ap (λ z. resolvents_of v h.slots z ys) x ∙ ap (λ z. resolvents_of v h.slots P z) y) in
    let moved : IsPermutation (clauses_at h.slots P) r.0 = subst (λ z. IsPermutation (clauses_at h.slots z) r.0) x r.1 in
    let mended : repairs ≡ elimination_repairs (positive v) r.0 = r.3 ∙ ap (λ z. elimination_repairs z r.0) e in
    (r.0, with-list (positive v) h.slots r.0 moved, rw (went, made, mended) refl)

pub eliminates-fits : (v : ℕ) (h : Held) (r : Rewrite) → IsStore h → is_candidate h v ≡ true → Eliminates v h r → IsReplacement r h
eliminates-fits v h r s t w = subst (λ x. IsReplacement x h) (sym w.2) (elimination-fits v w.0 h s (candidate-is h v t).up w.1)

pub eliminates-after : (v : ℕ) (old new : Held) (r : Rewrite) → Eliminates v old r → IsUntouched (after r old) new → AreEliminated v old new
eliminates-after v old new r w e = (w.0, w.1, subst (λ x. IsUntouched (after x old) new) w.2 e)

-- the variables of the clauses that went
map-has : (c : List Literal) (k : Literal) → Contains c k → Contains (map (λ (l : Literal). l.variable) c) k.variable
map-has [] k i = absurd (Contains-none k i)
map-has (l ∷ c) k i =
    elim (Contains-cases l c k i) [
      | inl e ↦ subst (Contains (map (λ (l : Literal). l.variable) (l ∷ c))) (sym (ap (λ (x : Literal). x.variable) e)) (Contains-first l.variable (map (λ (l : Literal). l.variable) c))
      | inr r ↦ Contains-later l.variable (map (λ (l : Literal). l.variable) c) k.variable (map-has c k r)
    ]

variables-have : (slots : List (Option (List Literal))) (ids : List ℕ) (id : ℕ) (c : List Literal) (k : Literal) → Contains ids id → clause_of slots id ≡ Some c → Contains c k → Contains (variables_at slots ids) k.variable
variables-have slots [] id c k i e j = absurd (Contains-none id i)
variables-have slots (x ∷ ids) id c k i e j =
    elim (Contains-cases x ids id i) [
      | inl s ↦
          let at : slot_variables (clause_of slots x) ≡ map (λ (l : Literal). l.variable) c = ap slot_variables (ap (clause_of slots) (sym s) ∙ e) in
          Contains-append_left (slot_variables (clause_of slots x)) (variables_at slots ids) k.variable (subst (λ l. Contains l k.variable) (sym at) (map-has c k j))
      | inr r ↦ Contains-append_right (slot_variables (clause_of slots x)) (variables_at slots ids) k.variable (variables-have slots ids id c k r e j)
    ]

slot-variable-is : (slot : Option (List Literal)) (u : ℕ) → Contains (slot_variables slot) u → (c : List Literal) × (slot ≡ Some c) × ((k : Literal) × Contains c k × (k.variable ≡ u))
slot-variable-is None u m = absurd (Contains-none u m)
slot-variable-is (Some c) u m = let w = Contains-map (λ (l : Literal). l.variable) c u m in (c, refl, (w.0, w.1, sym w.2))

variables-from : (slots : List (Option (List Literal))) (ids : List ℕ) (u : ℕ) → Contains (variables_at slots ids) u → (id : ℕ) × (c : List Literal) × (k : Literal) × Contains ids id × (clause_of slots id ≡ Some c) × Contains c k × (k.variable ≡ u)
variables-from slots [] u m = absurd (Contains-none u m)
variables-from slots (x ∷ ids) u m =
    elim (Contains-append_cases (slot_variables (clause_of slots x)) (variables_at slots ids) u m) [
      | inl a ↦ let w = slot-variable-is (clause_of slots x) u a in (x, w.0, w.2.0, Contains-first x ids, w.1, w.2.1, w.2.2)
      | inr b ↦ let w = variables-from slots ids u b in (w.0, w.1, w.2, Contains-later x ids w.0 w.3, w.4, w.5, w.6)
    ]

pub beside-by : (v : ℕ) (slots : List (Option (List Literal))) (near : List ℕ) → IsStrictlyIncreasing near
    → ((u : ℕ) → Contains (variables_at slots (ids_with (place_of (positive v)) slots) ++ variables_at slots (ids_with (place_of (negative_of v)) slots)) u → Contains near u)
    → ((u : ℕ) → Contains near u → Contains (variables_at slots (ids_with (place_of (positive v)) slots) ++ variables_at slots (ids_with (place_of (negative_of v)) slots)) u) → AreBeside v slots near
beside-by v slots near rising all back =
    let P = ids_with (place_of (positive v)) slots in
    let N = ids_with (place_of (negative_of v)) slots in
    record {
      rising = rising;
      each = λ u w. subst (Contains near) w.6 (all w.2.variable (elim (Contains-append_cases P N w.0 w.3) [
        | inl a ↦ Contains-append_left (variables_at slots P) (variables_at slots N) w.2.variable (variables-have slots P w.0 w.1 w.2 a w.4 w.5)
        | inr b ↦ Contains-append_right (variables_at slots P) (variables_at slots N) w.2.variable (variables-have slots N w.0 w.1 w.2 b w.4 w.5)
      ]));
      only = λ u m. elim (Contains-append_cases (variables_at slots P) (variables_at slots N) u (back u m)) [
        | inl a ↦ let w = variables-from slots P u a in (w.0, w.1, w.2, Contains-append_left P N w.0 w.3, w.4, w.5, w.6)
        | inr b ↦ let w = variables-from slots N u b in (w.0, w.1, w.2, Contains-append_right P N w.0 w.3, w.4, w.5, w.6)
      ];
    }

pub gathered-is : (v : ℕ) (slots : List (Option (List Literal))) (l m : Literal) (xs ys near first all : List ℕ) → l ≡ positive v → m ≡ negative_of v → xs ≡ ids_with (place_of l) slots → ys ≡ ids_with (place_of m) slots → near ≡ [] → first ≡ near ++ variables_at slots xs → all ≡ first ++ variables_at slots ys
    → all ≡ variables_at slots (ids_with (place_of (positive v)) slots) ++ variables_at slots (ids_with (place_of (negative_of v)) slots)
gathered-is v slots l m xs ys near first all e f g h a b c =
    let x = g ∙ ap (λ z. ids_with (place_of z) slots) e in
    let y = h ∙ ap (λ z. ids_with (place_of z) slots) f in
    rw (c, b, a, x, y) refl

pub eliminated-by : (v : ℕ) (old new : Held) (beside near : List ℕ) → is_candidate old v ≡ true → PaysOff v (having (positive v) (live_clauses old.slots)) (having (negative_of v) (live_clauses old.slots)) → AreEliminated v old new → AreBeside v old.slots beside → near ≡ filter (is_candidate new) beside → IsEliminatedAt v old new near
eliminated-by v old new beside near t pays w on is = record {
  candidate = t;
  pays = pays;
  repaired = w.0;
  repaired_with = w.1;
  is = w.2;
  named = subst (AreNear v old new) (sym is) (record {
    rising = IsStrictlyIncreasing-filter (is_candidate new) beside on.rising;
    each = λ u b c. filter-has (is_candidate new) beside u (on.each u b) c;
    only = λ u m. let q = filter-from (is_candidate new) beside u m in (on.only u q.0, q.1);
  });
}
