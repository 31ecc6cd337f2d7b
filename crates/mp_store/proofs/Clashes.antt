-- Clauses that clash, costs by literal, and what occurrence lists have.
use Rattle.std.proofs.Common.{◌≡◌, ◌≢◌, ℕ, ◌+◌, Bool, true, false, not, List, [], ◌∷◌, get_or, zero, suc, refl, sym, ◌∙◌, ap, subst, arith, inl, inr, Contains, All, IsTrue}
use Rattle.std.specs.Prelude.{Option, Some, None, is_some, ◌==◌, ◌&&◌, cond, nat_lt}
use Rattle.std.specs.List.{list_all, find}
use Rattle.std.proofs.lemmas.Bool.{cases_eq, cases_Bool, eq-eqb, ne_eqb, and_parts, and_from, lt-ltb, true≢false}
use Rattle.mp_logic.specs.Literal.{Literal, negation, IsUpTo}
use Rattle.mp_logic.specs.Labelled.{IsProper}
use Rattle.mp_logic.specs.Normal.{rises}
use Rattle.mp_logic.specs.Rewrites.{set_repair, IsNoCost}
use Rattle.mp_logic.specs.declared.instances.Cost.{Cost}
use Rattle.mp_logic.proofs.Members.{Contains-none, Contains-first, Contains-later, Contains-cases, All-from_contained}
use Rattle.mp_logic.proofs.Literals.{negation-negation}
use Rattle.mp_clauses.specs.Places.{place_of, literal_at, has}
use Rattle.mp_clauses.specs.Slots.{clause_of, is_live, live_clauses}
use Rattle.mp_clauses.specs.Weighing.{costs_of, weight_in}
use Rattle.mp_clauses.specs.Occurrences.{ids_with}
use Rattle.mp_store.specs.Clashing.{clash_beside, slot_clashes, all_clash}
use Rattle.mp_clauses.proofs.Pricing.{cost_at, has_cost, literal-place, place-literal}
use Rattle.mp_clauses.proofs.Found.{any-by, any-found, has-by, has-contains, exact-ids}
use Rattle.mp_store.proofs.KeptFixing.{live-at, live-id}
use Rattle.mp_store.proofs.Fixes.{one-literal}
use Rattle.mp_store.proofs.Measured.{all-at}

-- a literal of weight 0 is no cost literal, and no other is
pub free-literal : (w : List ℕ) (l : Literal) → weight_in w l ≡ 0 → IsNoCost l (costs_of w)
free-literal w l z p m e =
    let c = cost_at 0 w p m in
    let at : place_of p.lit ≡ c.place = let n : 0 + c.place ≡ c.place = omega arith in ap (λ (q : Cost). place_of q.lit) c.is ∙ (place-literal (0 + c.place) ∙ n) in
    c.some (subst (λ k. get_or w k 0 ≡ 0) (ap place_of (sym e) ∙ at) z)

pub free-weight : (w : List ℕ) (l : Literal) → IsNoCost l (costs_of w) → weight_in w l ≡ 0
free-weight w l free =
    elim (cases_eq (weight_in w l) 0) [
      | inl e ↦ e
      | inr n ↦
          let own : literal_at (0 + place_of l) ≡ l = let n : 0 + place_of l ≡ place_of l = omega arith in ap literal_at n ∙ literal-place l in
          absurd (free (record { lit = literal_at (0 + place_of l); weight = get_or w (place_of l) 0 }) (has_cost 0 w (place_of l) n) own)
    ]

-- clashes by a literal
pub clash-found : (v : ℕ) (c d : List Literal) → clash_beside v c d ≡ true → (k : Literal) × (k.variable ≢ v) × Contains c k × Contains d (negation k)
clash-found v c d t =
    let w = any-found (λ (m : Literal). not (m.variable == v) && has (place_of (negation m)) c) d t in
    let parts = and_parts (not (w.0.variable == v)) (has (place_of (negation w.0)) c) w.2 in
    (negation w.0, λ e. true≢false (sym parts.0 ∙ ap not (eq-eqb w.0.variable v e)), has-contains c (negation w.0) parts.1, subst (Contains d) (sym (negation-negation w.0)) w.1)

pub clash-by : (v : ℕ) (c d : List Literal) (k : Literal) → k.variable ≢ v → Contains c k → Contains d (negation k) → clash_beside v c d ≡ true
clash-by v c d k n i j =
    any-by (λ (m : Literal). not (m.variable == v) && has (place_of (negation m)) c) d (negation k) j
    (and_from (not ((negation k).variable == v)) (has (place_of (negation (negation k))) c) (ap not (ne_eqb k.variable v n)) (subst (λ m. has (place_of m) c ≡ true) (sym (negation-negation k)) (has-by c k i)))

pub all_clash-found : (v : ℕ) (c : List Literal) (slots : List (Option (List Literal))) (l : Literal) → all_clash v c slots (ids_with (place_of l) slots) ≡ true → (d : List Literal) → Contains (live_clauses slots) d → Contains d l → clash_beside v c d ≡ true
all_clash-found v c slots l t d m i =
    let at = live-id slots d m in
    let there = ((exact-ids l slots).each at.0).1 (d, at.1, i) in
    sym (ap (slot_clashes v c) at.1) ∙ all-at (λ id. slot_clashes v c (clause_of slots id)) (ids_with (place_of l) slots) at.0 t there

pub not-all : {X : Type 0} (p : X → Bool) (xs : List X) → list_all p xs ≡ false → (x : X) × Contains xs x × (p x ≡ false)
not-all p [] h = absurd (true≢false h)
not-all p (x ∷ xs) h =
    elim (cases_Bool (p x)) [
      | inr f ↦ (x, Contains-first x xs, f)
      | inl t ↦ let w = not-all p xs (sym (ap (λ b. b && list_all p xs) t) ∙ h) in (w.0, Contains-later x xs w.0 w.1, w.2)
    ]

pub all_clash-missed : (v : ℕ) (c : List Literal) (slots : List (Option (List Literal))) (l : Literal) → all_clash v c slots (ids_with (place_of l) slots) ≡ false → (d : List Literal) × Contains (live_clauses slots) d × Contains d l × (clash_beside v c d ≡ false)
all_clash-missed v c slots l f =
    let w = not-all (λ id. slot_clashes v c (clause_of slots id)) (ids_with (place_of l) slots) f in
    let d = ((exact-ids l slots).each w.0).0 w.1 in
    (d.0, live-at slots w.0 d.0 d.1, d.2, sym (ap (slot_clashes v c) d.1) ∙ w.2)

-- the clauses of an occurrence list are live
pub ids-live : (l : Literal) (slots : List (Option (List Literal))) → All (λ id. is_live slots id ≡ true) (ids_with (place_of l) slots)
ids-live l slots = All-from_contained (λ id. is_live slots id ≡ true) (ids_with (place_of l) slots) (λ id i. let w = ((exact-ids l slots).each id).0 i in ap is_some w.1)

pub all-one : {X : Type 0} (P : X → Type 0) (x : X) → P x → All P (x ∷ [])
all-one P x h zero d l = h
all-one P x h (suc k) d l = absurd (omega arith)

pub all-none : {X : Type 0} (P : X → Type 0) → All P []
all-none P k d l = absurd (omega arith)

-- the repair that sets a literal by a normal clause is proper
pub proper-set : (n : ℕ) (l : Literal) (c : List Literal) → IsUpTo n l → IsTrue (rises 0 c) → All (IsUpTo n) c → IsProper n (set_repair l c)
proper-set n l c up normal within = record {
  sets_normal = and_from (nat_lt 0 l.variable) true (lt-ltb 0 l.variable up.0) refl;
  clause_normal = normal;
  sets_some = λ e. absurd (cc);
  sets_within = one-literal n l up;
  clause_within = within;
}

-- the first that passes a test
pub find-some : {X : Type 0} (p : X → Bool) (xs : List X) (x : X) → find p xs ≡ Some x → Contains xs x × (p x ≡ true)
find-some p [] x h = absurd (cc)
find-some {X} p (y ∷ xs) x h =
    elim (cases_Bool (p y)) [
      | inl t ↦ let e : Some y ≡ Some x = sym (ap (λ b. cond b (Some y) (find p xs)) t) ∙ h in let same : y ≡ x = cc in (subst (Contains (y ∷ xs)) same (Contains-first y xs), ap p (sym same) ∙ t)
      | inr f ↦ let w = find-some p xs x (sym (ap (λ b. cond b (Some y) (find p xs)) f) ∙ h) in (Contains-later y xs x w.0, w.1)
    ]

pub find-none : {X : Type 0} (p : X → Bool) (xs : List X) (x : X) → find p xs ≡ None → Contains xs x → p x ≡ false
find-none p [] x h m = absurd (Contains-none x m)
find-none p (y ∷ xs) x h m =
    elim (cases_Bool (p y)) [
      | inl t ↦ let e : Some y ≡ None = sym (ap (λ b. cond b (Some y) (find p xs)) t) ∙ h in absurd (cc)
      | inr f ↦ elim (Contains-cases y xs x m) [ inl e ↦ ap p e ∙ f | inr r ↦ find-none p xs x (sym (ap (λ b. cond b (Some y) (find p xs)) f) ∙ h) r ]
    ]
