-- Eliminating a variable in a store.
use Rattle.std.proofs.Common.{◌≡◌, ◌≢◌, ◌⊎◌, ℕ, ◌≤◌, Bool, true, false, not, cond, List, [], ◌∷◌, length, refl, sym, ◌∙◌, ap, subst, arith, inl, inr, Contains, All, IsTrue}
use Rattle.std.specs.Prelude.{Option, Some, None, ◌==◌, ◌&&◌, ◌||◌, nat_lt, nat_le}
use Rattle.std.proofs.lemmas.Bool.{cases_Bool, eqb-true, eq-eqb, ne_eqb, or_cases, or_left, or_right, and_parts, and_from, ltb-true, lt-ltb, leb-true, leb-false, true≢false, false≢true}
use Rattle.std.proofs.lemmas.List.Elements.{All-contains, Contains-append_cases, Contains-append_left, Contains-append_right}
use Rattle.mp_logic.specs.Literal.{Literal, IsUpTo}
use Rattle.mp_logic.specs.Normal.{rises}
use Rattle.mp_logic.specs.Eliminating.{IsResolvent, Lacks, IsEliminated}
use Rattle.mp_logic.proofs.Members.{Contains-none, Contains-first, Contains-later, Contains-cases, Contains-one}
use Rattle.mp_logic.proofs.Literals.{same_or_negation}
use Rattle.mp_clauses.specs.Places.{place_of, is_in}
use Rattle.mp_store.specs.Held.{Held, labelled_of}
use Rattle.mp_clauses.specs.Slots.{clause_of, live_clauses}
use Rattle.mp_clauses.specs.Weighing.{costs_of, weight_in}
use Rattle.mp_store.specs.Clashing.{clash_beside}
use Rattle.mp_clauses.specs.Occurrences.{ids_with}
use Rattle.mp_store.specs.Soundness.{IsStore}
use Rattle.mp_store.specs.Measures.{occurs}
use Rattle.mp_store.specs.Replacing.{replaced}
use Rattle.mp_clauses.proofs.Found.{exact-ids, is_in-by, is_in-contains}
use Rattle.mp_store.proofs.KeptFixing.{live-at, live-id}
use Rattle.mp_store.proofs.Measured.{occurs-by, occurs-found}
use Rattle.mp_store.proofs.Replaced.{replaced_clauses}
use Rattle.mp_store.proofs.Clashes.{free-literal, free-weight, clash-found}
use Rattle.t_elim.specs.Resolving.{resolvent, slot_resolvent, resolvents_with, slot_resolvents, resolvents_of}
use Rattle.t_elim.specs.Eliminating.{positive, negative_of, HasNoCost, IsIdleVariable}
use Rattle.t_elim.specs.Resolved.{is_candidate, ids_on}
use Rattle.t_elim.proofs.Resolved.{resolvent-is}

-- a literal by its parts
pub new-is : (l : Literal) (v : ℕ) (b : Bool) → l.variable ≡ v → l.negative ≡ b → l ≡ record { variable = v; negative = b }
new-is l v b e f =
    let first : l ≡ record { variable = v; negative = l.negative } = ap (λ (x : ℕ). record { variable = x; negative = l.negative }) e in
    first ∙ ap (λ (x : Bool). record { variable = v; negative = x }) f

-- what holds of each live clause
pub live-normal : (h : Held) (c : List Literal) → IsStore h → Contains (live_clauses h.slots) c → IsTrue (rises 0 c)
live-normal h c s m = All-contains (λ c. IsTrue (rises 0 c)) (live_clauses h.slots) c s.labelled.hard_normal m

pub live-within : (h : Held) (c : List Literal) → IsStore h → Contains (live_clauses h.slots) c → All (IsUpTo h.vars) c
live-within h c s m = All-contains (All (IsUpTo h.vars)) (live_clauses h.slots) c s.labelled.hard_within m

pub literal-within : (h : Held) (c : List Literal) (l : Literal) → IsStore h → Contains (live_clauses h.slots) c → Contains c l → IsUpTo h.vars l
literal-within h c l s m i = All-contains (IsUpTo h.vars) c l (live-within h c s m) i

-- what a candidate is
pub record Candidate (h : Held) (v : ℕ) : Type 0 where
  pub up : IsUpTo h.vars (positive v)
  pub free : weight_in h.weights (positive v) ≡ 0
  pub free_negative : weight_in h.weights (negative_of v) ≡ 0
  pub occurs : occurs v (live_clauses h.slots) ≡ true

pub candidate-is : (h : Held) (v : ℕ) → is_candidate h v ≡ true → Candidate h v
unfolding is_candidate
candidate-is h v t =
    let range = nat_lt 0 v && nat_le v h.vars in
    let free = (weight_in h.weights (positive v) == 0) && (weight_in h.weights (negative_of v) == 0) in
    let a = and_parts (range && free) (occurs v (live_clauses h.slots)) t in
    let b = and_parts range free a.0 in
    let c = and_parts (nat_lt 0 v) (nat_le v h.vars) b.0 in
    let d = and_parts (weight_in h.weights (positive v) == 0) (weight_in h.weights (negative_of v) == 0) b.1 in
    record {
      up = (let l = ltb-true 0 v c.0 in omega arith, leb-true v h.vars c.1);
      free = eqb-true (weight_in h.weights (positive v)) 0 d.0;
      free_negative = eqb-true (weight_in h.weights (negative_of v)) 0 d.1;
      occurs = a.1;
    }

-- no cost speaks of a variable without weights, and the other way round
pub no-cost : (h : Held) (v : ℕ) → weight_in h.weights (positive v) ≡ 0 → weight_in h.weights (negative_of v) ≡ 0 → HasNoCost v (costs_of h.weights)
no-cost h v a b p m e =
    elim (same_or_negation p.lit (positive v) e) [
      | inl s ↦ free-literal h.weights (positive v) a p m s
      | inr s ↦ free-literal h.weights (negative_of v) b p m s
    ]

pub no-weight : (h : Held) (v : ℕ) (l : Literal) → l.variable ≡ v → HasNoCost v (costs_of h.weights) → weight_in h.weights l ≡ 0
no-weight h v l e free = free-weight h.weights l (λ p m s. free p m (ap (λ (x : Literal). x.variable) s ∙ e))

-- a clause of an occurrence list
pub record ListedAt (l : Literal) (slots : List (Option (List Literal))) (id : ℕ) : Type 0 where
  pub clause : List Literal
  pub is : clause_of slots id ≡ Some clause
  pub has : Contains clause l

pub listed-at : (l : Literal) (slots : List (Option (List Literal))) (id : ℕ) → Contains (ids_with (place_of l) slots) id → ListedAt l slots id
listed-at l slots id i = let w = ((exact-ids l slots).each id).0 i in record { clause = w.0; is = w.1; has = w.2 }

pub in-list : (l : Literal) (slots : List (Option (List Literal))) (id : ℕ) (c : List Literal) → clause_of slots id ≡ Some c → Contains c l → Contains (ids_with (place_of l) slots) id
in-list l slots id c e i = ((exact-ids l slots).each id).1 (c, e, i)

some-id : (xs : List ℕ) → not (length xs == 0) ≡ true → (x : ℕ) × Contains xs x
some-id [] t = absurd (false≢true t)
some-id (x ∷ xs) t = (x, Contains-first x xs)

has-ids : (xs : List ℕ) (x : ℕ) → Contains xs x → not (length xs == 0) ≡ true
has-ids [] x h = absurd (Contains-none x h)
has-ids (y ∷ xs) x h = ap not (ne_eqb (length (y ∷ xs)) 0 (λ e. omega arith))

-- a variable occurs where one of its occurrence lists has an id
ids-occur : (v : ℕ) (l : Literal) (slots : List (Option (List Literal))) → l.variable ≡ v → not (length (ids_with (place_of l) slots) == 0) ≡ true → occurs v (live_clauses slots) ≡ true
ids-occur v l slots e t =
    let id = some-id (ids_with (place_of l) slots) t in
    let w = listed-at l slots id.0 id.1 in
    occurs-by v (live_clauses slots) w.clause l (live-at slots id.0 w.clause w.is) w.has e

occur-ids : (v : ℕ) (slots : List (Option (List Literal))) → occurs v (live_clauses slots) ≡ true → (not (length (ids_with (place_of (positive v)) slots) == 0) || not (length (ids_with (place_of (negative_of v)) slots) == 0)) ≡ true
occur-ids v slots t =
    let p = not (length (ids_with (place_of (positive v)) slots) == 0) in
    let q = not (length (ids_with (place_of (negative_of v)) slots) == 0) in
    let o = occurs-found v (live_clauses slots) t in
    let at = live-id slots o.clause o.live in
    elim (same_or_negation o.literal (positive v) o.variable) [
      | inl e ↦ or_left p q (has-ids (ids_with (place_of (positive v)) slots) at.0 (in-list (positive v) slots at.0 o.clause at.1 (subst (Contains o.clause) e o.has)))
      | inr e ↦ or_right p q (has-ids (ids_with (place_of (negative_of v)) slots) at.0 (in-list (negative_of v) slots at.0 o.clause at.1 (subst (Contains o.clause) e o.has)))
    ]

pub occurs-ids : (v : ℕ) (slots : List (Option (List Literal))) → (not (length (ids_with (place_of (positive v)) slots) == 0) || not (length (ids_with (place_of (negative_of v)) slots) == 0)) ≡ occurs v (live_clauses slots)
occurs-ids v slots =
    let p = not (length (ids_with (place_of (positive v)) slots) == 0) in
    let q = not (length (ids_with (place_of (negative_of v)) slots) == 0) in
    elim (cases_Bool (occurs v (live_clauses slots))) [
      | inl t ↦ occur-ids v slots t ∙ sym t
      | inr f ↦ elim (cases_Bool (p || q)) [
        | inr g ↦ g ∙ sym f
        | inl t ↦ absurd (true≢false (sym (elim (or_cases p q t) [ inl a ↦ ids-occur v (positive v) slots refl a | inr b ↦ ids-occur v (negative_of v) slots refl b ]) ∙ f))
      ]
    ]

pub occurs-first : (v : ℕ) (slots : List (Option (List Literal))) (l : Literal) (xs : List ℕ) → l ≡ positive v → xs ≡ ids_with (place_of l) slots → length xs ≢ 0 → not (length xs == 0) ≡ occurs v (live_clauses slots)
occurs-first v slots l xs e f n =
    let t : not (length xs == 0) ≡ true = ap not (ne_eqb (length xs) 0 n) in
    t ∙ sym (ids-occur v l slots (ap (λ (x : Literal). x.variable) e) (subst (λ zs. not (length zs == 0) ≡ true) f t))

pub occurs-second : (v : ℕ) (slots : List (Option (List Literal))) (l m : Literal) (xs ys : List ℕ) → l ≡ positive v → m ≡ negative_of v → xs ≡ ids_with (place_of l) slots → ys ≡ ids_with (place_of m) slots → length xs ≡ 0 → not (length ys == 0) ≡ occurs v (live_clauses slots)
occurs-second v slots l m xs ys e g f k z =
    let P : List ℕ = ids_with (place_of (positive v)) slots in
    let N : List ℕ = ids_with (place_of (negative_of v)) slots in
    let x : xs ≡ P = f ∙ ap (λ z. ids_with (place_of z) slots) e in
    let y : ys ≡ N = k ∙ ap (λ z. ids_with (place_of z) slots) g in
    let none : not (length P == 0) ≡ false = ap not (eq-eqb (length P) 0 (subst (λ zs. length zs ≡ 0) x z)) in
    let all : not (length N == 0) ≡ occurs v (live_clauses slots) = ap (λ b. b || not (length N == 0)) (sym none) ∙ occurs-ids v slots in
    subst (λ zs. not (length zs == 0) ≡ occurs v (live_clauses slots)) (sym y) all

le-leb : (a b : ℕ) → a ≤ b → nat_le a b ≡ true
le-leb a b h = elim (cases_Bool (nat_le a b)) [ inl t ↦ t | inr f ↦ absurd (omega (arith, leb-false a b f)) ]

pub occurs-candidate : (h : Held) (v : ℕ) → IsStore h → occurs v (live_clauses h.slots) ≡ true → HasNoCost v (costs_of h.weights) → is_candidate h v ≡ true
unfolding is_candidate
occurs-candidate h v s t free =
    let o = occurs-found v (live_clauses h.slots) t in
    let up = literal-within h o.clause o.literal s o.live o.has in
    let same = o.variable in
    let range = nat_lt 0 v && nat_le v h.vars in
    let weights = (weight_in h.weights (positive v) == 0) && (weight_in h.weights (negative_of v) == 0) in
    let ranges : range ≡ true = and_from (nat_lt 0 v) (nat_le v h.vars) (lt-ltb 0 v (omega (arith, up.0, same))) (le-leb v h.vars (omega (arith, up.1, same))) in
    let frees : weights ≡ true =
    and_from (weight_in h.weights (positive v) == 0) (weight_in h.weights (negative_of v) == 0) (eq-eqb (weight_in h.weights (positive v)) 0 (no-weight h v (positive v) refl free)) (eq-eqb (weight_in h.weights (negative_of v)) 0 (no-weight h v (negative_of v) refl free)) in
    and_from (range && weights) (occurs v (live_clauses h.slots)) (and_from range weights ranges frees) t

pub other-idle : (h : Held) (v : ℕ) → IsStore h → is_candidate h v ≡ false → IsIdleVariable (labelled_of h) v
other-idle h v s f t free pays = true≢false (sym (occurs-candidate h v s t free) ∙ f)

-- the resolvents, one by one
pub record MadeOf (v : ℕ) (slots : List (Option (List Literal))) (is js : List ℕ) (r : List Literal) : Type 0 where
  pub i : ℕ
  pub j : ℕ
  pub c : List Literal
  pub d : List Literal
  pub i_in : Contains is i
  pub j_in : Contains js j
  pub c_at : clause_of slots i ≡ Some c
  pub d_at : clause_of slots j ≡ Some d
  pub apart : clash_beside v c d ≡ false
  pub made : r ≡ resolvent v c d

slot-made : (v : ℕ) (c : List Literal) (slot : Option (List Literal)) (r : List Literal) → Contains (slot_resolvent v c slot) r → (d : List Literal) × (slot ≡ Some d) × (clash_beside v c d ≡ false) × (r ≡ resolvent v c d)
slot-made v c None r m = absurd (Contains-none r m)
slot-made v c (Some d) r m =
    let step : (b : Bool) → clash_beside v c d ≡ b → Contains (cond b [] (resolvent v c d ∷ [])) r → (x : List Literal) × (◌≡◌ {A = Option (List Literal)} (Some d) (Some x)) × (clash_beside v c x ≡ false) × (r ≡ resolvent v c x) =
    λ (t : Bool). elim t as (λ b. clash_beside v c d ≡ b → Contains (cond b [] (resolvent v c d ∷ [])) r → (x : List Literal) × (◌≡◌ {A = Option (List Literal)} (Some d) (Some x)) × (clash_beside v c x ≡ false) × (r ≡ resolvent v c x)) [
      | true ↦ λ e m. absurd (Contains-none r m)
      | false ↦ λ e m. (d, refl, e, Contains-one (resolvent v c d) r m)
    ] in
    step (clash_beside v c d) refl m

with-made : (v : ℕ) (c : List Literal) (slots : List (Option (List Literal))) (js : List ℕ) (r : List Literal) → Contains (resolvents_with v c slots js) r → (j : ℕ) × Contains js j × ((d : List Literal) × (clause_of slots j ≡ Some d) × (clash_beside v c d ≡ false) × (r ≡ resolvent v c d))
with-made v c slots [] r m = absurd (Contains-none r m)
with-made v c slots (j ∷ js) r m =
    elim (Contains-append_cases (slot_resolvent v c (clause_of slots j)) (resolvents_with v c slots js) r m) [
      | inl a ↦ (j, Contains-first j js, slot-made v c (clause_of slots j) r a)
      | inr b ↦ let w = with-made v c slots js r b in (w.0, Contains-later j js w.0 w.1, w.2)
    ]

slots-made : (v : ℕ) (slot : Option (List Literal)) (slots : List (Option (List Literal))) (js : List ℕ) (r : List Literal) → Contains (slot_resolvents v slot slots js) r → (c : List Literal) × (slot ≡ Some c) × Contains (resolvents_with v c slots js) r
slots-made v None slots js r m = absurd (Contains-none r m)
slots-made v (Some c) slots js r m = (c, refl, m)

pub made-of : (v : ℕ) (slots : List (Option (List Literal))) (is js : List ℕ) (r : List Literal) → Contains (resolvents_of v slots is js) r → MadeOf v slots is js r
made-of v slots [] js r m = absurd (Contains-none r m)
made-of v slots (i ∷ is) js r m =
    elim (Contains-append_cases (slot_resolvents v (clause_of slots i) slots js) (resolvents_of v slots is js) r m) [
      | inl a ↦
          let w = slots-made v (clause_of slots i) slots js r a in
          let u = with-made v w.0 slots js r w.2 in
          record { i = i; j = u.0; c = w.0; d = u.2.0; i_in = Contains-first i is; j_in = u.1; c_at = w.1; d_at = u.2.1; apart = u.2.2; made = u.2.3 }
      | inr b ↦
          let w = made-of v slots is js r b in
          record { i = w.i; j = w.j; c = w.c; d = w.d; i_in = Contains-later i is w.i w.i_in; j_in = w.j_in; c_at = w.c_at; d_at = w.d_at; apart = w.apart; made = w.made }
    ]

with-has : (v : ℕ) (c d : List Literal) (slots : List (Option (List Literal))) (js : List ℕ) (j : ℕ) → Contains js j → clause_of slots j ≡ Some d → clash_beside v c d ≡ false → Contains (resolvents_with v c slots js) (resolvent v c d)
with-has v c d slots [] j m e f = absurd (Contains-none j m)
with-has v c d slots (x ∷ js) j m e f =
    elim (Contains-cases x js j m) [
      | inl s ↦
          let at : clause_of slots x ≡ Some d = ap (clause_of slots) (sym s) ∙ e in
          let own : slot_resolvent v c (clause_of slots x) ≡ resolvent v c d ∷ [] = ap (slot_resolvent v c) at ∙ ap (λ b. cond b [] (resolvent v c d ∷ [])) f in
          Contains-append_left (slot_resolvent v c (clause_of slots x)) (resolvents_with v c slots js) (resolvent v c d) (subst (λ l. Contains l (resolvent v c d)) (sym own) (Contains-first (resolvent v c d) []))
      | inr r ↦ Contains-append_right (slot_resolvent v c (clause_of slots x)) (resolvents_with v c slots js) (resolvent v c d) (with-has v c d slots js j r e f)
    ]

pub of-has : (v : ℕ) (c d : List Literal) (slots : List (Option (List Literal))) (is js : List ℕ) (i j : ℕ) → Contains is i → Contains js j → clause_of slots i ≡ Some c → clause_of slots j ≡ Some d → clash_beside v c d ≡ false → Contains (resolvents_of v slots is js) (resolvent v c d)
of-has v c d slots [] js i j m n e g f = absurd (Contains-none i m)
of-has v c d slots (x ∷ is) js i j m n e g f =
    elim (Contains-cases x is i m) [
      | inl s ↦
          let at : clause_of slots x ≡ Some c = ap (clause_of slots) (sym s) ∙ e in
          let own : slot_resolvents v (clause_of slots x) slots js ≡ resolvents_with v c slots js = ap (λ slot. slot_resolvents v slot slots js) at in
          Contains-append_left (slot_resolvents v (clause_of slots x) slots js) (resolvents_of v slots is js) (resolvent v c d) (subst (λ l. Contains l (resolvent v c d)) (sym own) (with-has v c d slots js j n g f))
      | inr r ↦ Contains-append_right (slot_resolvents v (clause_of slots x) slots js) (resolvents_of v slots is js) (resolvent v c d) (of-has v c d slots is js i j r n e g f)
    ]

-- the rewrite
abbrev pub left_clauses : ℕ → Held → List (List Literal)
left_clauses v h = live_clauses (replaced (ids_on v h.slots) (resolvents_of v h.slots (ids_with (place_of (positive v)) h.slots) (ids_with (place_of (negative_of v)) h.slots)) h.slots)

pub on-cases : (v : ℕ) (slots : List (Option (List Literal))) (id : ℕ) → Contains (ids_on v slots) id → ListedAt (positive v) slots id ⊎ ListedAt (negative_of v) slots id
on-cases v slots id i =
    elim (Contains-append_cases (ids_with (place_of (positive v)) slots) (ids_with (place_of (negative_of v)) slots) id i) [
      | inl a ↦ inl (listed-at (positive v) slots id a)
      | inr b ↦ inr (listed-at (negative_of v) slots id b)
    ]

pub on-clause : (v : ℕ) (slots : List (Option (List Literal))) (id : ℕ) (c : List Literal) → clause_of slots id ≡ Some c → Contains (ids_on v slots) id → Contains c (positive v) ⊎ Contains c (negative_of v)
on-clause v slots id c e i =
    elim (on-cases v slots id i) [
      | inl w ↦ let both : Some w.clause ≡ Some c = sym w.is ∙ e in let same : w.clause ≡ c = cc in inl (subst (λ x. Contains x (positive v)) same w.has)
      | inr w ↦ let both : Some w.clause ≡ Some c = sym w.is ∙ e in let same : w.clause ≡ c = cc in inr (subst (λ x. Contains x (negative_of v)) same w.has)
    ]

pub clause-on : (v : ℕ) (slots : List (Option (List Literal))) (id : ℕ) (c : List Literal) (k : Literal) → clause_of slots id ≡ Some c → Contains c k → k.variable ≡ v → Contains (ids_on v slots) id
clause-on v slots id c k e i s =
    elim (same_or_negation k (positive v) s) [
      | inl f ↦ Contains-append_left (ids_with (place_of (positive v)) slots) (ids_with (place_of (negative_of v)) slots) id (in-list (positive v) slots id c e (subst (Contains c) f i))
      | inr f ↦ Contains-append_right (ids_with (place_of (positive v)) slots) (ids_with (place_of (negative_of v)) slots) id (in-list (negative_of v) slots id c e (subst (Contains c) f i))
    ]

pub stays-off : (v : ℕ) (slots : List (Option (List Literal))) (id : ℕ) (c : List Literal) → clause_of slots id ≡ Some c → is_in id (ids_on v slots) ≡ false → Lacks (positive v) c
stays-off v slots id c e f k i s = true≢false (sym (is_in-by (ids_on v slots) id (clause-on v slots id c k e i s)) ∙ f)

-- both clauses of a resolvent, as live ones with the literals
pub record Parents (v : ℕ) (h : Held) (r : List Literal) : Type 0 where
  pub c : List Literal
  pub d : List Literal
  pub c_id : ℕ
  pub d_id : ℕ
  pub c_on : Contains (ids_on v h.slots) c_id
  pub d_on : Contains (ids_on v h.slots) d_id
  pub c_at : clause_of h.slots c_id ≡ Some c
  pub d_at : clause_of h.slots d_id ≡ Some d
  pub c_live : Contains (live_clauses h.slots) c
  pub d_live : Contains (live_clauses h.slots) d
  pub made : r ≡ resolvent v c d
  pub is : IsResolvent (positive v) c d r

pub clause-is : (l : Literal) (slots : List (Option (List Literal))) (id : ℕ) (c : List Literal) → clause_of slots id ≡ Some c → Contains (ids_with (place_of l) slots) id → Contains c l
clause-is l slots id c e i =
    let w = listed-at l slots id i in
    let both : Some w.clause ≡ Some c = sym w.is ∙ e in
    let same : w.clause ≡ c = cc in
    subst (λ x. Contains x l) same w.has

pub parents : (v : ℕ) (h : Held) (r : List Literal) → IsStore h → Contains (resolvents_of v h.slots (ids_with (place_of (positive v)) h.slots) (ids_with (place_of (negative_of v)) h.slots)) r → Parents v h r
parents v h r s m =
    let w = made-of v h.slots (ids_with (place_of (positive v)) h.slots) (ids_with (place_of (negative_of v)) h.slots) r m in
    let c_live = live-at h.slots w.i w.c w.c_at in
    let d_live = live-at h.slots w.j w.d w.d_at in
    let is = resolvent-is (positive v) w.c w.d (λ k i. (literal-within h w.c k s c_live i).0) (λ k i. (literal-within h w.d k s d_live i).0) (live-normal h w.c s c_live) (live-normal h w.d s d_live)
    (clause-is (positive v) h.slots w.i w.c w.c_at w.i_in) (clause-is (negative_of v) h.slots w.j w.d w.d_at w.j_in) w.apart in
    record {
      c = w.c;
      d = w.d;
      c_id = w.i;
      d_id = w.j;
      c_on = Contains-append_left (ids_with (place_of (positive v)) h.slots) (ids_with (place_of (negative_of v)) h.slots) w.i w.i_in;
      d_on = Contains-append_right (ids_with (place_of (positive v)) h.slots) (ids_with (place_of (negative_of v)) h.slots) w.j w.j_in;
      c_at = w.c_at;
      d_at = w.d_at;
      c_live = c_live;
      d_live = d_live;
      made = w.made;
      is = subst (IsResolvent (positive v) w.c w.d) (sym w.made) is;
    }

pub store-eliminated : (v : ℕ) (h : Held) → IsStore h → IsEliminated (positive v) (live_clauses h.slots) (left_clauses v h)
store-eliminated v h s =
    let P = ids_with (place_of (positive v)) h.slots in
    let N = ids_with (place_of (negative_of v)) h.slots in
    let all = replaced_clauses (ids_on v h.slots) (resolvents_of v h.slots P N) h.slots in
    record {
      others = λ c m lacks.
          let at = live-id h.slots c m in
          let out : is_in at.0 (ids_on v h.slots) ≡ false = elim (cases_Bool (is_in at.0 (ids_on v h.slots))) [
            | inr f ↦ f
            | inl t ↦ absurd (elim (on-clause v h.slots at.0 c at.1 (is_in-contains (ids_on v h.slots) at.0 t)) [ inl i ↦ lacks (positive v) i refl | inr i ↦ lacks (negative_of v) i refl ])
          ] in
          all.kept at.0 c at.1 out;
      made = λ c d m n i j.
          let c_at = live-id h.slots c m in
          let d_at = live-id h.slots d n in
          elim (cases_Bool (clash_beside v c d)) [
            | inl t ↦ inl (clash-found v c d t)
            | inr f ↦ inr (
              resolvent v c d,
              all.come (resolvent v c d) (of-has v c d h.slots P N c_at.0 d_at.0 (in-list (positive v) h.slots c_at.0 c c_at.1 i) (in-list (negative_of v) h.slots d_at.0 d d_at.1 j) c_at.1 d_at.1 f),
              resolvent-is (positive v) c d (λ k i. (literal-within h c k s m i).0) (λ k i. (literal-within h d k s n i).0) (live-normal h c s m) (live-normal h d s n) i j f,
            )
          ];
      only = λ r m. elim (all.only r m) [
        | inl w ↦ inl (live-at h.slots w.0 r w.1)
        | inr a ↦ let w = parents v h r s a in inr (w.c, w.d, w.c_live, w.d_live, w.is)
      ];
    }
