-- The labels of a store: weights by place and costs, and the clauses of a literal.
use Rattle.std.proofs.Common.{◌≡◌, ◌≢◌, ◌↔◌, ℕ, ◌+◌, Bool, true, false, List, [], ◌∷◌, length, get_or, refl, sym, ◌∙◌, ap, subst, arith, inl, inr, Contains, All, IsTrue}
use Rattle.std.specs.Prelude.{Option, Some, None, ◌==◌}
use Rattle.std.proofs.lemmas.Bool.{cases_Bool}
use Rattle.std.proofs.lemmas.List.Elements.{All-contains, Contains-append_cases, Contains-append_left, Contains-append_right}
use Rattle.mp_logic.specs.Literal.{Literal, negation, IsUpTo}
use Rattle.mp_logic.specs.Normal.{rises, IsTautology}
use Rattle.mp_logic.specs.SubsumedLabels.{IsPlain}
use Rattle.mp_logic.specs.declared.instances.Cost.{Cost}
use Rattle.mp_logic.proofs.Members.{Contains-none, Contains-first, Contains-later, Contains-cases, Contains-one, All-from_contained}
use Rattle.mp_logic.proofs.Rising.{rising_is_normal}
use Rattle.mp_clauses.specs.Places.{place_of, is_in}
use Rattle.mp_store.specs.Held.{Held}
use Rattle.mp_clauses.specs.Slots.{clause_of, is_live, live_clauses}
use Rattle.mp_clauses.specs.Weighing.{costs_of, weight_in}
use Rattle.mp_clauses.specs.Occurrences.{ids_with}
use Rattle.mp_store.specs.Soundness.{IsStore}
use Rattle.mp_clauses.proofs.Pricing.{cost_at, place-literal, literal-place}
use Rattle.mp_clauses.proofs.Pricing.{has_cost}
use Rattle.mp_clauses.proofs.Found.{is_in-contains, exact-ids}
use Rattle.mp_store.proofs.KeptFixing.{live-at, live-id, store-variables}
use Rattle.t_matching.specs.Joins.{clause_in, clauses_at}
use Rattle.t_matching.specs.Labels.{IsUnused}
use Rattle.std.proofs.lemmas.Bool.{eqb-true, eq-eqb}

-- the weight of a cost
pub cost-weight : (w : List ℕ) (p : Cost) → Contains (costs_of w) p → (weight_in w p.lit ≡ p.weight) × (p.weight ≢ 0)
cost-weight w p m =
    let c = cost_at 0 w p m in
    let n : 0 + c.place ≡ c.place = omega arith in
    let at : place_of p.lit ≡ c.place = ap (λ (q : Cost). place_of q.lit) c.is ∙ (place-literal (0 + c.place) ∙ n) in
    let own : p.weight ≡ get_or w c.place 0 = ap (λ (q : Cost). q.weight) c.is in
    (ap (λ k. get_or w k 0) at ∙ sym own, λ z. c.some (sym own ∙ z))

pub weight-cost : (w : List ℕ) (l : Literal) → weight_in w l ≢ 0 → Contains (costs_of w) (record { lit = l; weight = weight_in w l })
weight-cost w l h =
    let n : 0 + place_of l ≡ place_of l = omega arith in
    let c = has_cost 0 w (place_of l) h in
    rw (n, literal-place l) at c

pub label-within : (h : Held) (l : Literal) → IsStore h → weight_in h.weights l ≢ 0 → IsUpTo h.vars l
label-within h l s n = All-contains (λ (p : Cost). IsUpTo h.vars p.lit) (costs_of h.weights) (record { lit = l; weight = weight_in h.weights l }) s.labelled.costs_within (weight-cost h.weights l n)

-- the ids of a literal's clauses
pub id-in : (l : Literal) (s : List (Option (List Literal))) (id : ℕ) (c : List Literal) → clause_of s id ≡ Some c → Contains c l → Contains (ids_with (place_of l) s) id
id-in l s id c e h = ((exact-ids l s).each id).1 (c, e, h)

pub id-of : (l : Literal) (s : List (Option (List Literal))) (id : ℕ) → Contains (ids_with (place_of l) s) id → (c : List Literal) × (clause_of s id ≡ Some c) × Contains c l
id-of l s id h = ((exact-ids l s).each id).0 h

pub id-out : (l : Literal) (s : List (Option (List Literal))) (id : ℕ) (c : List Literal) → clause_of s id ≡ Some c → (Contains c l → ⊥) → is_in id (ids_with (place_of l) s) ≡ false
id-out l s id c e h =
    elim (cases_Bool (is_in id (ids_with (place_of l) s))) [
      | inr f ↦ f
      | inl t ↦
          let w = id-of l s id (is_in-contains (ids_with (place_of l) s) id t) in
          let same : w.0 ≡ c = (let q : Some w.0 ≡ Some c = sym w.1 ∙ e in cc) in
          absurd (h (subst (λ (x : List Literal). Contains x l) same w.2))
    ]

is_live-some : (s : List (Option (List Literal))) (id : ℕ) (c : List Literal) → clause_of s id ≡ Some c → is_live s id ≡ true
is_live-some s id c e = rw e refl

pub ids-live : (l : Literal) (s : List (Option (List Literal))) → All (λ id. is_live s id ≡ true) (ids_with (place_of l) s)
ids-live l s = All-from_contained (λ id. is_live s id ≡ true) (ids_with (place_of l) s) (λ id m. let w = id-of l s id m in is_live-some s id w.0 w.1)

-- the clauses of ids
clauses-from : (s : List (Option (List Literal))) (ids : List ℕ) (c : List Literal) → Contains (clauses_at s ids) c → (id : ℕ) × Contains ids id × (clause_of s id ≡ Some c)
clauses-from s [] c h = absurd (Contains-none c h)
clauses-from s (id ∷ ids) c h =
    let first : (x : Option (List Literal)) → clause_of s id ≡ x → Contains (clause_in x) c → clause_of s id ≡ Some c =
    λ (x : Option (List Literal)). elim x as (λ x. clause_of s id ≡ x → Contains (clause_in x) c → clause_of s id ≡ Some c) [
      | None ↦ λ e i. absurd (Contains-none c i)
      | Some d ↦ λ e i. e ∙ ap (λ y. Some y) (sym (Contains-one d c i))
    ] in
    elim (Contains-append_cases (clause_in (clause_of s id)) (clauses_at s ids) c h) [
      | inl a ↦ (id, Contains-first id ids, first (clause_of s id) refl a)
      | inr b ↦ let w = clauses-from s ids c b in (w.0, Contains-later id ids w.0 w.1, w.2)
    ]

clauses-has : (s : List (Option (List Literal))) (ids : List ℕ) (id : ℕ) (c : List Literal) → Contains ids id → clause_of s id ≡ Some c → Contains (clauses_at s ids) c
clauses-has s [] id c h e = absurd (Contains-none id h)
clauses-has s (x ∷ ids) id c h e =
    elim (Contains-cases x ids id h) [
      | inl f ↦
          let own : clause_in (clause_of s x) ≡ c ∷ [] = ap (λ k. clause_in (clause_of s k)) (sym f) ∙ ap clause_in e in
          Contains-append_left (clause_in (clause_of s x)) (clauses_at s ids) c (rw own (Contains-first c []))
      | inr r ↦ Contains-append_right (clause_in (clause_of s x)) (clauses_at s ids) c (clauses-has s ids id c r e)
    ]

pub ids-clauses : (s : List (Option (List Literal))) (ids : List ℕ) (c : List Literal) → Contains (clauses_at s ids) c → (id : ℕ) × Contains ids id × (clause_of s id ≡ Some c)
ids-clauses s ids c h = clauses-from s ids c h

pub clauses-ids : (s : List (Option (List Literal))) (ids : List ℕ) (id : ℕ) (c : List Literal) → Contains ids id → clause_of s id ≡ Some c → Contains (clauses_at s ids) c
clauses-ids s ids id c h e = clauses-has s ids id c h e

-- exactly the live clauses with the literal
pub with-has : (l : Literal) (s : List (Option (List Literal))) (c : List Literal) → Contains (live_clauses s) c → Contains c l → Contains (clauses_at s (ids_with (place_of l) s)) c
with-has l s c m h = let w = live-id s c m in clauses-has s (ids_with (place_of l) s) w.0 c (id-in l s w.0 c w.1 h) w.1

pub with-only : (l : Literal) (s : List (Option (List Literal))) (c : List Literal) → Contains (clauses_at s (ids_with (place_of l) s)) c → Contains (live_clauses s) c × Contains c l
with-only l s c m =
    let w = clauses-from s (ids_with (place_of l) s) c m in
    let o = id-of l s w.0 w.1 in
    let same : o.0 ≡ c = (let q : Some o.0 ≡ Some c = sym o.1 ∙ w.2 in cc) in
    (live-at s w.0 c w.2, subst (λ (x : List Literal). Contains x l) same o.2)

-- what holds of live clauses
pub live-within : (h : Held) (c : List Literal) → IsStore h → Contains (live_clauses h.slots) c → All (IsUpTo h.vars) c
live-within h c s m = All-contains (All (IsUpTo h.vars)) (live_clauses h.slots) c s.labelled.hard_within m

pub live-normal : (h : Held) (c : List Literal) → IsStore h → Contains (live_clauses h.slots) c → rises 0 c ≡ true
live-normal h c s m = All-contains (λ c. IsTrue (rises 0 c)) (live_clauses h.slots) c s.labelled.hard_normal m

pub live-untautologous : (h : Held) (c : List Literal) → IsStore h → Contains (live_clauses h.slots) c → IsTautology c → ⊥
live-untautologous h c s m t = (rising_is_normal c ((store-variables h s).hard c m)).1 (live-normal h c s m) t

-- plain where no clause has the negation
pub plain-exact : (l : Literal) (s : List (Option (List Literal))) → (length (ids_with (place_of (negation l)) s) ≡ 0 → IsPlain l (live_clauses s)) × (IsPlain l (live_clauses s) → length (ids_with (place_of (negation l)) s) ≡ 0)
plain-exact l s = (
  λ z c i k j e.
      let w = live-id s c i in
      let m = id-in (negation l) s w.0 c w.1 (subst (Contains c) e j) in
      let lt = m.1 in omega (arith, lt, z),
  λ p.
      let step : (xs : List ℕ) → ids_with (place_of (negation l)) s ≡ xs → length xs ≡ 0 =
      λ (xs : List ℕ). elim xs as (λ xs. ids_with (place_of (negation l)) s ≡ xs → length xs ≡ 0) [
        | [] ↦ λ e. refl
        | id ∷ ids ↦ λ e.
            let w = id-of (negation l) s id (subst (λ (ys : List ℕ). Contains ys id) (sym e) (Contains-first id ids)) in
            absurd (p w.0 (live-at s id w.0 w.1) (negation l) w.2 refl)
      ] in
      step (ids_with (place_of (negation l)) s) refl,
)

pub live-ids : (l : Literal) (s : List (Option (List Literal))) (ids : List ℕ) → ids ≡ ids_with (place_of l) s → All (λ id. is_live s id ≡ true) ids
live-ids l s ids e = subst (λ (xs : List ℕ). All (λ id. is_live s id ≡ true) xs) (sym e) (ids-live l s)

pub no-ids : (l : Literal) (s : List (Option (List Literal))) (ids : List ℕ) → ids ≡ ids_with (place_of l) s → length ids ≡ 0 → IsUnused l (live_clauses s)
no-ids l s ids e z c i j =
    let w = live-id s c i in
    let m = subst (λ (xs : List ℕ). Contains xs w.0) (sym e) (id-in l s w.0 c w.1 j) in
    let lt = m.1 in omega (arith, lt, z)

pub plain-result : (l k : Literal) (s : List (Option (List Literal))) (ids : List ℕ) (b : Bool) → k ≡ negation l → ids ≡ ids_with (place_of k) s → b ≡ (length ids == 0) → IsTrue b ↔ IsPlain l (live_clauses s)
plain-result l k s ids b e f g =
    let is : ids ≡ ids_with (place_of (negation l)) s = f ∙ ap (λ (x : Literal). ids_with (place_of x) s) e in
    let x = plain-exact l s in
    (λ t. x.0 (ap (λ (xs : List ℕ). length xs) (sym is) ∙ eqb-true (length ids) 0 (sym g ∙ t)), λ p. g ∙ eq-eqb (length ids) 0 (ap (λ (xs : List ℕ). length xs) is ∙ x.1 p))
