-- Fixing a literal in a store keeps models and costs.
use Rattle.std.proofs.Common.{◌≡◌, ◌≢◌, ℕ, ◌+◌, ◌*◌, Bool, true, false, not, cond, List, [], ◌∷◌, ◌++◌, length, get_or, set, zero, suc, refl, sym, ◌∙◌, ap, subst, arith, sum_by, inl, inr, Contains, All, get_or-set_other, add-zero}
use Rattle.std.specs.Prelude.{Option, Some, None, ◌==◌, ◌||◌, map}
use Rattle.std.proofs.lemmas.Bool.{cases_eq, cases_Bool, eqb-true, eq-eqb, or_cases, or_right, or_parts, true≢false, false≢true, not-true}
use Rattle.std.proofs.lemmas.List.{append-nil}
use Rattle.std.proofs.lemmas.List.Elements.{All-contains, Contains-append_cases, Contains-append_left, Contains-append_right}
use Rattle.std.proofs.lemmas.List.Folds.{list_any-append}
use Rattle.std.proofs.lemmas.List.Sums.{sum_by-cons}
use Rattle.mp_logic.specs.Literal.{Literal, negation, IsUpTo}
use Rattle.mp_logic.specs.Truth.{literal_value, clause_value, IsSatisfied}
use Rattle.mp_logic.specs.Keeping.{charged, Keeps}
use Rattle.mp_logic.specs.Sets.{HasVariables}
use Rattle.mp_logic.specs.Rewrites.{set_repair}
use Rattle.mp_logic.specs.Fixing.{IsWithout, IsFixed, IsPaidFor}
use Rattle.mp_logic.specs.declared.instances.Cost.{Cost}
use Rattle.mp_logic.proofs.Members.{Contains-none, Contains-first, Contains-later, Contains-cases, Contains-one, satisfied}
use Rattle.mp_logic.proofs.Literals.{negation-negation, negation_false, same_or_negation}
use Rattle.mp_logic.proofs.Fixed.{fixing_keeps}
use Rattle.mp_clauses.specs.Places.{place_of, literal_at, has, is_in}
use Rattle.mp_store.specs.Held.{Held, labelled_of}
use Rattle.mp_clauses.specs.Slots.{clause_of, live_clauses, has_empty}
use Rattle.mp_clauses.specs.Weighing.{costs_from, costs_of, weight_in}
use Rattle.mp_clauses.specs.Slots.{cleared}
use Rattle.mp_clauses.specs.Weighing.{weighted}
use Rattle.mp_store.specs.Rewriting.{weights_after, changed_by, refuted_by, HasOneCostEach}
use Rattle.mp_store.specs.Soundness.{IsStore}
use Rattle.mp_store.specs.Fixing.{meets, clashes, without, slot_touched, touched_by, shortened, paid_off_one, fixing_of}
use Rattle.mp_store.specs.Laws.{RefutingKeeps, FixingKeepsStore}
use Rattle.mp_clauses.proofs.Pricing.{cost_at, sum-costs, literal-place, place-literal, costs_from-zeros}
use Rattle.mp_store.proofs.Sound.{live-after, live-cleared, table-after, costs-within, refuted-live}
use Rattle.mp_clauses.proofs.Found.{any-by, any-found, has-by, has-contains, ids_where-at}
use Rattle.mp_store.proofs.Fixes.{weights-fixed, fixing-valid, one-literal, set-zero, AreDistinct, shortened-from, shortened-has, filter-from, filter-has}

-- a live clause by its id
pub live-at : (s : List (Option (List Literal))) (k : ℕ) (c : List Literal) → clause_of s k ≡ Some c → Contains (live_clauses s) c
live-at [] k c h = absurd (cc)
live-at (None ∷ s) zero c h = absurd (cc)
live-at (Some d ∷ s) zero c h = let e : d ≡ c = cc in subst (Contains (d ∷ live_clauses s)) e (Contains-first d (live_clauses s))
live-at (None ∷ s) (suc k) c h = live-at s k c h
live-at (Some d ∷ s) (suc k) c h = Contains-later d (live_clauses s) c (live-at s k c h)

pub live-id : (s : List (Option (List Literal))) (c : List Literal) → Contains (live_clauses s) c → (k : ℕ) × (clause_of s k ≡ Some c)
live-id [] c h = absurd (Contains-none c h)
live-id (None ∷ s) c h = let w = live-id s c h in (suc w.0, w.1)
live-id (Some d ∷ s) c h = elim (Contains-cases d (live_clauses s) c h) [ inl e ↦ (zero, ap (λ x. Some x) (sym e)) | inr r ↦ let w = live-id s c r in (suc w.0, w.1) ]

-- what is cleared of the slots
set-none : (s : List (Option (List Literal))) (k j : ℕ) → k ≢ j → get_or (set s k None) j None ≡ get_or s j None
set-none s k j n = get_or-set_other s k j None None (λ e. n (sym e))

none-set : (s : List (Option (List Literal))) (k : ℕ) → get_or (set s k None) k None ≡ None
none-set [] k = refl
none-set (x ∷ s) zero = refl
none-set (x ∷ s) (suc k) = none-set s k

none-stays : (gone : List ℕ) (s : List (Option (List Literal))) (k : ℕ) → clause_of s k ≡ None → clause_of (cleared gone s) k ≡ None
none-stays [] s k h = h
none-stays (g ∷ gs) s k h = none-stays gs (set s g None) k (elim (cases_eq g k) [ inl e ↦ subst (λ j. clause_of (set s j None) k ≡ None) (sym e) (none-set s k) | inr n ↦ set-none s g k n ∙ h ])

pub cleared-out : (gone : List ℕ) (s : List (Option (List Literal))) (k : ℕ) → is_in k gone ≡ true → clause_of (cleared gone s) k ≡ None
cleared-out [] s k h = absurd (false≢true h)
cleared-out (g ∷ gs) s k h =
    elim (or_cases (g == k) (is_in k gs) h) [
      | inl t ↦ none-stays gs (set s g None) k (let e = eqb-true g k t in subst (λ j. clause_of (set s j None) k ≡ None) (sym e) (none-set s k))
      | inr t ↦ cleared-out gs (set s g None) k t
    ]

pub cleared-other : (gone : List ℕ) (s : List (Option (List Literal))) (k : ℕ) → is_in k gone ≡ false → clause_of (cleared gone s) k ≡ clause_of s k
cleared-other [] s k h = refl
cleared-other (g ∷ gs) s k h =
    let parts = or_parts (g == k) (is_in k gs) h in
    cleared-other gs (set s g None) k parts.1 ∙ set-none s g k (λ e. true≢false (sym (eq-eqb g k e) ∙ parts.0))

-- for one literal
one-has : (u l : Literal) → has (place_of l) (u ∷ []) ≡ true → l ≡ u
one-has u l h = Contains-one u l (has-contains (u ∷ []) l h)

pub meets-one : (u : Literal) (c : List Literal) → meets (u ∷ []) c ≡ true → Contains c u
meets-one u c h = let w = any-found (λ l. has (place_of l) (u ∷ [])) c h in subst (Contains c) (one-has u w.0 w.2) w.1

pub one-meets : (u : Literal) (c : List Literal) → Contains c u → meets (u ∷ []) c ≡ true
one-meets u c h = any-by (λ l. has (place_of l) (u ∷ [])) c u h (has-by (u ∷ []) u (Contains-first u []))

own-place : (u : Literal) → has (place_of (negation (negation u))) (u ∷ []) ≡ true
own-place u = subst (λ l. has (place_of l) (u ∷ []) ≡ true) (sym (negation-negation u)) (has-by (u ∷ []) u (Contains-first u []))

pub clashes-one : (u : Literal) (c : List Literal) → Contains c (negation u) → clashes (u ∷ []) c ≡ true
clashes-one u c h = any-by (λ l. has (place_of (negation l)) (u ∷ [])) c (negation u) h (own-place u)

pub negated-one : (u l : Literal) → has (place_of (negation l)) (u ∷ []) ≡ true → l ≡ negation u
negated-one u l h = sym (negation-negation l) ∙ ap negation (one-has u (negation l) h)

pub is-without : (u : Literal) (c : List Literal) → IsWithout u c (without (u ∷ []) c)
is-without u c = record {
  rest = λ k h. elim (cases_Bool (has (place_of (negation k)) (u ∷ []))) [
    | inl t ↦ inr (negated-one u k t)
    | inr f ↦ inl (filter-has (λ l. not (has (place_of (negation l)) (u ∷ []))) c k h (ap not f))
  ];
  only = λ k h.
      let w = filter-from (λ l. not (has (place_of (negation l)) (u ∷ []))) c k h in
      (w.0, λ e. true≢false (sym (subst (λ l. has (place_of (negation l)) (u ∷ []) ≡ true) (sym e) (own-place u)) ∙ not-true (has (place_of (negation k)) (u ∷ [])) w.1));
}

without-same : (u : Literal) (c : List Literal) → clashes (u ∷ []) c ≡ false → IsWithout u c c
without-same u c f = record {
  rest = λ k h. inl h;
  only = λ k h. (h, λ e. true≢false (sym (clashes-one u c (subst (Contains c) e h)) ∙ f));
}

abbrev pub new-slots : Literal → Held → List (Option (List Literal))
new-slots u h = cleared (touched_by (u ∷ []) h.slots) h.slots ++ map Some (shortened (u ∷ []) h.slots)

pub untouched-live : (u : Literal) (h : Held) (c : List Literal) → Contains (live_clauses h.slots) c → meets (u ∷ []) c ≡ false → clashes (u ∷ []) c ≡ false → Contains (live_clauses (new-slots u h)) c
untouched-live u h c m a b =
    let w = live-id h.slots c m in
    let test : slot_touched (u ∷ []) (clause_of h.slots w.0) ≡ false = rw w.1 (rw (a, b) refl) in
    let out : is_in w.0 (touched_by (u ∷ []) h.slots) ≡ false = ids_where-at (slot_touched (u ∷ [])) h.slots w.0 refl ∙ test in
    let stays = cleared-other (touched_by (u ∷ []) h.slots) h.slots w.0 out ∙ w.1 in
    rw (live-after (touched_by (u ∷ []) h.slots) (shortened (u ∷ []) h.slots) h.slots) (Contains-append_left (live_clauses (cleared (touched_by (u ∷ []) h.slots) h.slots)) (shortened (u ∷ []) h.slots) c (live-at (cleared (touched_by (u ∷ []) h.slots) h.slots) w.0 c stays))

-- a clause with the negation does not stay
stays-clear : (u : Literal) (h : Held) (k : ℕ) (d : List Literal) → clause_of (cleared (touched_by (u ∷ []) h.slots) h.slots) k ≡ Some d → clashes (u ∷ []) d ≡ true → ⊥
stays-clear u h k d e t =
    let ids = touched_by (u ∷ []) h.slots in
    elim (cases_Bool (is_in k ids)) [
      | inl i ↦ let n = cleared-out ids h.slots k i in cc
      | inr o ↦
          let was : clause_of h.slots k ≡ Some d = sym (cleared-other ids h.slots k o) ∙ e in
          let test : slot_touched (u ∷ []) (clause_of h.slots k) ≡ true = rw was (or_right (meets (u ∷ []) d) (clashes (u ∷ []) d) t) in
          true≢false (sym (ids_where-at (slot_touched (u ∷ [])) h.slots k refl ∙ test) ∙ o)
    ]

pub store-fixed : (u : Literal) (h : Held) → IsFixed u (live_clauses h.slots) (live_clauses (new-slots u h))
store-fixed u h = record {
  kept = λ c m lacks.
      let met : meets (u ∷ []) c ≡ false = elim (cases_Bool (meets (u ∷ []) c)) [ inl t ↦ absurd (lacks (meets-one u c t)) | inr f ↦ f ] in
      elim (cases_Bool (clashes (u ∷ []) c)) [
        | inl t ↦ (
          without (u ∷ []) c,
          rw (live-after (touched_by (u ∷ []) h.slots) (shortened (u ∷ []) h.slots) h.slots) (Contains-append_right (live_clauses (cleared (touched_by (u ∷ []) h.slots) h.slots)) (shortened (u ∷ []) h.slots) (without (u ∷ []) c) (shortened-has (u ∷ []) h.slots c m t met)),
          is-without u c,
        )
        | inr f ↦ (c, untouched-live u h c m met f, without-same u c f)
      ];
  only = λ d m.
      let split = rw (live-after (touched_by (u ∷ []) h.slots) (shortened (u ∷ []) h.slots) h.slots) at m in
      elim (Contains-append_cases (live_clauses (cleared (touched_by (u ∷ []) h.slots) h.slots)) (shortened (u ∷ []) h.slots) d split) [
        | inl a ↦
            let w = live-id (cleared (touched_by (u ∷ []) h.slots) h.slots) d a in
            (d, live-cleared (touched_by (u ∷ []) h.slots) h.slots d a, without-same u d (elim (cases_Bool (clashes (u ∷ []) d)) [ inl t ↦ absurd (stays-clear u h w.0 d w.1 t) | inr f ↦ f ]))
        | inr b ↦ let f = shortened-from (u ∷ []) h.slots d b in (f.clause, f.live, subst (λ x. IsWithout u f.clause x) (sym f.is) (is-without u f.clause))
      ];
}

cond-zero : (b : Bool) (n : ℕ) → n ≡ 0 → cond b n 0 ≡ 0
cond-zero true n e = e
cond-zero false n e = refl

differ : (b : Bool) (x y : ℕ) → x ≡ cond b 1 0 → y ≡ cond (not b) 1 0 → x ≡ y → ⊥
differ true x y e f g = omega arith
differ false x y e f g = omega arith

pair_by : (v : ℕ) (b : Bool) (w : List ℕ) → HasOneCostEach w → get_or w (2 * v + cond b 1 0) 0 ≢ 0 → get_or w (2 * v + cond (not b) 1 0) 0 ≡ 0
pair_by v true w o n =
    let z : 2 * v + 0 ≡ 2 * v = omega arith in
    elim (o v) [ inl e ↦ rw z e | inr e ↦ absurd (n e) ]
pair_by v false w o n =
    let z : 2 * v + 0 ≡ 2 * v = omega arith in
    elim (o v) [ inl e ↦ absurd (n (rw z e)) | inr e ↦ e ]

or_true : (b : Bool) → (b || true) ≡ true
or_true true = refl
or_true false = refl

empty-false : (a : List Bool) (c : List Literal) → length c ≡ 0 → clause_value a c ≡ true → ⊥
empty-false a [] e h = false≢true h
empty-false a (x ∷ c) e h = omega arith

-- what an assignment pays once a weight is put in as 0
charged-cons : (a : List Bool) (i w : ℕ) (ws : List ℕ) → sum_by (charged a) (costs_from i (w ∷ ws)) ≡ cond (literal_value a (literal_at i)) w 0 + sum_by (charged a) (costs_from (i + 1) ws)
charged-cons a i w ws =
    let step : (b : Bool) → (w == 0) ≡ b → sum_by (charged a) (cond b (costs_from (i + 1) ws) (record { lit = literal_at i; weight = w } ∷ costs_from (i + 1) ws)) ≡ cond (literal_value a (literal_at i)) w 0 + sum_by (charged a) (costs_from (i + 1) ws) =
    λ (t : Bool). elim t as (λ b. (w == 0) ≡ b → sum_by (charged a) (cond b (costs_from (i + 1) ws) (record { lit = literal_at i; weight = w } ∷ costs_from (i + 1) ws)) ≡ cond (literal_value a (literal_at i)) w 0 + sum_by (charged a) (costs_from (i + 1) ws)) [
      | true ↦ λ e. let z = eqb-true w 0 e in let none = cond-zero (literal_value a (literal_at i)) w z in omega arith
      | false ↦ λ e. sum_by-cons (charged a) (record { lit = literal_at i; weight = w }) (costs_from (i + 1) ws)
    ] in
    step (w == 0) refl

charged-set : (a : List Bool) (i : ℕ) (ws : List ℕ) (k : ℕ) → sum_by (charged a) (costs_from i (set ws k 0)) + cond (literal_value a (literal_at (i + k))) (get_or ws k 0) 0 ≡ sum_by (charged a) (costs_from i ws)
charged-set a i [] k = let z = cond-zero (literal_value a (literal_at (i + k))) 0 refl in omega arith
charged-set a i (w ∷ ws) zero =
    let n : i + 0 ≡ i = omega arith in
    let z = cond-zero (literal_value a (literal_at i)) 0 refl in
    rw n (omega (arith, charged-cons a i w ws, charged-cons a i 0 ws, z))
charged-set a i (w ∷ ws) (suc k) =
    let n : i + suc k ≡ i + 1 + k = omega arith in
    let rest = charged-set a (i + 1) ws k in
    rw n (omega (arith, charged-cons a i w ws, charged-cons a i w (set ws k 0), rest))

paid-here : (a : List Bool) (l : Literal) (k x : ℕ) (b : Bool) → k ≡ place_of l → literal_value a l ≡ b → cond (literal_value a (literal_at k)) x 0 ≡ cond b x 0
paid-here a l k x b e v = ap (λ m. cond {A = ℕ} (literal_value a m) x 0) (ap literal_at e ∙ literal-place l) ∙ ap (λ t. cond {A = ℕ} t x 0) v

-- the table once a literal is fixed
abbrev pub fixed-weights : Literal → Held → List ℕ
fixed-weights u h = weights_after (fixing_of (u ∷ []) h) h

-- of a literal's variable no weight is left, and where the literal is true only its own weight was paid
record PaidTable (u : Literal) (w new : List ℕ) : Type 0 where
  own : get_or new (place_of u) 0 ≡ 0
  other : get_or new (place_of (negation u)) 0 ≡ 0
  paid : (a : List Bool) → literal_value a u ≡ true → sum_by (charged a) (costs_of new) + weight_in w u ≡ sum_by (charged a) (costs_of w)

not-itself : (u : Literal) → place_of u ≢ place_of (negation u)
not-itself u e = differ u.negative (cond u.negative 1 0) (cond (not u.negative) 1 0) refl refl (omega arith)

pub variable_pair : (u : Literal) (w : List ℕ) → HasOneCostEach w → weight_in w u ≢ 0 → weight_in w (negation u) ≡ 0
variable_pair u w o n = pair_by u.variable u.negative w o n

paid-table : (u : Literal) (w : List ℕ) → HasOneCostEach w → PaidTable u w (weighted (paid_off_one w u) w)
paid-table u w o =
    let step : (x y : Bool) → (weight_in w u == 0) ≡ x → (weight_in w (negation u) == 0) ≡ y → PaidTable u w (weighted (cond x (cond y [] (record { lit = negation u; weight = 0 } ∷ [])) (record { lit = u; weight = 0 } ∷ [])) w) =
    λ (s : Bool) (t : Bool). elim s as (λ x. (weight_in w u == 0) ≡ x → (weight_in w (negation u) == 0) ≡ t → PaidTable u w (weighted (cond x (cond t [] (record { lit = negation u; weight = 0 } ∷ [])) (record { lit = u; weight = 0 } ∷ [])) w)) [
      | true ↦ λ e. let z : weight_in w u ≡ 0 = eqb-true (weight_in w u) 0 e in elim t as (λ y. (weight_in w (negation u) == 0) ≡ y → PaidTable u w (weighted (cond y [] (record { lit = negation u; weight = 0 } ∷ [])) w)) [
        | true ↦ λ f. record { own = z; other = eqb-true (weight_in w (negation u)) 0 f; paid = λ a v. omega arith }
        | false ↦ λ f. record {
          own = get_or-set_other w (place_of (negation u)) (place_of u) 0 0 (not-itself u) ∙ z;
          other = set-zero w (place_of (negation u));
          paid = λ a v.
              let change = charged-set a 0 w (place_of (negation u)) in
              let unpaid : cond (literal_value a (literal_at (0 + place_of (negation u)))) (get_or w (place_of (negation u)) 0) 0 ≡ 0 = paid-here a (negation u) (0 + place_of (negation u)) (get_or w (place_of (negation u)) 0) false (omega arith) (negation_false a u v) in
              omega arith;
        }
      ]
      | false ↦ λ e f.
          let n : weight_in w u ≢ 0 = λ z. true≢false (sym (eq-eqb (weight_in w u) 0 z) ∙ e) in
          record {
            own = set-zero w (place_of u);
            other = get_or-set_other w (place_of u) (place_of (negation u)) 0 0 (λ g. not-itself u (sym g)) ∙ variable_pair u w o n;
            paid = λ a v.
                let change = charged-set a 0 w (place_of u) in
                let full : cond (literal_value a (literal_at (0 + place_of u))) (get_or w (place_of u) 0) 0 ≡ weight_in w u = paid-here a u (0 + place_of u) (get_or w (place_of u) 0) true (omega arith) v in
                omega arith;
          }
    ] in
    step (weight_in w u == 0) (weight_in w (negation u) == 0) refl refl

pub table-fixed : (u : Literal) (h : Held) → fixed-weights u h ≡ weighted (paid_off_one h.weights u) h.weights
table-fixed u h = weights-fixed h (u ∷ []) ∙ ap (λ cs. weighted cs h.weights) (append-nil (paid_off_one h.weights u))

pub one-distinct : (u : Literal) → AreDistinct (u ∷ [])
one-distinct u = refl

pub store-paid : (u : Literal) (h : Held) → IsStore h → IsUpTo h.vars u → IsPaidFor u (labelled_of h) (labelled_of (changed_by (fixing_of (u ∷ []) h) h))
store-paid u h s up =
    let table : PaidTable u h.weights (fixed-weights u h) = subst (PaidTable u h.weights) (sym (table-fixed u h)) (paid-table u h.weights s.weights.one_each) in
    let valid = fixing-valid (u ∷ []) h s (one-distinct u) (one-literal h.vars u up) in
    let shift : sum_by (weight_in h.weights) (u ∷ []) ≡ weight_in h.weights u = sum_by-cons (weight_in h.weights) u [] ∙ add-zero (weight_in h.weights u) in
    record {
      same = λ a v. let p = table.paid a v in omega arith;
      none = λ p m.
          let c = cost_at 0 (fixed-weights u h) p m in
          let within = All-contains (λ (q : Cost). IsUpTo (h.vars + 0) q.lit) (costs_of (fixed-weights u h)) p (costs-within (h.vars + 0) (fixed-weights u h) (table-after (fixing_of (u ∷ []) h) h s valid)) m in
          let at : place_of p.lit ≡ c.place = let n : 0 + c.place ≡ c.place = omega arith in ap (λ (q : Cost). place_of q.lit) c.is ∙ (place-literal (0 + c.place) ∙ n) in (
            within.0,
            λ e. elim (same_or_negation p.lit u e) [
              | inl f ↦ c.some (subst (λ k. get_or (fixed-weights u h) k 0 ≡ 0) (ap place_of (sym f) ∙ at) table.own)
              | inr f ↦ c.some (subst (λ k. get_or (fixed-weights u h) k 0 ≡ 0) (ap place_of (sym f) ∙ at) table.other)
            ],
          );
      total = let t = valid.total in rw (sum-costs 0 (fixed-weights u h), sum-costs 0 h.weights) t;
    }

pub store-variables : (h : Held) → IsStore h → HasVariables (labelled_of h)
store-variables h s = record {
  hard = λ c m k i. (All-contains (IsUpTo h.vars) c k (All-contains (All (IsUpTo h.vars)) (live_clauses h.slots) c s.labelled.hard_within m) i).0;
  costs = λ p m. (All-contains (λ (q : Cost). IsUpTo h.vars q.lit) (costs_of h.weights) p s.labelled.costs_within m).0;
}

-- an empty clause has no model
no-model : (a : List Bool) (cs : List (List Literal)) → has_empty cs ≡ true → IsSatisfied a cs → ⊥
no-model a cs e m =
    let w = any-found (λ (c : List Literal). length c == 0) cs e in
    empty-false a w.0 (eqb-true (length w.0) 0 w.2) (satisfied a cs w.0 m w.1)

pub refuting_keeps : RefutingKeeps
refuting_keeps s r h repairs k =
    let step : (b : Bool) → has_empty r.added ≡ b → Keeps s (labelled_of (cond b (refuted_by r h) (changed_by r h))) repairs =
    λ (t : Bool). elim t as (λ b. has_empty r.added ≡ b → Keeps s (labelled_of (cond b (refuted_by r h) (changed_by r h))) repairs) [
      | true ↦ λ e. record {
        down = λ a m. absurd (false≢true (satisfied a ([] ∷ []) [] (rw (refuted-live (length h.slots)) at m) (Contains-first [] [])));
        up = λ a m. let b = k.up a m in absurd (no-model b.0 (live_clauses (cleared r.gone h.slots ++ map Some r.added)) (rw (live-after r.gone r.added h.slots) (list_any-append (λ (c : List Literal). length c == 0) (live_clauses (cleared r.gone h.slots)) r.added ∙ rw e (or_true (has_empty (live_clauses (cleared r.gone h.slots)))))) b.1);
        vars = k.vars;
        total = let t = k.total in rw (costs_from-zeros 0 (length h.weights + 2 * r.fresh)) (omega arith);
      }
      | false ↦ λ e. k
    ] in
    step (has_empty r.added) refl

pub fixing_keeps_store : FixingKeepsStore
fixing_keeps_store h u s up bends =
    let same : h.vars + 0 ≡ h.vars = omega arith in
    refuting_keeps (labelled_of h) (fixing_of (u ∷ []) h) h (set_repair u (u ∷ []) ∷ [])
    (fixing_keeps (labelled_of h) (labelled_of (changed_by (fixing_of (u ∷ []) h) h)) u (store-variables h s) up.0 bends (store-fixed u h) (store-paid u h s up) same)
