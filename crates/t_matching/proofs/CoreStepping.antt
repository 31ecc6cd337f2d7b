-- What the rewrite of a binary core does to a store.
use Rattle.std.proofs.Common.{◌≡◌, ◌≢◌, ◌⊎◌, ℕ, ◌+◌, Bool, true, false, not, cond, List, [], ◌∷◌, ◌++◌, length, zero, suc, refl, sym, ◌∙◌, ap, subst, arith, inl, inr, Contains, All, IsTrue}
use Rattle.std.specs.Prelude.{Option, Some, None, ◌==◌}
use Rattle.std.specs.List.{count_by}
use Rattle.std.proofs.lemmas.Bool.{cases_Bool, true≢false, ne_eqb, eq-eqb, not-true, and_parts, and_from}
use Rattle.std.proofs.lemmas.List.Elements.{All-contains, Contains-append_cases, Contains-append_left, Contains-append_right}
use Rattle.std.proofs.lemmas.List.Sums.{sum_by-cons}
use Rattle.mp_logic.specs.Literal.{Literal, negation, IsUpTo}
use Rattle.mp_logic.specs.Normal.{rises, IsTautology}
use Rattle.mp_logic.specs.Keeping.{State, Keeps}
use Rattle.mp_logic.specs.Labelled.{IsProper}
use Rattle.mp_logic.specs.SubsumedLabels.{IsPlain}
use Rattle.mp_logic.specs.Rewrites.{set_repair}
use Rattle.mp_logic.specs.LabelMatching.{Conflict, matching_repairs}
use Rattle.mp_logic.specs.BinaryCores.{IsCored, IsJoined, IsSideList, HasNot, core_repairs}
use Rattle.mp_logic.specs.declared.instances.Cost.{Cost}
use Rattle.mp_logic.specs.declared.instances.Repair.{Repair}
use Rattle.mp_logic.proofs.Members.{Contains-none, Contains-first, Contains-later, Contains-cases, Contains-one, All-from_contained}
use Rattle.mp_logic.proofs.Literals.{cases_literal, negation-negation, same_or_negation}
use Rattle.mp_logic.proofs.Cored.{coring_keeps}
use Rattle.mp_store.specs.declared.rewrite.Rewrite.{Rewrite}
use Rattle.mp_clauses.specs.Places.{place_of, has, is_in, no_repeats}
use Rattle.mp_store.specs.Held.{Held, labelled_of, IsUntouched}
use Rattle.mp_clauses.specs.Slots.{clause_of, is_live, live_clauses, has_empty}
use Rattle.mp_clauses.specs.Weighing.{weight_in}
use Rattle.mp_clauses.specs.Occurrences.{ids_with, slot_has}
use Rattle.mp_store.specs.Rewriting.{weights_after, changed_by, after, IsValid}
use Rattle.mp_store.specs.Soundness.{IsStore}
use Rattle.mp_clauses.proofs.Found.{ids_where-once, is_in-by, is_in-contains, has-by}
use Rattle.mp_store.proofs.Fixes.{sum-set-zero, one_each-zeros, filter-from, filter-has}
use Rattle.mp_store.proofs.KeptFixing.{live-id, live-at, store-variables}
use Rattle.mp_store.proofs.Changes.{ones}
use Rattle.mp_store.proofs.Replaced.{replaced_clauses, after-plain}
use Rattle.mp_store.proofs.Rewritten.{run-after}
use Rattle.mp_store.proofs.Runs.{run-untouched}
use Rattle.t_matching.specs.Joins.{clauses_at, IsJoinOf, AreAllJoins}
use Rattle.t_matching.specs.Cores.{has_both, other_ids, AreCore, core_rewrite, IsCoreRewrite, IsCoreStep, IsFarFrom, LeavesVariables}
use Rattle.t_matching.proofs.Labels.{cost-weight, label-within, id-in, id-of, id-out, ids-live, ids-clauses, clauses-ids, live-within, live-normal, live-untautologous}
use Rattle.t_matching.proofs.Splits.{joins-from, joins-has, join-normal, none-empty, order-has, order-only, split-proper, proper-repair}
use Rattle.t_matching.proofs.CoreStay.{IsFar, HasOldVariables, core-stays}
use Rattle.t_matching.proofs.Zeroed.{table-zeroed, one-cost, zero-one, zeroed-once, costs-left-in}

-- the one clause with both stands under one id
counted : (p : List Literal → Bool) (c : List Literal) (cs : List (List Literal)) (n : ℕ) (b : Bool) → count_by p (c ∷ cs) ≡ n → p c ≡ b → cond b 1 0 + count_by p cs ≡ n
counted p c cs n true h e = let m = sum_by-cons (λ x. cond {A = ℕ} (p x) 1 0) c cs in let f : cond (p c) 1 0 ≡ 1 = ap (λ b. cond {A = ℕ} b 1 0) e in omega (arith, h, m, f)
counted p c cs n false h e = let m = sum_by-cons (λ x. cond {A = ℕ} (p x) 1 0) c cs in let f : cond (p c) 1 0 ≡ 0 = ap (λ b. cond {A = ℕ} b 1 0) e in omega (arith, h, m, f)

none-counted : (p : List Literal → Bool) (s : List (Option (List Literal))) (j : ℕ) (b : List Literal) → count_by p (live_clauses s) ≡ 0 → clause_of s j ≡ Some b → p b ≡ true → ⊥
none-counted p [] j b n e t = absurd (cc)
none-counted p (None ∷ s) zero b n e t = absurd (cc)
none-counted p (None ∷ s) (suc j) b n e t = none-counted p s j b n e t
none-counted p (Some c ∷ s) zero b n e t =
    let same : c ≡ b = cc in
    let m = counted p c (live_clauses s) 0 true n (ap p same ∙ t) in
    omega (arith, m)
none-counted p (Some c ∷ s) (suc j) b n e t =
    let m = counted p c (live_clauses s) 0 (p c) n refl in
    none-counted p s j b (omega (arith, m)) e t

pub one-counted : (p : List Literal → Bool) (s : List (Option (List Literal))) (i j : ℕ) (a b : List Literal) → count_by p (live_clauses s) ≡ 1 → clause_of s i ≡ Some a → p a ≡ true → clause_of s j ≡ Some b → p b ≡ true → i ≡ j
one-counted p [] i j a b n e t f u = absurd (cc)
one-counted p (None ∷ s) zero j a b n e t f u = absurd (cc)
one-counted p (None ∷ s) (suc i) zero a b n e t f u = absurd (cc)
one-counted p (None ∷ s) (suc i) (suc j) a b n e t f u = ap suc (one-counted p s i j a b n e t f u)
one-counted p (Some c ∷ s) zero zero a b n e t f u = refl
one-counted p (Some c ∷ s) zero (suc j) a b n e t f u =
    let same : c ≡ a = cc in
    let m = counted p c (live_clauses s) 1 true n (ap p same ∙ t) in
    absurd (none-counted p s j b (omega (arith, m)) f u)
one-counted p (Some c ∷ s) (suc i) zero a b n e t f u =
    let same : c ≡ b = cc in
    let m = counted p c (live_clauses s) 1 true n (ap p same ∙ u) in
    absurd (none-counted p s i a (omega (arith, m)) e t)
one-counted p (Some c ∷ s) (suc i) (suc j) a b n e t f u =
    let step : (q : Bool) → p c ≡ q → suc i ≡ suc j =
    λ (q : Bool). elim q as (λ q. p c ≡ q → suc i ≡ suc j) [
      | true ↦ λ g. let m = counted p c (live_clauses s) 1 true n g in absurd (none-counted p s i a (omega (arith, m)) e t)
      | false ↦ λ g. let m = counted p c (live_clauses s) 1 false n g in ap suc (one-counted p s i j a b (omega (arith, m)) e t f u)
    ] in
    step (p c) refl

both-by : (l m : Literal) (c : List Literal) → Contains c l → Contains c m → has_both l m c ≡ true
both-by l m c i j = and_from (has (place_of l) c) (has (place_of m) c) (has-by c l i) (has-by c m j)

-- all ids but one
others-in : (id : ℕ) (ids : List ℕ) (x : ℕ) → Contains ids x → x ≢ id → Contains (other_ids id ids) x
others-in id ids x i n = filter-has (λ x. not (x == id)) ids x i (ap not (ne_eqb x id n))

others-of : (id : ℕ) (ids : List ℕ) (x : ℕ) → Contains (other_ids id ids) x → Contains ids x × (x ≢ id)
others-of id ids x i =
    let w = filter-from (λ x. not (x == id)) ids x i in
    (w.0, λ e. true≢false (sym (eq-eqb x id e) ∙ not-true (x == id) w.1))

not-in : (ids : List ℕ) (x : ℕ) → (Contains ids x → ⊥) → is_in x ids ≡ false
not-in ids x h = elim (cases_Bool (is_in x ids)) [ inl t ↦ absurd (h (is_in-contains ids x t)) | inr f ↦ f ]

others-once : (id : ℕ) (ids : List ℕ) → no_repeats ids ≡ true → no_repeats (other_ids id ids) ≡ true
others-once id [] h = refl
others-once id (x ∷ ids) h =
    let parts = and_parts (not (is_in x ids)) (no_repeats ids) h in
    let rest = others-once id ids parts.1 in
    let gone : is_in x (other_ids id ids) ≡ false = not-in (other_ids id ids) x (λ i. true≢false (sym (is_in-by ids x (others-of id ids x i).0) ∙ not-true (is_in x ids) parts.0)) in
    elim (not (x == id)) as (λ b. no_repeats (cond b (x ∷ other_ids id ids) (other_ids id ids)) ≡ true) [ true ↦ rw (gone, rest) refl | false ↦ rest ]

both-once : (xs ys : List ℕ) → no_repeats xs ≡ true → no_repeats ys ≡ true → ((x : ℕ) → Contains xs x → Contains ys x → ⊥) → no_repeats (xs ++ ys) ≡ true
both-once [] ys h k apart = k
both-once (x ∷ xs) ys h k apart =
    let parts = and_parts (not (is_in x xs)) (no_repeats xs) h in
    let rest = both-once xs ys parts.1 k (λ y i j. apart y (Contains-later x xs y i) j) in
    let out : is_in x (xs ++ ys) ≡ false = not-in (xs ++ ys) x (λ i. elim (Contains-append_cases xs ys x i) [
      | inl a ↦ true≢false (sym (is_in-by xs x a) ∙ not-true (is_in x xs) parts.0)
      | inr b ↦ apart x (Contains-first x xs) b
    ]) in
    rw (out, rest) refl

-- what is known of a core
pub record CoreParts (l m : Literal) (h : Held) (id : ℕ) (pair : List Literal) (w : ℕ) : Type 0 where
  pub up_l : IsUpTo h.vars l
  pub up_m : IsUpTo h.vars m
  pub weight_l : weight_in h.weights l ≡ w
  pub weight_m : weight_in h.weights m ≡ w
  pub some : w ≢ 0
  pub only : (k : ℕ) (c : List Literal) → clause_of h.slots k ≡ Some c → Contains c l → Contains c m → k ≡ id
  pub live : Contains (live_clauses h.slots) pair

pub core-parts : (h : Held) (l m : Literal) (r : Rewrite) → IsStore h → AreCore l m (labelled_of h) → (c : IsCoreRewrite l m h r) → CoreParts l m h c.id c.pair (weight_in h.weights l)
core-parts h l m r s core c =
    let w = core.weight in
    let a = cost-weight h.weights (record { lit = l; weight = w.0 }) w.1 in
    let b = cost-weight h.weights (record { lit = m; weight = w.0 }) w.2 in
    record {
      up_l = label-within h l s (λ z. a.1 (sym a.0 ∙ z));
      up_m = label-within h m s (λ z. b.1 (sym b.0 ∙ z));
      weight_l = refl;
      weight_m = b.0 ∙ sym a.0;
      some = λ z. a.1 (sym a.0 ∙ z);
      only = λ k d e i j. one-counted (has_both l m) h.slots k c.id d c.pair core.one e (both-by l m d i j) c.at (both-by l m c.pair c.has_l c.has_m);
      live = live-at h.slots c.id c.pair c.at;
    }

-- the clauses of one label only
side-has : (h : Held) (l m : Literal) (id : ℕ) (pair c : List Literal) → clause_of h.slots id ≡ Some pair → Contains pair m → Contains (live_clauses h.slots) c → Contains c l → HasNot c m → Contains (clauses_at h.slots (other_ids id (ids_with (place_of l) h.slots))) c
side-has h l m id pair c at own live has lacks =
    let w = live-id h.slots c live in
    let other : w.0 ≢ id = λ e. lacks (let q : Some pair ≡ Some c = sym at ∙ (ap (clause_of h.slots) (sym e) ∙ w.1) in let same : pair ≡ c = cc in subst (λ (x : List Literal). Contains x m) same own) in
    clauses-ids h.slots (other_ids id (ids_with (place_of l) h.slots)) w.0 c (others-in id (ids_with (place_of l) h.slots) w.0 (id-in l h.slots w.0 c w.1 has) other) w.1

side-only : (h : Held) (l m : Literal) (id : ℕ) (c : List Literal) → ((k : ℕ) (c : List Literal) → clause_of h.slots k ≡ Some c → Contains c l → Contains c m → k ≡ id) → Contains (clauses_at h.slots (other_ids id (ids_with (place_of l) h.slots))) c → Contains (live_clauses h.slots) c × Contains c l × HasNot c m
side-only h l m id c only i =
    let w = ids-clauses h.slots (other_ids id (ids_with (place_of l) h.slots)) c i in
    let o = others-of id (ids_with (place_of l) h.slots) w.0 w.1 in
    let d = id-of l h.slots w.0 o.0 in
    let same : d.0 ≡ c = (let q : Some d.0 ≡ Some c = sym d.1 ∙ w.2 in cc) in
    let own = subst (λ (x : List Literal). Contains x l) same d.2 in
    (live-at h.slots w.0 c w.2, own, λ j. o.1 (only w.0 c w.2 own j))

-- joins of all
all-joins-from : (m : Literal) (cs ds rs : List (List Literal)) (r : List Literal) → AreAllJoins cs m ds rs → Contains rs r → (c : List Literal) × (d : List Literal) × Contains cs c × Contains ds d × IsJoinOf c d m r × (IsTautology r → ⊥)
all-joins-from m [] ds rs r h i = absurd (Contains-none r (subst (λ (x : List (List Literal)). Contains x r) h i))
all-joins-from m (c ∷ cs) ds rs r h i =
    elim (Contains-append_cases h.0 h.1 r (subst (λ (x : List (List Literal)). Contains x r) h.2 i)) [
      | inl a ↦ let w = joins-from c m ds h.0 r h.3 a in (c, w.0, Contains-first c cs, w.1, w.2, w.3)
      | inr b ↦ let w = all-joins-from m cs ds h.1 r h.4 b in (w.0, w.1, Contains-later c cs w.0 w.2, w.3, w.4, w.5)
    ]

all-joins-has : (m : Literal) (cs ds rs : List (List Literal)) (c d : List Literal) → AreAllJoins cs m ds rs → Contains cs c → Contains ds d → (r : List Literal) × IsJoinOf c d m r × (IsTautology r ⊎ Contains rs r)
all-joins-has m [] ds rs c d h i j = absurd (Contains-none c i)
all-joins-has m (x ∷ cs) ds rs c d h i j =
    elim (Contains-cases x cs c i) [
      | inl e ↦
          let w = joins-has x m ds h.0 d h.3 j in
          (w.0, subst (λ (y : List Literal). IsJoinOf y d m w.0) (sym e) w.1, elim w.2 [ inl t ↦ inl t | inr k ↦ inr (subst (λ (y : List (List Literal)). Contains y w.0) (sym h.2) (Contains-append_left h.0 h.1 w.0 k)) ])
      | inr k ↦
          let w = all-joins-has m cs ds h.1 c d h.4 k j in
          (w.0, w.1, elim w.2 [ inl t ↦ inl t | inr q ↦ inr (subst (λ (y : List (List Literal)). Contains y w.0) (sym h.2) (Contains-append_right h.0 h.1 w.0 q)) ])
    ]

-- a clause that goes
gone-live : (h : Held) (l m : Literal) (id : ℕ) (k : ℕ) → Contains (ids_with (place_of l) h.slots ++ other_ids id (ids_with (place_of m) h.slots)) k → is_live h.slots k ≡ true
gone-live h l m id k i =
    elim (Contains-append_cases (ids_with (place_of l) h.slots) (other_ids id (ids_with (place_of m) h.slots)) k i) [
      | inl a ↦ All-contains (λ id. is_live h.slots id ≡ true) (ids_with (place_of l) h.slots) k (ids-live l h.slots) a
      | inr b ↦ All-contains (λ id. is_live h.slots id ≡ true) (ids_with (place_of m) h.slots) k (ids-live m h.slots) (others-of id (ids_with (place_of m) h.slots) k b).0
    ]

pub core-valid : (h : Held) (l m : Literal) (r : Rewrite) → IsStore h → AreCore l m (labelled_of h) → (c : IsCoreRewrite l m h r) → IsValid (core_rewrite l m (weight_in h.weights l) c.id h c.added c.repairs) h
core-valid h l m r s core c =
    let p = core-parts h l m r s core c in
    let same : h.vars + 0 ≡ h.vars = omega arith in
    let table = table-zeroed h.weights m in
    let ids_l = ids_with (place_of l) h.slots in
    let ids_m = ids_with (place_of m) h.slots in
    let each = λ (d : List Literal) (i : Contains c.added d).
    (let w = all-joins-from m (clauses_at h.slots (other_ids c.id ids_l)) (clauses_at h.slots (other_ids c.id ids_m)) c.added d c.joins i in
    let a = side-only h l m c.id w.0 p.only w.2 in
    let b = side-only h m l c.id w.1 (λ k x e u v. p.only k x e v u) w.3 in
    join-normal h.vars w.0 w.1 m d (λ k j. All-contains (IsUpTo h.vars) w.0 k (live-within h w.0 s a.0) j) (λ k j. All-contains (IsUpTo h.vars) w.1 k (live-within h w.1 s b.0) j) w.4 w.5) in
    let x = c.split in
    record {
      gone_live = All-from_contained (λ id. is_live h.slots id ≡ true) (ids_l ++ other_ids c.id ids_m) (λ k i. gone-live h l m c.id k i);
      gone_distinct = both-once ids_l (other_ids c.id ids_m) (ids_where-once (slot_has (place_of l)) 0 h.slots) (others-once c.id ids_m (ids_where-once (slot_has (place_of m)) 0 h.slots))
          (λ k i j.
          let o = others-of c.id ids_m k j in
          let a = id-of l h.slots k i in
          let b = id-of m h.slots k o.0 in
          let is : b.0 ≡ a.0 = (let q : Some b.0 ≡ Some a.0 = sym b.1 ∙ a.1 in cc) in
          o.1 (p.only k a.0 a.1 a.2 (subst (λ (y : List Literal). Contains y m) is b.2)));
      added_normal = All-from_contained (λ c. IsTrue (rises 0 c)) c.added (λ d i. (each d i).1);
      fresh = omega arith;
      limit = rw same s.limit;
      added_within = rw same (All-from_contained (All (IsUpTo h.vars)) c.added (λ d i. (each d i).0));
      costs_within = rw same (one-cost h.vars m p.up_m);
      costs_distinct = refl;
      repairs_proper = rw same (All-from_contained (IsProper h.vars) c.repairs (λ q i. elim (Contains-cases (set_repair l c.pair) (matching_repairs l m x.0 x.1) q (subst (λ (ps : List Repair). Contains ps q) x.4 i)) [
        | inl e ↦ rw e (proper-repair h.vars l c.pair p.up_l (live-within h c.pair s p.live) (live-normal h c.pair s p.live))
        | inr j ↦ split-proper h l m x.0 x.1 s p.up_l p.up_m
            (λ d k. (side-only h l m c.id d p.only (order-only (clauses_at h.slots (other_ids c.id ids_l)) x.0 d x.2 k)).0)
            (λ d k. (side-only h m l c.id d (λ k x e u v. p.only k x e v u) (order-only (clauses_at h.slots (other_ids c.id ids_m)) x.1 d x.3 k)).0)
            q j
      ]));
      apart = rw table (one_each-zeros (record { lit = m; weight = 0 } ∷ []) h.weights (zero-one m) s.weights.one_each);
      total = rw table (omega (arith, sum-set-zero h.weights (place_of m), p.weight_m));
    }

pub core-is-valid : (h : Held) (l m : Literal) (r : Rewrite) → IsStore h → AreCore l m (labelled_of h) → IsCoreRewrite l m h r → IsValid r h
core-is-valid h l m r s core c = rw c.is (core-valid h l m r s core c)

-- the pair has nothing else
pair-third : (p : List Literal) (a b k : Literal) → length p ≡ 2 → Contains p a → Contains p b → a ≢ b → Contains p k → (k ≡ a) ⊎ (k ≡ b)
pair-third [] a b k n i j d q = absurd (omega (arith, n))
pair-third (x ∷ []) a b k n i j d q = absurd (omega (arith, n))
pair-third (x ∷ (y ∷ (z ∷ p))) a b k n i j d q = absurd (omega (arith, n))
pair-third (x ∷ (y ∷ [])) a b k n i j d q =
    let two : (c : Literal) → Contains (x ∷ (y ∷ [])) c → (c ≡ x) ⊎ (c ≡ y) = λ c h. elim (Contains-cases x (y ∷ []) c h) [ inl e ↦ inl e | inr r ↦ inr (Contains-one y c r) ] in
    elim (two a i) [
      | inl ea ↦ elim (two b j) [
        | inl eb ↦ absurd (d (ea ∙ sym eb))
        | inr eb ↦ elim (two k q) [ inl e ↦ inl (e ∙ sym ea) | inr e ↦ inr (e ∙ sym eb) ]
      ]
      | inr ea ↦ elim (two b j) [
        | inl eb ↦ elim (two k q) [ inl e ↦ inr (e ∙ sym eb) | inr e ↦ inl (e ∙ sym ea) ]
        | inr eb ↦ absurd (d (ea ∙ sym eb))
      ]
    ]

-- a tautology among joins is a conflict
join-conflict : (h : Held) (l m : Literal) (c d r : List Literal) → IsStore h → IsPlain l (live_clauses h.slots) → IsPlain m (live_clauses h.slots) → Contains (live_clauses h.slots) c → Contains (live_clauses h.slots) d → HasNot c m → HasNot d l → IsJoinOf c d m r → IsTautology r → Conflict l m c d
join-conflict h l m c d r s pl pm live_c live_d lacks_m lacks_l join t =
    let far_c : (k : Literal) → Contains c k → Contains d (negation k) → (negation k ≢ m) → Conflict l m c d = λ k i j n. (
      k,
      λ e. elim (same_or_negation k l e) [ inl f ↦ pl d live_d (negation k) j (ap negation f) | inr f ↦ pl c live_c k i f ],
      λ e. elim (same_or_negation k m e) [ inl f ↦ lacks_m (subst (Contains c) f i) | inr f ↦ pm c live_c k i f ],
      i,
      j,
    ) in
    let other = negation t.0 in
    elim ((join.each t.0).0 t.1) [
      | inl a ↦ elim ((join.each other).0 t.2) [
        | inl b ↦ absurd (live-untautologous h c s live_c (t.0, a, b))
        | inr b ↦ far_c t.0 a b.0 b.1
      ]
      | inr a ↦ elim ((join.each other).0 t.2) [
        | inl b ↦ far_c other b (subst (Contains d) (sym (negation-negation t.0)) a.0) (λ e. a.1 (sym (negation-negation t.0) ∙ e))
        | inr b ↦ absurd (live-untautologous h d s live_d (t.0, a.0, b.0))
      ]
    ]

joined-by : (h : Held) (l m : Literal) (c d r : List Literal) → IsPlain l (live_clauses h.slots) → IsPlain m (live_clauses h.slots) → Contains (live_clauses h.slots) c → Contains (live_clauses h.slots) d → HasNot c m → HasNot d l → IsJoinOf c d m r → IsJoined l m c d r
joined-by h l m c d r pl pm live_c live_d lacks_m lacks_l join = record {
  left = λ k i. (join.each k).1 (inl i);
  right = λ k i. elim (cases_literal k m) [ inl e ↦ inr e | inr n ↦ inl ((join.each k).1 (inr (i, n))) ];
  only = λ k i. elim (cases_literal k l) [
    | inl e ↦ inl e
    | inr n ↦ inr (elim ((join.each k).0 i) [
      | inl a ↦ (
        λ e. elim (same_or_negation k l e) [ inl f ↦ n f | inr f ↦ pl c live_c k a f ],
        λ e. elim (same_or_negation k m e) [ inl f ↦ lacks_m (subst (Contains c) f a) | inr f ↦ pm c live_c k a f ],
        inl a,
      )
      | inr b ↦ (
        λ e. elim (same_or_negation k l e) [ inl f ↦ n f | inr f ↦ pl d live_d k b.0 f ],
        λ e. elim (same_or_negation k m e) [ inl f ↦ b.1 f | inr f ↦ pm d live_d k b.0 f ],
        inr b.0,
      )
    ])
  ];
}

out-of-gone : (h : Held) (l m : Literal) (id k : ℕ) (c : List Literal) → clause_of h.slots k ≡ Some c → HasNot c l → HasNot c m → is_in k (ids_with (place_of l) h.slots ++ other_ids id (ids_with (place_of m) h.slots)) ≡ false
out-of-gone h l m id k c e a b = not-in (ids_with (place_of l) h.slots ++ other_ids id (ids_with (place_of m) h.slots)) k (λ i. elim (Contains-append_cases (ids_with (place_of l) h.slots) (other_ids id (ids_with (place_of m) h.slots)) k i) [
  | inl x ↦ true≢false (sym (is_in-by (ids_with (place_of l) h.slots) k x) ∙ id-out l h.slots k c e a)
  | inr y ↦ true≢false (sym (is_in-by (ids_with (place_of m) h.slots) k (others-of id (ids_with (place_of m) h.slots) k y).0) ∙ id-out m h.slots k c e b)
])

in-gone-false : (h : Held) (l m : Literal) (id k : ℕ) → is_in k (ids_with (place_of l) h.slots ++ other_ids id (ids_with (place_of m) h.slots)) ≡ false → (Contains (ids_with (place_of l) h.slots) k → ⊥) × (Contains (ids_with (place_of m) h.slots) k → k ≢ id → ⊥)
in-gone-false h l m id k f =
    let all = ids_with (place_of l) h.slots ++ other_ids id (ids_with (place_of m) h.slots) in (
      λ i. true≢false (sym (is_in-by all k (Contains-append_left (ids_with (place_of l) h.slots) (other_ids id (ids_with (place_of m) h.slots)) k i)) ∙ f),
      λ i n. true≢false (sym (is_in-by all k (Contains-append_right (ids_with (place_of l) h.slots) (other_ids id (ids_with (place_of m) h.slots)) k (others-in id (ids_with (place_of m) h.slots) k i n))) ∙ f),
    )

abbrev after-core : Literal → Literal → ℕ → ℕ → Held → List (List Literal) → List Repair → State
after-core l m w id h added repairs = labelled_of (changed_by (core_rewrite l m w id h added repairs) h)

pub store-cored : (h : Held) (l m : Literal) (r : Rewrite) → IsStore h → AreCore l m (labelled_of h) → (c : IsCoreRewrite l m h r) → IsCored l m c.pair (live_clauses h.slots) (after-core l m (weight_in h.weights l) c.id h c.added c.repairs).hard
store-cored h l m r s core c =
    let p = core-parts h l m r s core c in
    let back : (k : ℕ) (x : List Literal) → clause_of h.slots k ≡ Some x → Contains x m → Contains x l → k ≡ c.id = λ k x e u v. p.only k x e v u in
    let ids_l = ids_with (place_of l) h.slots in
    let ids_m = ids_with (place_of m) h.slots in
    let change = replaced_clauses (ids_l ++ other_ids c.id ids_m) c.added h.slots in
    let alone : (x : List Literal) → Contains (live_clauses h.slots) x → Contains x l → Contains x m → x ≡ c.pair = λ x i a b.
    (let w = live-id h.slots x i in
    let k = p.only w.0 x w.1 a b in
    let q : Some x ≡ Some c.pair = sym w.1 ∙ (ap (clause_of h.slots) k ∙ c.at) in
    let is : x ≡ c.pair = cc in is) in
    let pr = core.pair in
    let is_pair : pr.0 ≡ c.pair = alone pr.0 pr.1 pr.2 pr.3 in
    record {
      plain_l = core.plain_l;
      plain_m = core.plain_m;
      pair = p.live;
      pair_has = (c.has_l, c.has_m);
      pair_only = λ k i. pair-third pr.0 l m k pr.4 pr.2 pr.3 (λ e. core.names (ap (λ (x : Literal). x.variable) e)) (subst (λ (x : List Literal). Contains x k) (sym is_pair) i);
      apart = alone;
      made = λ x y i j xl xm ym yl.
          let w = all-joins-has m (clauses_at h.slots (other_ids c.id ids_l)) (clauses_at h.slots (other_ids c.id ids_m)) c.added x y c.joins (side-has h l m c.id c.pair x c.at c.has_m i xl xm) (side-has h m l c.id c.pair y c.at c.has_l j ym yl) in
          elim w.2 [
            | inl t ↦ inl (join-conflict h l m x y w.0 s core.plain_l core.plain_m i j xm yl w.1 t)
            | inr k ↦ inr (w.0, change.come w.0 k, joined-by h l m x y w.0 core.plain_l core.plain_m i j xm yl w.1)
          ];
      kept = λ x i a b. let w = live-id h.slots x i in change.kept w.0 x w.1 (out-of-gone h l m c.id w.0 x w.1 a b);
      only = λ x i. elim (change.only x i) [
        | inl a ↦
            let f = in-gone-false h l m c.id a.0 a.2 in
            let lacks_l : HasNot x l = λ u. f.0 (id-in l h.slots a.0 x a.1 u) in
            inl (live-at h.slots a.0 x a.1, lacks_l, λ u. f.1 (id-in m h.slots a.0 x a.1 u) (λ e. f.0 (subst (Contains ids_l) (sym e) (id-in l h.slots c.id c.pair c.at c.has_l))))
        | inr b ↦
            let w = all-joins-from m (clauses_at h.slots (other_ids c.id ids_l)) (clauses_at h.slots (other_ids c.id ids_m)) c.added x c.joins b in
            let u = side-only h l m c.id w.0 p.only w.2 in
            let v = side-only h m l c.id w.1 back w.3 in
            inr (w.0, w.1, u.0, v.0, v.2, joined-by h l m w.0 w.1 x core.plain_l core.plain_m u.0 v.0 u.2 v.2 w.4)
      ];
    }

-- the rewrite of a core brings no variable into a clause but those of clauses that go
core-old-variables : (h : Held) (l m : Literal) (r : Rewrite) → (c : IsCoreRewrite l m h r) → HasOldVariables (core_rewrite l m (weight_in h.weights l) c.id h c.added c.repairs) h
core-old-variables h l m r c x i k j =
    let ids_l = ids_with (place_of l) h.slots in
    let ids_m = ids_with (place_of m) h.slots in
    let w = all-joins-from m (clauses_at h.slots (other_ids c.id ids_l)) (clauses_at h.slots (other_ids c.id ids_m)) c.added x c.joins i in
    elim ((w.4.each k).0 j) [
      | inl a ↦
          let v = ids-clauses h.slots (other_ids c.id ids_l) w.0 w.2 in
          (v.0, w.0, Contains-append_left ids_l (other_ids c.id ids_m) v.0 (others-of c.id ids_l v.0 v.1).0, v.2, k, a, refl)
      | inr b ↦
          let v = ids-clauses h.slots (other_ids c.id ids_m) w.1 w.3 in
          (v.0, w.1, Contains-append_right ids_l (other_ids c.id ids_m) v.0 v.1, v.2, k, b.0, refl)
    ]

-- a label that is far from the clauses of both is far from what goes
gone-far : (h : Held) (l m : Literal) (r : Rewrite) (c : IsCoreRewrite l m h r) (a : Literal) → IsFarFrom l m a.variable (live_clauses h.slots) → IsFar a (core_rewrite l m (weight_in h.weights l) c.id h c.added c.repairs) h
gone-far h l m r c a far id x i e =
    let ids_l = ids_with (place_of l) h.slots in
    let ids_m = ids_with (place_of m) h.slots in
    let own : (k : Literal) → Contains (ids_with (place_of k) h.slots) id → Contains x k = λ k j.
    (let w = id-of k h.slots id j in
    let q : Some w.0 ≡ Some x = sym w.1 ∙ e in
    let same : w.0 ≡ x = cc in subst (λ (y : List Literal). Contains y k) same w.2) in
    far x (live-at h.slots id x e) (elim (Contains-append_cases ids_l (other_ids c.id ids_m) id i) [ inl j ↦ inl (own l j) | inr j ↦ inr (own m (others-of c.id ids_m id j).0) ])

core-changed : (h : Held) (l m : Literal) (r : Rewrite) → IsStore h → h.refuted ≡ false → AreCore l m (labelled_of h) → (c : IsCoreRewrite l m h r) → has_empty c.added ≡ false → IsCoreStep l m h (changed_by (core_rewrite l m (weight_in h.weights l) c.id h c.added c.repairs) h)
core-changed h l m r s u core c full =
    let w = weight_in h.weights l in
    let p = core-parts h l m r s core c in
    let back : (k : ℕ) (x : List Literal) → clause_of h.slots k ≡ Some x → Contains x m → Contains x l → k ≡ c.id = λ k x e u v. p.only k x e v u in
    let q = core_rewrite l m w c.id h c.added c.repairs in
    let valid = core-valid h l m r s core c in
    let cored = store-cored h l m r s core c in
    let paid = zeroed-once h l m w q s core.names p.weight_l p.weight_m p.some valid (table-zeroed h.weights m) refl in
    let x = c.split in
    let old = labelled_of h in
    let new = after-core l m w c.id h c.added c.repairs in
    let side = λ (k : Literal). clauses_at h.slots (other_ids c.id (ids_with (place_of k) h.slots)) in
    let side_l : IsSideList l m old.hard x.0 = record {
      has = λ d i a b. order-has (side l) x.0 d x.2 (side-has h l m c.id c.pair d c.at c.has_m i a b);
      only = λ d i. side-only h l m c.id d p.only (order-only (side l) x.0 d x.2 i);
    } in
    let side_m : IsSideList m l old.hard x.1 = record {
      has = λ d i a b. order-has (side m) x.1 d x.3 (side-has h m l c.id c.pair d c.at c.has_l i a b);
      only = λ d i. side-only h m l c.id d back (order-only (side m) x.1 d x.3 i);
    } in
    let offset : new.offset ≡ old.offset + w = omega arith in
    let vars : new.vars ≡ old.vars = omega arith in
    let keeps : Keeps old new (core_repairs l m c.pair x.0 x.1) = coring_keeps old new l m w c.pair x.0 x.1 (store-variables h s) p.up_l.0 p.up_m.0 core.names cored paid offset vars side_l side_m in
    let costs = costs-left-in h m (weights_after q h) (table-zeroed h.weights m) in
    record {
      run = run-after LeavesVariables q h (changed_by q h) (subst (λ (x : Held). IsUntouched x (changed_by q h)) (sym (after-plain q h full)) refl) (subst (Keeps old new) (sym x.4) keeps) (record { vars = vars; costs = costs });
      standing = u;
      smaller = inl (let all = paid.own (λ (c : Cost). c.weight) in let some = p.some in omega arith);
      size = let all = paid.own (λ (c : Cost). 1) in omega (arith, all, ones old.costs, ones new.costs);
      costs = costs;
      stays = λ a b fa fb. core-stays q h a b costs (core-old-variables h l m r c) (gone-far h l m r c a fa) (gone-far h l m r c b fb);
    }

core-untouched : (l m : Literal) (h k u : Held) → IsCoreStep l m h k → IsUntouched k u → IsCoreStep l m h u
core-untouched l m h k u s e = rw e (record {
  run = run-untouched LeavesVariables h k (record k { prepared = u.prepared; arena = u.arena; places = u.places }) s.run refl;
  standing = s.standing;
  smaller = s.smaller;
  size = s.size;
  costs = s.costs;
  stays = s.stays;
})

pub core-steps : (h u : Held) (l m : Literal) (r : Rewrite) → IsStore h → h.refuted ≡ false → AreCore l m (labelled_of h) → IsCoreRewrite l m h r → IsUntouched (after r h) u → IsCoreStep l m h u
core-steps h u l m r s n core c e =
    let p = core-parts h l m r s core c in
    let w = weight_in h.weights l in
    let ids_l = ids_with (place_of l) h.slots in
    let ids_m = ids_with (place_of m) h.slots in
    let q = core_rewrite l m w c.id h c.added c.repairs in
    let full : has_empty c.added ≡ false = none-empty c.added l (λ d i.
    let n = all-joins-from m (clauses_at h.slots (other_ids c.id ids_l)) (clauses_at h.slots (other_ids c.id ids_m)) c.added d c.joins i in
    let a = side-only h l m c.id n.0 p.only n.2 in
    (n.4.each l).1 (inl a.1)) in
    let same : after r h ≡ changed_by q h = ap (λ (x : Rewrite). after x h) c.is ∙ after-plain q h full in
    core-untouched l m h (changed_by q h) u (core-changed h l m r s n core c full) (subst (λ (x : Held). IsUntouched x u) same e)
