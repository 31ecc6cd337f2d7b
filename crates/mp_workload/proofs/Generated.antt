-- One task more, and the bounds of a workload.
use Rattle.std.proofs.Common.{◌≡◌, ◌<◌, ◌≤◌, ◌+◌, ◌-◌, ◌*◌, ◌%◌, ℕ, zero, suc, Bool, false, cond, List, [], ◌∷◌, ◌++◌, All, Contains, length, map, filter, refl, ap, sym, ◌∙◌, subst, arith, inl, inr}
use Rattle.std.specs.Prelude.{nat_le}
use Rattle.std.specs.List.{flat_map, range_with_len}
use Rattle.std.proofs.lemmas.Bool.{cases_lt, le-leb, lt-leb, cond-true, cond-false}
use Rattle.std.proofs.lemmas.List.{append-nil}
use Rattle.std.proofs.lemmas.List.Concat.{flat_map-append}
use Rattle.std.proofs.lemmas.List.Elements.{All-append, All-cons, All-nil}
use Rattle.std.proofs.lemmas.List.Sums.{sum_by-le}
use Rattle.mp_logic.specs.Literal.{Literal, IsUpTo, negation}
use Rattle.mp_logic.specs.Formula.{IsFormula}
use Rattle.mp_logic.specs.Truth.{weights_of}
use Rattle.mp_logic.specs.Weights.{weight_bound}
use Rattle.mp_logic.specs.declared.instances.Soft.{Soft}
use Rattle.mp_logic.proofs.Members.{Contains-first, Contains-later, All-from_contained}
use Rattle.mp_labels.specs.LabelView.{long_softs, payable, normal_soft}
use Rattle.mp_labels.proofs.Lists.{Contains-from_map, Contains-from_filter, Contains-from_range, sum_by-map, range_with_len_more}
use Rattle.mp_workload.specs.Workload.{next_of, state_at, drawn, takes, not_both, some_slot, one_slot, apart_slots, partner_of, weight_of, slot_of, task_clauses, task_soft, workload}

pub next_below : (x : ℕ) → next_of x < 2147483648
next_below x = omega arith

pub state_more : (n k m : ℕ) → m ≡ suc k → state_at n m ≡ next_of (state_at n k)
state_more n k m e = ap (state_at n) e

-- the state in which the partner is drawn; the first task has no draw for it
pub partner_state : (n t state after : ℕ) → 1 ≤ t → state ≡ state_at n (3 * (t - 1) - 1) → after ≡ cond (nat_le 2 t) (next_of state) state → after ≡ state_at n (3 * (t - 1))
partner_state n t state after l e f =
    elim (cases_lt 1 t) [
      | inl more ↦ f ∙ (cond-true (nat_le 2 t) (next_of state) state (le-leb 2 t (omega arith)) ∙ (ap next_of e ∙ sym (state_more n (3 * (t - 1) - 1) (3 * (t - 1)) (omega arith))))
      | inr one ↦ f ∙ (cond-false (nat_le 2 t) (next_of state) state (lt-leb 2 t (omega arith)) ∙ (e ∙ ap (state_at n) (omega arith)))
    ]

-- the clauses and the soft clause of a task by its states
pub clauses_are : (n t after : ℕ) → after ≡ state_at n (3 * (t - 1)) → (some_slot t ∷ one_slot t) ++ cond (nat_le 2 t) (apart_slots t (1 + drawn after % (t - 1))) [] ≡ task_clauses n t
clauses_are n t after e = ap (λ x. (some_slot t ∷ one_slot t) ++ cond (nat_le 2 t) (apart_slots t (1 + drawn x % (t - 1))) []) e

pub soft_is : (n t after : ℕ) → after ≡ state_at n (3 * (t - 1)) → record { weight = 1 + drawn (next_of after) % 9; clause = takes t (1 + drawn (next_of (next_of after)) % 4) ∷ [] } ≡ task_soft n t
soft_is n t after e =
    let first : next_of after ≡ state_at n (3 * (t - 1) + 1) = ap next_of e ∙ sym (state_more n (3 * (t - 1)) (3 * (t - 1) + 1) (omega arith)) in
    let second : next_of (next_of after) ≡ state_at n (3 * (t - 1) + 2) = ap next_of first ∙ sym (state_more n (3 * (t - 1) + 1) (3 * (t - 1) + 2) (omega arith)) in
    let weight : record { weight = 1 + drawn (next_of after) % 9; clause = takes t (1 + drawn (next_of (next_of after)) % 4) ∷ [] } ≡ record { weight = weight_of n t; clause = takes t (1 + drawn (next_of (next_of after)) % 4) ∷ [] } =
    ap (λ (x : ℕ). let r : Soft = record { weight = 1 + drawn x % 9; clause = takes t (1 + drawn (next_of (next_of after)) % 4) ∷ [] } in r) first in
    weight ∙ ap (λ (x : ℕ). let r : Soft = record { weight = weight_of n t; clause = takes t (1 + drawn x % 4) ∷ [] } in r) second

pub last_state : (n t after m : ℕ) → after ≡ state_at n (3 * (t - 1)) → m ≡ 3 * (t - 1) + 2 → next_of (next_of after) ≡ state_at n m
last_state n t after m e f =
    let first : next_of after ≡ state_at n (3 * (t - 1) + 1) = ap next_of e ∙ sym (state_more n (3 * (t - 1)) (3 * (t - 1) + 1) (omega arith)) in
    ap next_of first ∙ sym (state_more n (3 * (t - 1) + 1) m (omega arith))

-- one task more
pub tasks_more : (t : ℕ) → 1 ≤ t → range_with_len 1 (t + 1 - 1) ≡ range_with_len 1 (t - 1) ++ t ∷ []
tasks_more t l = ap (range_with_len 1) (omega arith) ∙ (range_with_len_more 1 (t - 1) ∙ ap (λ k. range_with_len 1 (t - 1) ++ k ∷ []) (omega arith))

pub hard_more : (n t : ℕ) (old new added : List (List Literal)) → 1 ≤ t → old ≡ flat_map (task_clauses n) (range_with_len 1 (t - 1)) → new ≡ old ++ added → added ≡ task_clauses n t
    → new ≡ flat_map (task_clauses n) (range_with_len 1 (t + 1 - 1))
hard_more n t old new added l e f g =
    let own : flat_map (task_clauses n) (t ∷ []) ≡ task_clauses n t = append-nil (task_clauses n t) in
    f ∙ (ap (λ xs. xs ++ added) e ∙ (ap (λ xs. flat_map (task_clauses n) (range_with_len 1 (t - 1)) ++ xs) (g ∙ sym own)
    ∙ (sym (flat_map-append (task_clauses n) (range_with_len 1 (t - 1)) (t ∷ [])) ∙ sym (ap (flat_map (task_clauses n)) (tasks_more t l)))))

map_more : {X Y : Type 0} (f : X → Y) (xs ys : List X) → map f (xs ++ ys) ≡ map f xs ++ map f ys
map_more f [] ys = refl
map_more f (x ∷ xs) ys = ap (λ zs. f x ∷ zs) (map_more f xs ys)

pub soft_more : (n t : ℕ) (old new : List Soft) (added : Soft) → 1 ≤ t → old ≡ map (task_soft n) (range_with_len 1 (t - 1)) → new ≡ old ++ added ∷ [] → added ≡ task_soft n t
    → new ≡ map (task_soft n) (range_with_len 1 (t + 1 - 1))
soft_more n t old new added l e f g =
    f ∙ (ap (λ xs. xs ++ added ∷ []) e ∙ (ap (λ x. map (task_soft n) (range_with_len 1 (t - 1)) ++ x ∷ []) g
    ∙ (sym (map_more (task_soft n) (range_with_len 1 (t - 1)) (t ∷ [])) ∙ sym (ap (map (task_soft n)) (tasks_more t l)))))

all_flat : {X Y : Type 0} (P : Y → Type 0) (f : X → List Y) (xs : List X) → ((x : X) → Contains xs x → All P (f x)) → All P (flat_map f xs)
all_flat P f [] h = All-nil P
all_flat P f (x ∷ xs) h = All-append P (f x) (flat_map f xs) (h x (Contains-first x xs)) (all_flat P f xs (λ y i. h y (Contains-later x xs y i)))

-- what holds of the clauses of each task holds of all
pub all_tasks : (P : List Literal → Type 0) (n : ℕ) → ((t : ℕ) → 1 ≤ t → t ≤ n → All P (task_clauses n t)) → All P (workload n).hard
all_tasks P n h = all_flat P (task_clauses n) (range_with_len 1 n) (λ t i. let b = Contains-from_range 1 n t i in h t b.0 (omega (arith, b.1)))

all_four : {X : Type 0} (P : X → Type 0) (a b c d : X) → P a → P b → P c → P d → All P (a ∷ (b ∷ (c ∷ (d ∷ []))))
all_four P a b c d p q r s = All-cons P a (b ∷ (c ∷ (d ∷ []))) p (All-cons P b (c ∷ (d ∷ [])) q (All-cons P c (d ∷ []) r (All-cons P d [] s (All-nil P))))

-- what holds of both parts holds of the clauses of a task
pub all_parts : (P : List Literal → Type 0) (n t : ℕ) → P (some_slot t) → ((i j : ℕ) → 1 ≤ i → i < j → j ≤ 4 → P (not_both (takes t i) (takes t j)))
    → (2 ≤ t → (i : ℕ) → 1 ≤ i → i ≤ 4 → P (not_both (takes t i) (takes (partner_of n t) i))) → All P (task_clauses n t)
all_parts P n t some pairs partners =
    let u : ℕ = partner_of n t in
    let pair : ℕ → ℕ → List Literal = λ i j. not_both (takes t i) (takes t j) in
    let own : All P (one_slot t) =
    All-cons P (pair 1 2) (pair 1 3 ∷ (pair 1 4 ∷ (pair 2 3 ∷ (pair 2 4 ∷ (pair 3 4 ∷ []))))) (pairs 1 2 (omega arith) (omega arith) (omega arith))
    (All-cons P (pair 1 3) (pair 1 4 ∷ (pair 2 3 ∷ (pair 2 4 ∷ (pair 3 4 ∷ [])))) (pairs 1 3 (omega arith) (omega arith) (omega arith))
    (all_four P (pair 1 4) (pair 2 3) (pair 2 4) (pair 3 4) (pairs 1 4 (omega arith) (omega arith) (omega arith)) (pairs 2 3 (omega arith) (omega arith) (omega arith)) (pairs 2 4 (omega arith) (omega arith) (omega arith))
    (pairs 3 4 (omega arith) (omega arith) (omega arith)))) in
    let both : ℕ → List Literal = λ i. not_both (takes t i) (takes u i) in
    let apart : 2 ≤ t → All P (apart_slots t u) = λ (l : 2 ≤ t).
    all_four P (both 1) (both 2) (both 3) (both 4) (partners l 1 (omega arith) (omega arith)) (partners l 2 (omega arith) (omega arith)) (partners l 3 (omega arith) (omega arith)) (partners l 4 (omega arith) (omega arith)) in
    let goal : List (List Literal) → Type 0 = λ cs. All P cs in
    All-append P (some_slot t ∷ one_slot t) (cond (nat_le 2 t) (apart_slots t u) []) (All-cons P (some_slot t) (one_slot t) some own)
    (elim (cases_lt 1 t) [
      | inl l ↦ subst goal (sym (cond-true (nat_le 2 t) (apart_slots t u) [] (le-leb 2 t (omega arith)))) (apart (omega arith))
      | inr m ↦ subst goal (sym (cond-false (nat_le 2 t) (apart_slots t u) [] (lt-leb 2 t (omega arith)))) (All-nil P)
    ])

-- the partner is an earlier task
pub partner_before : (n t : ℕ) → 2 ≤ t → (1 ≤ partner_of n t) × (partner_of n t < t)
partner_before n t l =
    let x : ℕ = drawn (state_at n (3 * (t - 1))) in
    let y : ℕ = t - 1 in
    let below : x % y < y = omega arith in
    (omega arith, omega (arith, below))

takes_up : (n t i : ℕ) → 1 ≤ t → t ≤ n → 1 ≤ i → i ≤ 4 → IsUpTo (4 * n) (takes t i)
takes_up n t i a b p q = (omega arith, omega arith)

two_up : (n : ℕ) (k l : Literal) → IsUpTo (4 * n) k → IsUpTo (4 * n) l → All (IsUpTo (4 * n)) (not_both k l)
two_up n k l p q = All-cons (IsUpTo (4 * n)) (negation k) (negation l ∷ []) p (All-cons (IsUpTo (4 * n)) (negation l) [] q (All-nil (IsUpTo (4 * n))))

hard_up : (n t : ℕ) → 1 ≤ t → t ≤ n → All (All (IsUpTo (4 * n))) (task_clauses n t)
hard_up n t a b =
    let up : (i : ℕ) → 1 ≤ i → i ≤ 4 → IsUpTo (4 * n) (takes t i) = λ (i : ℕ) (p : 1 ≤ i) (q : i ≤ 4). takes_up n t i a b p q in
    all_parts (All (IsUpTo (4 * n))) n t
    (all_four (IsUpTo (4 * n)) (takes t 1) (takes t 2) (takes t 3) (takes t 4) (up 1 (omega arith) (omega arith)) (up 2 (omega arith) (omega arith)) (up 3 (omega arith) (omega arith)) (up 4 (omega arith) (omega arith)))
    (λ i j p q r. two_up n (takes t i) (takes t j) (up i p (omega arith)) (up j (omega arith) r))
    (λ l i p q. let w = partner_before n t l in two_up n (takes t i) (takes (partner_of n t) i) (up i p q) (takes_up n (partner_of n t) i w.0 (omega (arith, w.1)) p q))

slot_bounds : (n t : ℕ) → (1 ≤ slot_of n t) × (slot_of n t ≤ 4)
slot_bounds n t =
    let x : ℕ = drawn (state_at n (3 * (t - 1) + 2)) in
    let below : x % 4 < 4 = omega arith in
    (omega arith, omega (arith, below))

weight_bounds : (n t : ℕ) → weight_of n t ≤ 9
weight_bounds n t =
    let x : ℕ = drawn (state_at n (3 * (t - 1) + 1)) in
    let below : x % 9 < 9 = omega arith in
    omega (arith, below)

pub IsFormula-workload : (n : ℕ) → IsFormula (4 * n) (workload n).hard (workload n).soft
IsFormula-workload n = record {
  hard_within = all_tasks (All (IsUpTo (4 * n))) n (hard_up n);
  soft_within = All-from_contained (λ (s : Soft). All (IsUpTo (4 * n)) s.clause) (workload n).soft (λ s i.
      let w = Contains-from_map (task_soft n) (range_with_len 1 n) s i in
      let b = Contains-from_range 1 n w.0 w.1 in
      let k = slot_bounds n w.0 in
      subst (λ (c : List Literal). All (IsUpTo (4 * n)) c) (sym (ap (λ (r : Soft). r.clause) w.2))
      (All-cons (IsUpTo (4 * n)) (takes w.0 (slot_of n w.0)) [] (takes_up n w.0 (slot_of n w.0) b.0 (omega (arith, b.1)) k.0 k.1) (All-nil (IsUpTo (4 * n)))));
}

length-range : (a n : ℕ) → length (range_with_len a n) ≡ n
length-range a zero = refl
length-range a (suc n) = ap suc (length-range (a + 1) n)

pub weights_below : (n : ℕ) → n ≤ 1000000 → weights_of (workload n).soft < weight_bound
weights_below n l =
    let mapped = sum_by-map (λ (s : Soft). s.weight) (task_soft n) (range_with_len 1 n) in
    let at_most = sum_by-le (λ t. weight_of n t) 9 (range_with_len 1 n) (All-from_contained (λ t. weight_of n t ≤ 9) (range_with_len 1 n) (λ t i. weight_bounds n t)) in
    let len = length-range 1 n in
    omega (arith, mapped, at_most, len)

none_passes : {X : Type 0} (p : X → Bool) (xs : List X) → ((x : X) → Contains xs x → p x ≡ false) → filter p xs ≡ []
none_passes p [] h = refl
none_passes p (x ∷ xs) h = cond-false (p x) (x ∷ filter p xs) (filter p xs) (h x (Contains-first x xs)) ∙ none_passes p xs (λ y i. h y (Contains-later x xs y i))

-- its soft clauses are units
pub no_long : (n : ℕ) → long_softs (workload n).soft ≡ []
no_long n =
    none_passes (λ (s : Soft). nat_le 2 (length s.clause)) (payable (workload n).soft) (λ s i.
    let w = Contains-from_filter _ (map normal_soft (workload n).soft) s i in
    let u = Contains-from_map normal_soft (workload n).soft s w.0 in
    let t = Contains-from_map (task_soft n) (range_with_len 1 n) u.0 u.1 in
    let one : length s.clause ≡ 1 = ap (λ (r : Soft). length r.clause) (u.2 ∙ ap normal_soft t.2) in
    lt-leb 2 (length s.clause) (omega (arith, one)))
