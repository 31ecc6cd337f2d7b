-- The clause of two labels by its id.
use Rattle.std.proofs.Common.{◌≡◌, ◌≢◌, ◌↔◌, ℕ, ◌+◌, ◌-◌, ◌*◌, ◌<◌, ◌≤◌, Bool, true, false, not, cond, List, [], ◌∷◌, ◌++◌, length, get_or, drop, zero, suc, refl, sym, ◌∙◌, ap, subst, arith, inl, inr, Contains, All, IsTrue, add-one, drop-cons, append_assoc}
use Rattle.std.specs.Prelude.{Option, Some, None, is_some, ◌==◌, ◌&&◌, MatchOption}
use Rattle.std.specs.List.{count_by}
use Rattle.std.proofs.Math.Nat.{mul_comm, add-mul, le-mul_of_pos_right}
use Rattle.std.proofs.lemmas.Bool.{true≢false, false≢true, eq-eqb, and_from}
use Rattle.std.proofs.lemmas.List.{append-nil}
use Rattle.std.proofs.lemmas.List.Elements.{All-contains, Contains-append_left, Contains-append_right}
use Rattle.std.proofs.lemmas.List.Sums.{sum_by-cons, length-filter}
use Rattle.mp_logic.specs.Literal.{Literal}
use Rattle.mp_logic.specs.Normal.{SameLiterals}
use Rattle.mp_logic.specs.Keeping.{State}
use Rattle.mp_logic.specs.declared.instances.Cost.{Cost}
use Rattle.mp_logic.specs.SubsumedLabels.{IsPlain}
use Rattle.mp_logic.specs.Rewrites.{set_repair}
use Rattle.mp_logic.specs.declared.instances.Repair.{Repair}
use Rattle.mp_logic.proofs.Members.{Contains-none, Contains-first, Contains-cases, All-from_contained}
use Rattle.mp_clauses.specs.Places.{place_of, has}
use Rattle.mp_store.specs.Held.{Held, labelled_of}
use Rattle.mp_clauses.specs.Slots.{clause_of, is_live, live_clauses}
use Rattle.mp_clauses.specs.Weighing.{weight_in}
use Rattle.mp_clauses.specs.Occurrences.{ids_where, ids_with, slot_has}
use Rattle.mp_store.proofs.Fixes.{filter-from, filter-has}
use Rattle.mp_clauses.proofs.Found.{has-by, slot-clause}
use Rattle.mp_store.proofs.KeptFixing.{live-at, live-id}
use Rattle.t_matching.specs.Joins.{clauses_at, JoinsFollow, AreAllJoins, SplitRepairsFollow}
use Rattle.t_matching.specs.Labels.{labels_of}
use Rattle.t_matching.specs.Lowest.{IsLowestAmong}
use Rattle.t_matching.specs.Cores.{has_both, clauses_with, other_ids, AreCore, HasNoCore, IsLowestCore, IsCoreRewrite}
use Rattle.t_matching.specs.Pairs.{shared_ids, lone_of, pair_labels_in, pair_labels, AreSmallPair, HasLonePair, HasPairAt}
use Rattle.t_matching.proofs.Joining.{rest-clauses}
use Rattle.t_matching.proofs.Labels.{cost-weight, weight-cost, id-in, id-of, ids-live}
use Rattle.t_matching.proofs.CoreStepping.{one-counted}

abbrev and_both : Bool → Bool → Bool
and_both x y = x && y

abbrev pub found_list : Option ℕ → List ℕ
found_list None = []
found_list (Some x) = x ∷ []

pub rest-ids : (ids : List ℕ) (i id : ℕ) → i < length ids → id ≡ get_or ids i 0 → drop i ids ≡ id ∷ drop (i + 1) ids
rest-ids ids i id h e =
    let front : drop i ids ≡ get_or ids i 0 ∷ drop (i + 1) ids = rw (add-one, drop-cons ids i 0) in
    front ∙ ap (λ (x : ℕ). x ∷ drop (i + 1) ids) (sym e)

pub shared-step : (l : Literal) (s : List (Option (List Literal))) (ids : List ℕ) (i id : ℕ) (c : List Literal) → i < length ids → id ≡ get_or ids i 0 → Some c ≡ clause_of s id → shared_ids l s (drop i ids) ≡ cond (has (place_of l) c) (id ∷ shared_ids l s (drop (i + 1) ids)) (shared_ids l s (drop (i + 1) ids))
shared-step l s ids i id c h e f =
    let own = rest-ids ids i id h e in
    rw (own, ← f) refl

pub lone-skip : (l : Literal) (s : List (Option (List Literal))) (ids : List ℕ) (i id : ℕ) (c : List Literal) (found : Option ℕ) → i < length ids → id ≡ get_or ids i 0 → Some c ≡ clause_of s id → has (place_of l) c ≡ false
    → found_list found ++ shared_ids l s (drop i ids) ≡ shared_ids l s ids → found_list found ++ shared_ids l s (drop (i + 1) ids) ≡ shared_ids l s ids
lone-skip l s ids i id c found h e f t inv = let q = shared-step l s ids i id c h e f in let r = rw t at q in rw r at inv

pub lone-take : (l : Literal) (s : List (Option (List Literal))) (ids : List ℕ) (i id : ℕ) (c : List Literal) (found : Option ℕ) → i < length ids → id ≡ get_or ids i 0 → Some c ≡ clause_of s id → has (place_of l) c ≡ true → found ≡ None
    → found_list found ++ shared_ids l s (drop i ids) ≡ shared_ids l s ids → (id ∷ []) ++ shared_ids l s (drop (i + 1) ids) ≡ shared_ids l s ids
lone-take l s ids i id c found h e f t n inv = let q = shared-step l s ids i id c h e f in let r = rw t at q in rw (n, r) at inv

pub lone-two : (l : Literal) (s : List (Option (List Literal))) (ids : List ℕ) (i id : ℕ) (c : List Literal) (x : ℕ) (found : Option ℕ) → i < length ids → id ≡ get_or ids i 0 → Some c ≡ clause_of s id → has (place_of l) c ≡ true → found ≡ Some x
    → found_list found ++ shared_ids l s (drop i ids) ≡ shared_ids l s ids → None ≡ lone_of (shared_ids l s ids)
lone-two l s ids i id c x found h e f t n inv = let q = shared-step l s ids i id c h e f in let r = rw t at q in let all = rw (n, r) at inv in rw (← all) refl

pub lone-done : (l : Literal) (s : List (Option (List Literal))) (ids : List ℕ) (i : ℕ) (found : Option ℕ) → drop i ids ≡ [] → found_list found ++ shared_ids l s (drop i ids) ≡ shared_ids l s ids → found ≡ lone_of (shared_ids l s ids)
lone-done l s ids i found z inv =
    let all : found_list found ≡ shared_ids l s ids = (let r = rw z at inv in sym (append-nil (found_list found)) ∙ r) in
    let same : (x : Option ℕ) → x ≡ lone_of (found_list x) = λ (x : Option ℕ). elim x as (λ x. x ≡ lone_of (found_list x)) [ None ↦ refl | Some y ↦ refl ] in
    same found ∙ ap lone_of all

-- how many clauses have a literal, and both
pub count-with : (l : Literal) (i : ℕ) (s : List (Option (List Literal))) → length (ids_where (slot_has (place_of l)) i s) ≡ clauses_with l (live_clauses s)
count-with l i [] = refl
count-with l i (None ∷ s) = count-with l (i + 1) s
count-with l i (Some c ∷ s) =
    let rest = count-with l (i + 1) s in
    let whole = sum_by-cons (λ x. cond {A = ℕ} (has (place_of l) x) 1 0) c (live_clauses s) in
    let step : (b : Bool) → has (place_of l) c ≡ b → length (cond b (i ∷ ids_where (slot_has (place_of l)) (i + 1) s) (ids_where (slot_has (place_of l)) (i + 1) s)) ≡ clauses_with l (c ∷ live_clauses s) =
    λ (b : Bool). elim b as (λ b. has (place_of l) c ≡ b → length (cond b (i ∷ ids_where (slot_has (place_of l)) (i + 1) s) (ids_where (slot_has (place_of l)) (i + 1) s)) ≡ clauses_with l (c ∷ live_clauses s)) [
      | true ↦ λ e. let f : cond (has (place_of l) c) 1 0 ≡ 1 = ap (λ b. cond {A = ℕ} b 1 0) e in omega (arith, rest, whole, f)
      | false ↦ λ e. let f : cond (has (place_of l) c) 1 0 ≡ 0 = ap (λ b. cond {A = ℕ} b 1 0) e in omega (arith, rest, whole, f)
    ] in
    step (has (place_of l) c) refl

count-both : (l m : Literal) (g : ℕ → Bool) (i : ℕ) (s : List (Option (List Literal))) → ((k : ℕ) → k < length s → g (i + k) ≡ slot_has (place_of m) (get_or s k None)) → count_by g (ids_where (slot_has (place_of l)) i s) ≡ count_by (has_both l m) (live_clauses s)
count-both l m g i [] h = refl
count-both l m g i (None ∷ s) h = count-both l m g (i + 1) s (λ k q. let n : i + 1 + k ≡ i + suc k = omega arith in ap g n ∙ h (suc k) (omega arith))
count-both l m g i (Some c ∷ s) h =
    let rest = count-both l m g (i + 1) s (λ k q. let n : i + 1 + k ≡ i + suc k = omega arith in ap g n ∙ h (suc k) (omega arith)) in
    let own : g i ≡ has (place_of m) c = (let n : i ≡ i + 0 = omega arith in ap g n ∙ h 0 (omega arith)) in
    let whole = sum_by-cons (λ x. cond {A = ℕ} (has_both l m x) 1 0) c (live_clauses s) in
    let step : (b : Bool) → has (place_of l) c ≡ b → count_by g (cond b (i ∷ ids_where (slot_has (place_of l)) (i + 1) s) (ids_where (slot_has (place_of l)) (i + 1) s)) ≡ count_by (has_both l m) (c ∷ live_clauses s) =
    λ (b : Bool). elim b as (λ b. has (place_of l) c ≡ b → count_by g (cond b (i ∷ ids_where (slot_has (place_of l)) (i + 1) s) (ids_where (slot_has (place_of l)) (i + 1) s)) ≡ count_by (has_both l m) (c ∷ live_clauses s)) [
      | true ↦ λ e.
          let first = sum_by-cons (λ x. cond {A = ℕ} (g x) 1 0) i (ids_where (slot_has (place_of l)) (i + 1) s) in
          let both : has_both l m c ≡ g i = rw e (sym own) in
          let f : cond (has_both l m c) 1 0 ≡ cond (g i) 1 0 = ap (λ b. cond {A = ℕ} b 1 0) both in
          omega (arith, rest, whole, first, f)
      | false ↦ λ e.
          let both : has_both l m c ≡ false = rw e refl in
          let f : cond (has_both l m c) 1 0 ≡ 0 = ap (λ b. cond {A = ℕ} b 1 0) both in
          omega (arith, rest, whole, f)
    ] in
    step (has (place_of l) c) refl

pub shared-count : (l m : Literal) (s : List (Option (List Literal))) → length (shared_ids m s (ids_with (place_of l) s)) ≡ count_by (has_both l m) (live_clauses s)
shared-count l m s =
    length-filter (λ id. slot_has (place_of m) (clause_of s id)) (ids_with (place_of l) s)
    ∙ count-both l m (λ id. slot_has (place_of m) (clause_of s id)) 0 s (λ k q. let n : 0 + k ≡ k = omega arith in ap (λ j. slot_has (place_of m) (clause_of s j)) n)

lone-found : (xs : List ℕ) (x : ℕ) → lone_of xs ≡ Some x → xs ≡ x ∷ []
lone-found [] x h = absurd (cc)
lone-found (y ∷ []) x h = (let e : y ≡ x = cc in ap (λ (z : ℕ). z ∷ []) e)
lone-found (y ∷ (z ∷ xs)) x h = absurd (cc)

lone-by : (xs : List ℕ) → length xs ≡ 1 → (x : ℕ) × (lone_of xs ≡ Some x)
lone-by [] h = absurd (omega (arith, h))
lone-by (y ∷ []) h = (y, refl)
lone-by (y ∷ (z ∷ xs)) h = absurd (omega (arith, h))

pub lone-pair : (l m : Literal) (s : List (Option (List Literal))) (id : ℕ) → lone_of (shared_ids m s (ids_with (place_of l) s)) ≡ Some id → HasPairAt l m s id
lone-pair l m s id h =
    let all = lone-found (shared_ids m s (ids_with (place_of l) s)) id h in
    let i : Contains (shared_ids m s (ids_with (place_of l) s)) id = subst (λ (xs : List ℕ). Contains xs id) (sym all) (Contains-first id []) in
    let w = filter-from (λ id. slot_has (place_of m) (clause_of s id)) (ids_with (place_of l) s) id i in
    let c = id-of l s id w.0 in
    let d = slot-clause (place_of m) m refl (clause_of s id) w.1 in
    let same : d.0 ≡ c.0 = (let q : Some d.0 ≡ Some c.0 = sym d.1 ∙ c.1 in cc) in
    record { pair = c.0; at = c.1; has_l = c.2; has_m = subst (λ (x : List Literal). Contains x m) same d.2 }

-- the numbers
mul-zero : (y : ℕ) → 0 * y ≤ 0 + y
mul-zero y = omega arith

pub few-low : (x y : ℕ) → x ≤ 1 → x * y ≤ x + y
few-low zero y h = omega arith
few-low (suc zero) y h = omega arith
few-low (suc (suc x)) y h = absurd (omega (arith, h))

pub few-low-right : (x y : ℕ) → y ≤ 1 → x * y ≤ x + y
few-low-right x zero h = omega arith
few-low-right x (suc zero) h = omega arith
few-low-right x (suc (suc y)) h = absurd (omega (arith, h))

pub few-high : (x y : ℕ) → 2 ≤ x → 2 ≤ y → 5 ≤ x + y → x * y ≤ x + y → ⊥
few-high zero y a b c d = absurd (omega (arith, a))
few-high (suc zero) y a b c d = absurd (omega (arith, a))
few-high (suc (suc zero)) y a b c d = absurd (omega (arith, b, c, d))
few-high (suc (suc (suc v))) y a b c d =
    let pos : zero < y = omega (arith, b) in
    let low : v ≤ v * y = le-mul_of_pos_right v pos in
    let n : suc (suc (suc v)) ≡ v + 3 = omega arith in
    let split : suc (suc (suc v)) * y ≡ v * y + 3 * y = ap (λ (k : ℕ). k * y) n ∙ add-mul v 3 y in
    omega (arith, low, split, b, d)

-- a small pair of labels is a core
pub core-by : (h : Held) (l m : Literal) → weight_in h.weights l ≢ 0 → m.variable ≢ l.variable → weight_in h.weights m ≡ weight_in h.weights l → IsPlain l (live_clauses h.slots) → IsPlain m (live_clauses h.slots) → AreSmallPair l m (live_clauses h.slots) → AreCore l m (labelled_of h)
core-by h l m n names same pl pm small = record {
  weight = (weight_in h.weights l, weight-cost h.weights l n, subst (λ (k : ℕ). Contains (labelled_of h).costs (record { lit = m; weight = k })) same (weight-cost h.weights m (λ z. n (sym same ∙ z))));
  names = λ e. names (sym e);
  plain_l = pl;
  plain_m = pm;
  pair = small.pair;
  one = small.one;
  small = small.small;
}

pub core-pair : (h : Held) (l m : Literal) → AreCore l m (labelled_of h) → AreSmallPair l m (live_clauses h.slots)
core-pair h l m c = record { pair = c.pair; one = c.one; small = c.small }

pub core-weights : (h : Held) (l m : Literal) → AreCore l m (labelled_of h) → weight_in h.weights m ≡ weight_in h.weights l
core-weights h l m core =
    let w = core.weight in
    (cost-weight h.weights (record { lit = m; weight = w.0 }) w.2).0 ∙ sym (cost-weight h.weights (record { lit = l; weight = w.0 }) w.1).0

-- the test of a pair
pub pair-none : (l m : Literal) (s : List (Option (List Literal))) (ids : List ℕ) → ids ≡ ids_with (place_of l) s → lone_of (shared_ids m s ids) ≡ None → AreSmallPair l m (live_clauses s) → ⊥
pair-none l m s ids e h p =
    let w = lone-by (shared_ids m s (ids_with (place_of l) s)) (shared-count l m s ∙ p.one) in
    let n : lone_of (shared_ids m s (ids_with (place_of l) s)) ≡ None = rw e at h in
    absurd (let q : Some w.0 ≡ None = sym w.1 ∙ n in cc)

pair-length : (l m : Literal) (s : List (Option (List Literal))) (ids : List ℕ) (id : ℕ) (c : List Literal) → ids ≡ ids_with (place_of l) s → lone_of (shared_ids m s ids) ≡ Some id → Some c ≡ clause_of s id → AreSmallPair l m (live_clauses s) → length c ≡ 2
pair-length l m s ids id c e h f p =
    let at = lone-pair l m s id (rw e at h) in
    let pr = p.pair in
    let w = live-id s pr.0 pr.1 in
    let both : (x : List Literal) → Contains x l → Contains x m → has_both l m x ≡ true = λ x i j. and_from (has (place_of l) x) (has (place_of m) x) (has-by x l i) (has-by x m j) in
    let same = one-counted (has_both l m) s w.0 id pr.0 at.pair p.one w.1 (both pr.0 pr.2 pr.3) at.at (both at.pair at.has_l at.has_m) in
    let is : pr.0 ≡ c = (let q : Some pr.0 ≡ Some c = sym w.1 ∙ (ap (clause_of s) same ∙ sym f) in cc) in
    ap (λ (x : List Literal). length x) (sym is) ∙ pr.4

pair-by : (l m : Literal) (s : List (Option (List Literal))) (ids others : List ℕ) (id : ℕ) (c : List Literal) (b : Bool) → ids ≡ ids_with (place_of l) s → others ≡ ids_with (place_of m) s → lone_of (shared_ids m s ids) ≡ Some id → Some c ≡ clause_of s id → length c ≡ 2
    → IsTrue b ↔ ((length ids - 1) * (length others - 1) ≤ (length ids - 1) + (length others - 1)) → IsTrue b ↔ AreSmallPair l m (live_clauses s)
pair-by l m s ids others id c b e f h g two few =
    let found = rw e at h in
    let at = lone-pair l m s id found in
    let is : at.pair ≡ c = (let q : Some at.pair ≡ Some c = sym at.at ∙ sym g in cc) in
    let count_l : length ids ≡ clauses_with l (live_clauses s) = ap (λ (xs : List ℕ). length xs) e ∙ count-with l 0 s in
    let count_m : length others ≡ clauses_with m (live_clauses s) = ap (λ (xs : List ℕ). length xs) f ∙ count-with m 0 s in
    let in_l : Contains ids id = subst (λ (xs : List ℕ). Contains xs id) (sym e) (id-in l s id at.pair at.at at.has_l) in
    let in_m : Contains others id = subst (λ (xs : List ℕ). Contains xs id) (sym f) (id-in m s id at.pair at.at at.has_m) in
    let lt_l = in_l.1 in
    let lt_m = in_m.1 in (
      λ t. record {
        pair = (at.pair, live-at s id at.pair at.at, at.has_l, at.has_m, ap (λ (x : List Literal). length x) is ∙ two);
        one = sym (shared-count l m s) ∙ ap (λ (xs : List ℕ). length xs) (lone-found (shared_ids m s (ids_with (place_of l) s)) id found);
        small = (length ids - 1, length others - 1, omega (arith, count_l, lt_l), omega (arith, count_m, lt_m), few.0 t);
      },
      λ p.
          let q = p.small in
          let a : length ids - 1 ≡ q.0 = omega (arith, count_l, q.2) in
          let d : length others - 1 ≡ q.1 = omega (arith, count_m, q.3) in
          few.1 (rw (a, d) q.4),
    )

-- a small pair has few clauses
pub small-few : (l m : Literal) (s : List (Option (List Literal))) (ids others : List ℕ) → ids ≡ ids_with (place_of l) s → others ≡ ids_with (place_of m) s → AreSmallPair l m (live_clauses s) → (length ids - 1) * (length others - 1) ≤ (length ids - 1) + (length others - 1)
small-few l m s ids others e f p =
    let q = p.small in
    let count_l : length ids ≡ clauses_with l (live_clauses s) = ap (λ (xs : List ℕ). length xs) e ∙ count-with l 0 s in
    let count_m : length others ≡ clauses_with m (live_clauses s) = ap (λ (xs : List ℕ). length xs) f ∙ count-with m 0 s in
    let a : length ids - 1 ≡ q.0 = omega (arith, count_l, q.2) in
    let d : length others - 1 ≡ q.1 = omega (arith, count_m, q.3) in
    rw (a, d) q.4

-- and a pair with few clauses is small where it is alone and a clause
pub pair-exact : (l m : Literal) (s : List (Option (List Literal))) (ids others : List ℕ) (b : Bool) → ids ≡ ids_with (place_of l) s → others ≡ ids_with (place_of m) s → (length ids - 1) * (length others - 1) ≤ (length ids - 1) + (length others - 1)
    → IsTrue b ↔ HasLonePair s (shared_ids m s ids) → IsTrue b ↔ AreSmallPair l m (live_clauses s)
pair-exact l m s ids others b e f few lone = (
  λ t. let w = lone.0 t in (pair-by l m s ids others w.0 w.1 true e f w.2 (sym w.3) w.4 (λ u. few, λ u. refl)).0 refl,
  λ p. lone.1 (
      let x = lone-by (shared_ids m s (ids_with (place_of l) s)) (shared-count l m s ∙ p.one) in
      let at = lone-pair l m s x.0 x.1 in
      let h : lone_of (shared_ids m s ids) ≡ Some x.0 = rw e x.1 in
      (x.0, at.pair, h, at.at, pair-length l m s ids x.0 at.pair e h (sym at.at) p)),
)

-- where a label finds its partner
pair-has : (w : List ℕ) (n : ℕ) (s : List (Option (List Literal))) (ids : List ℕ) (id : ℕ) (d : List Literal) (m : Literal) → Contains ids id → clause_of s id ≡ Some d → length d ≡ 2 → Contains d m → weight_in w m ≡ n → Contains (pair_labels w n s ids) m
pair-has w n s [] id d m i e two j f = absurd (Contains-none id i)
pair-has w n s (x ∷ ids) id d m i e two j f =
    elim (Contains-cases x ids id i) [
      | inl g ↦
          let len : (length d == 2) ≡ true = eq-eqb (length d) 2 two in
          let own : pair_labels_in w n (clause_of s x) ≡ labels_of w n d = ap (λ k. pair_labels_in w n (clause_of s k)) (sym g) ∙ (ap (pair_labels_in w n) e ∙ rw len refl) in
          Contains-append_left (pair_labels_in w n (clause_of s x)) (pair_labels w n s ids) m (rw own (filter-has (λ k. weight_in w k == n) d m j (eq-eqb (weight_in w m) n f)))
      | inr r ↦ Contains-append_right (pair_labels_in w n (clause_of s x)) (pair_labels w n s ids) m (pair-has w n s ids id d m r e two j f)
    ]

pub core-near : (h : Held) (l m : Literal) (ids : List ℕ) (before found : List Literal) → ids ≡ ids_with (place_of l) h.slots → before ≡ pair_labels h.weights (weight_in h.weights l) h.slots ids → SameLiterals before found → AreCore l m (labelled_of h) → Contains found m
core-near h l m ids before found e f same core =
    let pr = core.pair in
    let w = live-id h.slots pr.0 pr.1 in
    (same m).0 (subst (λ (x : List Literal). Contains x m) (sym f) (pair-has h.weights (weight_in h.weights l) h.slots ids w.0 pr.0 m (subst (λ (xs : List ℕ). Contains xs w.0) (sym e) (id-in l h.slots w.0 pr.0 w.1 pr.2)) w.1 pr.4 pr.3 (core-weights h l m core)))

pub core-lowest : (h : Held) (l : Literal) (found : List Literal) (result : Option Literal) → ((m : Literal) → AreCore l m (labelled_of h) → Contains found m) → IsLowestAmong (λ m. AreCore l m (labelled_of h)) (λ m. Contains found m) result → MatchOption result (HasNoCore l (labelled_of h)) (λ m. IsLowestCore l m (labelled_of h))
core-lowest h l found result all low =
    let step : (x : Option Literal) → IsLowestAmong (λ m. AreCore l m (labelled_of h)) (λ m. Contains found m) x → MatchOption x (HasNoCore l (labelled_of h)) (λ m. IsLowestCore l m (labelled_of h)) =
    λ (x : Option Literal). elim x as (λ x. IsLowestAmong (λ m. AreCore l m (labelled_of h)) (λ m. Contains found m) x → MatchOption x (HasNoCore l (labelled_of h)) (λ m. IsLowestCore l m (labelled_of h))) [
      | None ↦ λ p m core. p m (all m core) core
      | Some y ↦ λ p. record { core = p.0; lowest = λ k core. p.1 k (all k core) core }
    ] in
    step result low

both-turned : (l m : Literal) (cs : List (List Literal)) → count_by (has_both l m) cs ≡ count_by (has_both m l) cs
both-turned l m [] = refl
both-turned l m (c ∷ cs) =
    let rest = both-turned l m cs in
    let a = sum_by-cons (λ x. cond {A = ℕ} (has_both l m x) 1 0) c cs in
    let b = sum_by-cons (λ x. cond {A = ℕ} (has_both m l x) 1 0) c cs in
    let swap : (x y : Bool) → cond {A = ℕ} (and_both x y) 1 0 ≡ cond (and_both y x) 1 0 = λ (x : Bool) (y : Bool). elim x as (λ x. cond {A = ℕ} (and_both x y) 1 0 ≡ cond (and_both y x) 1 0) [ true ↦ elim y as (λ y. cond {A = ℕ} (and_both true y) 1 0 ≡ cond (and_both y true) 1 0) [ true ↦ refl | false ↦ refl ] | false ↦ elim y as (λ y. cond {A = ℕ} (and_both false y) 1 0 ≡ cond (and_both y false) 1 0) [ true ↦ refl | false ↦ refl ] ] in
    let own : cond (has_both l m c) 1 0 ≡ cond (has_both m l c) 1 0 = swap (has (place_of l) c) (has (place_of m) c) in
    omega (arith, rest, a, b, own)

pub few-turned : (p q : ℕ) → p * q ≤ p + q → q * p ≤ q + p
few-turned p q h = let e : q * p ≡ p * q = mul_comm q p in omega (arith, h, e)

pub core-turned : (s : State) (l m : Literal) → AreCore l m s → AreCore m l s
core-turned s l m c = record {
  weight = (c.weight.0, c.weight.2, c.weight.1);
  names = λ e. c.names (sym e);
  plain_l = c.plain_m;
  plain_m = c.plain_l;
  pair = (c.pair.0, c.pair.1, c.pair.3, c.pair.2, c.pair.4);
  one = sym (both-turned l m s.hard) ∙ c.one;
  small = (let q = c.small in (q.1, q.0, q.3, q.2, few-turned q.0 q.1 q.4));
}

pub small-turned : (l m : Literal) (cs : List (List Literal)) → AreSmallPair l m cs → AreSmallPair m l cs
small-turned l m cs c = record {
  pair = (c.pair.0, c.pair.1, c.pair.3, c.pair.2, c.pair.4);
  one = sym (both-turned l m cs) ∙ c.one;
  small = (let q = c.small in (q.1, q.0, q.3, q.2, few-turned q.0 q.1 q.4));
}

-- joins of all, one clause more
pub all-joins-step : (m : Literal) (s : List (Option (List Literal))) (ids : List ℕ) (ds : List (List Literal)) (i id : ℕ) (c : List Literal) (made new : List (List Literal)) → i < length ids → id ≡ get_or ids i 0 → Some c ≡ clause_of s id → JoinsFollow c m ds made new
    → ((tail : List (List Literal)) → AreAllJoins (clauses_at s (drop i ids)) m ds tail → AreAllJoins (clauses_at s ids) m ds (made ++ tail))
    → (tail : List (List Literal)) → AreAllJoins (clauses_at s (drop (i + 1) ids)) m ds tail → AreAllJoins (clauses_at s ids) m ds (new ++ tail)
all-joins-step m s ids ds i id c made new h e f joins inv tail g =
    let rest = rest-clauses s ids i id c h e f in
    let whole = inv (joins.0 ++ tail) (rw rest (joins.0, tail, refl, joins.2, g)) in
    rw (joins.1, append_assoc made joins.0 tail) whole

pub all-joins-done : (m : Literal) (s : List (Option (List Literal))) (ids : List ℕ) (ds : List (List Literal)) (i : ℕ) (made : List (List Literal)) → drop i ids ≡ []
    → ((tail : List (List Literal)) → AreAllJoins (clauses_at s (drop i ids)) m ds tail → AreAllJoins (clauses_at s ids) m ds (made ++ tail)) → AreAllJoins (clauses_at s ids) m ds made
all-joins-done m s ids ds i made z inv = let whole = inv [] (rw z refl) in rw (append-nil made) at whole

pub lone-live : (l : Literal) (s : List (Option (List Literal))) (ids : List ℕ) (id : ℕ) → lone_of (shared_ids l s ids) ≡ Some id → is_live s id ≡ true
lone-live l s ids id h =
    let all = lone-found (shared_ids l s ids) id h in
    let w = filter-from (λ id. slot_has (place_of l) (clause_of s id)) ids id (subst (λ (xs : List ℕ). Contains xs id) (sym all) (Contains-first id [])) in
    let c = slot-clause (place_of l) l refl (clause_of s id) w.1 in
    rw c.1 refl

pub none-of : (x : Option ℕ) → is_some x ≡ false → x ≡ None
none-of None h = refl
none-of (Some y) h = absurd (true≢false h)

pub some-of : (x : Option ℕ) → is_some x ≡ true → (y : ℕ) × (x ≡ Some y)
some-of None h = absurd (false≢true h)
some-of (Some y) h = (y, refl)

pub live-others : (l : Literal) (s : List (Option (List Literal))) (id : ℕ) (ids : List ℕ) → ids ≡ other_ids id (ids_with (place_of l) s) → All (λ id. is_live s id ≡ true) ids
live-others l s id ids e = subst (λ (xs : List ℕ). All (λ id. is_live s id ≡ true) xs) (sym e) (All-from_contained (λ id. is_live s id ≡ true) (other_ids id (ids_with (place_of l) s)) (λ x i. let o = filter-from (λ x. not (x == id)) (ids_with (place_of l) s) x i in All-contains (λ id. is_live s id ≡ true) (ids_with (place_of l) s) x (ids-live l s) o.0))

pub pair-live : (l m : Literal) (s : List (Option (List Literal))) (id : ℕ) → HasPairAt l m s id → is_live s id ≡ true
pair-live l m s id p = rw p.at refl

pub cored-is : (l m : Literal) (h : Held) (id : ℕ) → HasPairAt l m h.slots id → (kept dropped kept2 dropped2 ids more gone : List ℕ) (clause : List Literal) (added made : List (List Literal)) (costs : List Cost) (shift : ℕ) (none first repairs : List Repair) (one : Repair)
    → kept ≡ other_ids id (ids_with (place_of l) h.slots) → dropped ≡ other_ids id (ids_with (place_of m) h.slots) → kept2 ≡ other_ids id (ids_with (place_of l) h.slots) → dropped2 ≡ other_ids id (ids_with (place_of m) h.slots)
    → ids ≡ ids_with (place_of l) h.slots → more ≡ other_ids id (ids_with (place_of m) h.slots) → gone ≡ ids ++ more → Some clause ≡ clause_of h.slots id → one ≡ set_repair l clause → none ≡ [] → first ≡ none ++ one ∷ []
    → added ≡ made → AreAllJoins (clauses_at h.slots kept) m (clauses_at h.slots dropped) made → costs ≡ record { lit = m; weight = 0 } ∷ [] → shift ≡ weight_in h.weights l
    → SplitRepairsFollow l m (clauses_at h.slots kept2) (clauses_at h.slots dropped2) first repairs
    → IsCoreRewrite l m h (record { gone = gone; added = added; costs = costs; shift = shift; repairs = repairs; fresh = 0 })
cored-is l m h id p kept dropped kept2 dropped2 ids more gone clause added made costs shift none first repairs one a b c d e f g i k n o q joins cost sh split =
    let is : p.pair ≡ clause = (let r : Some p.pair ≡ Some clause = sym p.at ∙ sym i in cc) in
    let begin : first ≡ set_repair l p.pair ∷ [] = rw (o, n, k, ← is) refl in
    record {
      id = id;
      pair = p.pair;
      at = p.at;
      has_l = p.has_l;
      has_m = p.has_m;
      added = made;
      repairs = repairs;
      is = rw (g, e, f, q, cost, sh) refl;
      joins = rw (a, b) at joins;
      split = rw (c, d, begin) at split;
    }

pub none-some : (x : Option ℕ) → ((y : ℕ) → x ≡ Some y → ⊥) → x ≡ None
none-some None h = refl
none-some (Some y) h = absurd (h y refl)
