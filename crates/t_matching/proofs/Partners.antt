-- Where a label finds its partner.
use Rattle.std.proofs.Common.{◌≡◌, ◌≢◌, ◌⊎◌, ◌↔◌, ℕ, ◌+◌, ◌<◌, Bool, true, false, cond, List, [], ◌∷◌, ◌++◌, length, get_or, drop, refl, sym, ◌∙◌, ap, subst, arith, inl, inr, Contains, All, IsTrue, append_assoc}
use Rattle.std.specs.Prelude.{Option, Some, None, ◌==◌, MatchOption, nat_le}
use Rattle.std.specs.List.{list_all}
use Rattle.std.proofs.lemmas.Bool.{true≢false, and_parts, and_from, eq-eqb, eqb-true, leb-true, leb-false}
use Rattle.std.proofs.lemmas.List.Elements.{Contains-append_left, Contains-append_right}
use Rattle.mp_logic.specs.Literal.{Literal, negation, IsUpTo}
use Rattle.mp_logic.specs.Normal.{SameLiterals}
use Rattle.mp_logic.specs.Keeping.{State}
use Rattle.mp_logic.specs.SubsumedLabels.{IsPlain}
use Rattle.mp_logic.proofs.Members.{Contains-none, Contains-first, Contains-later, Contains-cases}
use Rattle.mp_logic.proofs.Literals.{negation-negation, same_or_negation}
use Rattle.mp_clauses.specs.Places.{place_of, has}
use Rattle.mp_store.specs.Held.{Held, labelled_of}
use Rattle.mp_clauses.specs.Slots.{clause_of, live_clauses}
use Rattle.mp_clauses.specs.Weighing.{weight_in}
use Rattle.mp_clauses.specs.Occurrences.{ids_with}
use Rattle.mp_store.specs.Fixing.{clashes}
use Rattle.mp_store.specs.Soundness.{IsStore}
use Rattle.mp_store.proofs.Fixes.{filter-has}
use Rattle.mp_clauses.proofs.Found.{any-by, any-found, has-by, has-contains}
use Rattle.mp_store.proofs.KeptFixing.{live-at, live-id}
use Rattle.mp_clauses.proofs.Steps.{get_or-any}
use Rattle.t_matching.specs.Matching.{AreMatching, HasNoMatch, IsLowestMatch}
use Rattle.t_matching.specs.Pairing.{slot_clashes, slot_conflicts, AllClash, labels_in, labels_at, labels_near, lower_of, AreFreelyMatching, IsFreePartner}
use Rattle.t_matching.specs.Labels.{labels_of, IsUnused}
use Rattle.t_matching.specs.Lowest.{IsLowestAmong}
use Rattle.t_matching.proofs.Labels.{no-ids, cost-weight, weight-cost, id-in, id-of, live-untautologous, live-within}
use Rattle.t_matching.proofs.Lowest.{AreLeft, left-cons, left-found, left-none}

pub all-by : {X : Type 0} (p : X → Bool) (xs : List X) → ((x : X) → Contains xs x → p x ≡ true) → list_all p xs ≡ true
all-by p [] h = refl
all-by p (x ∷ xs) h = and_from (p x) (list_all p xs) (h x (Contains-first x xs)) (all-by p xs (λ y i. h y (Contains-later x xs y i)))

pub all-found : {X : Type 0} (p : X → Bool) (xs : List X) (x : X) → list_all p xs ≡ true → Contains xs x → p x ≡ true
all-found p [] x h i = absurd (Contains-none x i)
all-found p (y ∷ xs) x h i =
    let parts = and_parts (p y) (list_all p xs) h in
    elim (Contains-cases y xs x i) [ inl e ↦ ap p e ∙ parts.0 | inr j ↦ all-found p xs x parts.1 j ]

-- each clause clashes with each
pub clash-exact : (l m : Literal) (s : List (Option (List Literal))) → list_all (λ id. slot_conflicts s (ids_with (place_of m) s) (clause_of s id)) (ids_with (place_of l) s) ≡ true ↔ AllClash l m (live_clauses s)
clash-exact l m s = (
  λ h c d i j p q.
      let v = live-id s c i in
      let w = live-id s d j in
      let first = all-found (λ id. slot_conflicts s (ids_with (place_of m) s) (clause_of s id)) (ids_with (place_of l) s) v.0 h (id-in l s v.0 c v.1 p) in
      let second = all-found (λ id. slot_clashes c (clause_of s id)) (ids_with (place_of m) s) w.0 (rw v.1 at first) (id-in m s w.0 d w.1 q) in
      rw w.1 at second,
  λ h. all-by (λ id. slot_conflicts s (ids_with (place_of m) s) (clause_of s id)) (ids_with (place_of l) s) (λ id i.
      let v = id-of l s id i in
      rw v.1 (all-by (λ id. slot_clashes v.0 (clause_of s id)) (ids_with (place_of m) s) (λ x j.
      let w = id-of m s x j in
      rw w.1 (h v.0 w.0 (live-at s id v.0 v.1) (live-at s x w.0 w.1) v.2 w.2)))),
)

clash-found : (c d : List Literal) → clashes d c ≡ true → (k : Literal) × Contains c k × Contains d (negation k)
clash-found c d h = let w = any-found (λ k. has (place_of (negation k)) d) c h in (w.0, w.1, has-contains d (negation w.0) w.2)

clash-by : (c d : List Literal) (k : Literal) → Contains c k → Contains d (negation k) → clashes d c ≡ true
clash-by c d k i j = any-by (λ k. has (place_of (negation k)) d) c k i (has-by d (negation k) j)

pub clash-result : (l m : Literal) (s : List (Option (List Literal))) (ids others : List ℕ) (b : Bool) → ids ≡ ids_with (place_of l) s → others ≡ ids_with (place_of m) s → b ≡ list_all (λ id. slot_conflicts s others (clause_of s id)) ids → IsTrue b ↔ AllClash l m (live_clauses s)
clash-result l m s ids others b e f g =
    let is : b ≡ list_all (λ id. slot_conflicts s (ids_with (place_of m) s) (clause_of s id)) (ids_with (place_of l) s) = rw (e, f) at g in
    let x = clash-exact l m s in
    (λ h. x.0 (sym is ∙ h), λ h. is ∙ x.1 h)

-- labels match where all their clauses clash
pub match-by : (h : Held) (l m : Literal) → IsStore h → weight_in h.weights l ≢ 0 → m.variable ≢ l.variable → weight_in h.weights m ≡ weight_in h.weights l → IsPlain l (live_clauses h.slots) → IsPlain m (live_clauses h.slots) → AllClash l m (live_clauses h.slots) → AreMatching l m (labelled_of h)
match-by h l m s n names same pl pm all = record {
  weight = (weight_in h.weights l, weight-cost h.weights l n, subst (λ (k : ℕ). Contains (labelled_of h).costs (record { lit = m; weight = k })) same (weight-cost h.weights m (λ z. n (sym same ∙ z))));
  names = λ e. names (sym e);
  plain_l = pl;
  plain_m = pm;
  apart = λ c i p q. let k = clash-found c c (all c c i i p q) in live-untautologous h c s i k;
  conflict = λ c d i j p q.
      let k = clash-found c d (all c d i j p q) in
      let far : (x : Literal) → IsPlain x (live_clauses h.slots) → k.0.variable ≢ x.variable = λ x px e. elim (same_or_negation k.0 x e) [
        | inl f ↦ px d j (negation k.0) k.2 (ap negation f)
        | inr f ↦ px c i k.0 k.1 f
      ] in
      (k.0, far l pl, far m pm, k.1, k.2);
}

pub match-clash : (h : Held) (l m : Literal) → AreMatching l m (labelled_of h) → AllClash l m (live_clauses h.slots)
match-clash h l m match c d i j p q = let k = match.conflict c d i j p q in clash-by c d k.0 k.3 k.4

pub match-weights : (h : Held) (l m : Literal) → AreMatching l m (labelled_of h) → weight_in h.weights m ≡ weight_in h.weights l
match-weights h l m match =
    let w = match.weight in
    (cost-weight h.weights (record { lit = m; weight = w.0 }) w.2).0 ∙ sym (cost-weight h.weights (record { lit = l; weight = w.0 }) w.1).0

-- what is near
labels-has : (w : List ℕ) (n : ℕ) (s : List (Option (List Literal))) (ids : List ℕ) (id : ℕ) (d : List Literal) (m : Literal) → Contains ids id → clause_of s id ≡ Some d → Contains d m → weight_in w m ≡ n → Contains (labels_at w n s ids) m
labels-has w n s [] id d m i e j f = absurd (Contains-none id i)
labels-has w n s (x ∷ ids) id d m i e j f =
    elim (Contains-cases x ids id i) [
      | inl g ↦
          let own : labels_in w n (clause_of s x) ≡ labels_of w n d = ap (λ k. labels_in w n (clause_of s k)) (sym g) ∙ ap (labels_in w n) e in
          Contains-append_left (labels_in w n (clause_of s x)) (labels_at w n s ids) m (rw own (filter-has (λ k. weight_in w k == n) d m j (eq-eqb (weight_in w m) n f)))
      | inr r ↦ Contains-append_right (labels_in w n (clause_of s x)) (labels_at w n s ids) m (labels-has w n s ids id d m r e j f)
    ]

near-has : (w : List ℕ) (n : ℕ) (s : List (Option (List Literal))) (c : List Literal) (k : Literal) (id : ℕ) (d : List Literal) (m : Literal) → Contains c k → clause_of s id ≡ Some d → Contains d (negation k) → Contains d m → weight_in w m ≡ n → Contains (labels_near w n s c) m
near-has w n s [] k id d m i e j q f = absurd (Contains-none k i)
near-has w n s (x ∷ c) k id d m i e j q f =
    elim (Contains-cases x c k i) [
      | inl g ↦ Contains-append_left (labels_at w n s (ids_with (place_of (negation x)) s)) (labels_near w n s c) m (labels-has w n s (ids_with (place_of (negation x)) s) id d m (id-in (negation x) s id d e (subst (λ (y : Literal). Contains d (negation y)) g j)) e q f)
      | inr r ↦ Contains-append_right (labels_at w n s (ids_with (place_of (negation x)) s)) (labels_near w n s c) m (near-has w n s c k id d m r e j q f)
    ]

-- a clause has the literal, or none has
pub used-cases : (l : Literal) (s : List (Option (List Literal))) → IsUnused l (live_clauses s) ⊎ ((id : ℕ) × (c : List Literal) × (clause_of s id ≡ Some c) × Contains c l)
used-cases l s =
    let step : (xs : List ℕ) → ids_with (place_of l) s ≡ xs → IsUnused l (live_clauses s) ⊎ ((id : ℕ) × (c : List Literal) × (clause_of s id ≡ Some c) × Contains c l) =
    λ (xs : List ℕ). elim xs as (λ xs. ids_with (place_of l) s ≡ xs → IsUnused l (live_clauses s) ⊎ ((id : ℕ) × (c : List Literal) × (clause_of s id ≡ Some c) × Contains c l)) [
      | [] ↦ λ e. inl (λ c i j. let w = live-id s c i in Contains-none w.0 (subst (λ (ys : List ℕ). Contains ys w.0) e (id-in l s w.0 c w.1 j)))
      | id ∷ ids ↦ λ e. inr (let w = id-of l s id (subst (λ (ys : List ℕ). Contains ys id) (sym e) (Contains-first id ids)) in (id, w.0, w.1, w.2))
    ] in
    step (ids_with (place_of l) s) refl

-- the partner is near each clause of the label
pub partner-near : (h : Held) (l m : Literal) (id : ℕ) (c found : List Literal) → Contains (ids_with (place_of l) h.slots) id → Some c ≡ clause_of h.slots id → SameLiterals (labels_near h.weights (weight_in h.weights l) h.slots c) found → AreMatching l m (labelled_of h) → (IsUnused m (live_clauses h.slots) → ⊥) → Contains found m
partner-near h l m id c found i e same match used =
    let own = id-of l h.slots id i in
    let is : own.0 ≡ c = (let q : Some own.0 ≡ Some c = sym own.1 ∙ sym e in cc) in
    elim (used-cases m h.slots) [
      | inl u ↦ absurd (used u)
      | inr w ↦
          let k = match.conflict c w.1 (live-at h.slots id c (sym e)) (live-at h.slots w.0 w.1 w.2) (subst (λ (y : List Literal). Contains y l) is own.2) w.3 in
          (same m).0 (near-has h.weights (weight_in h.weights l) h.slots c k.0 w.0 w.1 m k.3 w.2 k.4 w.3 (match-weights h l m match))
    ]

-- the lower of the two finds
pub lowest-of : (h : Held) (l : Literal) (others : List Literal) (first free : Option Literal)
    → ((m : Literal) → AreMatching l m (labelled_of h) → (IsUnused l (live_clauses h.slots) → ⊥) → (IsUnused m (live_clauses h.slots) → ⊥) → Contains others m)
    → IsLowestAmong (λ m. AreMatching l m (labelled_of h)) (λ m. Contains others m) first → IsFreePartner l (labelled_of h) free
    → MatchOption (lower_of first free) (HasNoMatch l (labelled_of h)) (λ m. IsLowestMatch l m (labelled_of h))
lowest-of h l others first free all a b =
    let s = labelled_of h in
    let each : (m : Literal) → AreMatching l m s → AreFreelyMatching l m s ⊎ Contains others m = λ m match. elim (used-cases l h.slots) [
      | inl u ↦ inl (match, inl u)
      | inr v ↦ elim (used-cases m h.slots) [
        | inl u ↦ inl (match, inr u)
        | inr w ↦ inr (all m match (λ u. u v.1 (live-at h.slots v.0 v.1 v.2) v.3) (λ u. u w.1 (live-at h.slots w.0 w.1 w.2) w.3))
      ]
    ] in
    let both : (x y : Option Literal) → IsLowestAmong (λ m. AreMatching l m s) (λ m. Contains others m) x → IsFreePartner l s y → MatchOption (lower_of x y) (HasNoMatch l s) (λ m. IsLowestMatch l m s) =
    λ (x : Option Literal) (y : Option Literal). elim x as (λ x. IsLowestAmong (λ m. AreMatching l m s) (λ m. Contains others m) x → IsFreePartner l s y → MatchOption (lower_of x y) (HasNoMatch l s) (λ m. IsLowestMatch l m s)) [
      | None ↦ elim y as (λ y. IsLowestAmong (λ m. AreMatching l m s) (λ m. Contains others m) None → IsFreePartner l s y → MatchOption (lower_of None y) (HasNoMatch l s) (λ m. IsLowestMatch l m s)) [
        | None ↦ λ p q m match. elim (each m match) [ inl f ↦ q m f | inr c ↦ p m c match ]
        | Some y ↦ λ p q. record { matching = q.0; lowest = λ k match. elim (each k match) [ inl f ↦ q.1 k f | inr c ↦ absurd (p k c match) ] }
      ]
      | Some x ↦ elim y as (λ y. IsLowestAmong (λ m. AreMatching l m s) (λ m. Contains others m) (Some x) → IsFreePartner l s y → MatchOption (lower_of (Some x) y) (HasNoMatch l s) (λ m. IsLowestMatch l m s)) [
        | None ↦ λ p q. record { matching = p.0; lowest = λ k match. elim (each k match) [ inl f ↦ absurd (q k f) | inr c ↦ p.1 k c match ] }
        | Some y ↦ λ p q.
            let step : (t : Bool) → nat_le x.variable y.variable ≡ t → IsLowestMatch l (cond t x y) s =
            λ (t : Bool). elim t as (λ t. nat_le x.variable y.variable ≡ t → IsLowestMatch l (cond t x y) s) [
              | true ↦ λ e. let le = leb-true x.variable y.variable e in record { matching = p.0; lowest = λ k match. elim (each k match) [ inl f ↦ (let g = q.1 k f in omega arith) | inr c ↦ p.1 k c match ] }
              | false ↦ λ e. let gt = leb-false x.variable y.variable e in record { matching = q.0; lowest = λ k match. elim (each k match) [ inl f ↦ q.1 k f | inr c ↦ (let g = p.1 k c match in omega arith) ] }
            ] in
            step (nat_le x.variable y.variable) refl
      ]
    ] in
    both first free a b

-- the clause of a live id is within the variables
pub clause-within : (h : Held) (id : ℕ) (c : List Literal) → IsStore h → Some c ≡ clause_of h.slots id → All (IsUpTo h.vars) c
clause-within h id c s e = live-within h c s (live-at h.slots id c (sym e))

pub first-id : (ids all : List ℕ) → ids ≡ all → 0 < length ids → Contains all (get_or ids 0 0)
first-id ids all e h = subst (λ (xs : List ℕ). Contains xs (get_or ids 0 0)) e (0, h, get_or-any ids 0 (get_or ids 0 0) 0 h)

-- a label with weight, and a partner
pub match-turned : (s : State) (l m : Literal) → AreMatching l m s → AreMatching m l s
match-turned s l m h = record {
  weight = (h.weight.0, h.weight.2, h.weight.1);
  names = λ e. h.names (sym e);
  plain_l = h.plain_m;
  plain_m = h.plain_l;
  apart = λ c i j k. h.apart c i k j;
  conflict = λ c d i j p q.
      let k = h.conflict d c j i q p in
      (negation k.0, k.2, k.1, k.4, subst (Contains d) (sym (negation-negation k.0)) k.3);
}

pub near-step : (w : List ℕ) (n : ℕ) (s : List (Option (List Literal))) (c : List Literal) (i : ℕ) (x nx : Literal) (ids : List ℕ) (found new : List Literal) → i < length c → x ≡ get_or c i x → nx ≡ negation x → ids ≡ ids_with (place_of nx) s → new ≡ found ++ labels_at w n s ids
    → found ++ labels_near w n s (drop i c) ≡ labels_near w n s c → new ++ labels_near w n s (drop (i + 1) c) ≡ labels_near w n s c
near-step w n s c i x nx ids found new h e f g k inv =
    let own = left-cons c i x h e in
    let was : found ++ (labels_at w n s (ids_with (place_of (negation x)) s) ++ labels_near w n s (drop (i + 1) c)) ≡ labels_near w n s c = rw own at inv in
    let is : ids ≡ ids_with (place_of (negation x)) s = g ∙ ap (λ (y : Literal). ids_with (place_of y) s) f in
    rw (k, is) (append_assoc found (labels_at w n s (ids_with (place_of (negation x)) s)) (labels_near w n s (drop (i + 1) c)) ∙ was)

pub some-ids : (ids : List ℕ) (b : Bool) → b ≡ (length ids == 0) → b ≡ false → 0 < length ids
some-ids ids b e f =
    let n : length ids ≢ 0 = λ z. true≢false (sym (eq-eqb (length ids) 0 z) ∙ (sym e ∙ f)) in
    omega (arith, n)

pub unused-result : (l : Literal) (s : List (Option (List Literal))) (ids : List ℕ) (b : Bool) → ids ≡ ids_with (place_of l) s → b ≡ (length ids == 0) → IsTrue b ↔ IsUnused l (live_clauses s)
unused-result l s ids b e g = (
  λ t. no-ids l s ids e (eqb-true (length ids) 0 (sym g ∙ t)),
  λ u. g ∙ eq-eqb (length ids) 0 (
      let step : (xs : List ℕ) → ids ≡ xs → length xs ≡ 0 =
      λ (xs : List ℕ). elim xs as (λ xs. ids ≡ xs → length xs ≡ 0) [
        | [] ↦ λ f. refl
        | id ∷ rest ↦ λ f. (let w = id-of l s id (subst (λ (ys : List ℕ). Contains ys id) (sym f ∙ e) (Contains-first id rest)) in absurd (u w.0 (live-at s id w.0 w.1) w.2))
      ] in
      step ids refl),
)

pub freely-found : (l : Literal) (s : State) (xs : List Literal) (i : ℕ) (x : Literal) → i < length xs → x ≡ get_or xs i x → AreFreelyMatching l x s → ((m : Literal) → AreFreelyMatching l m s → Contains xs m) → AreLeft (λ m. AreFreelyMatching l m s) (drop i xs) xs → IsFreePartner l s (Some x)
freely-found l s xs i x h e match all a = (let f = left-found (λ m. AreFreelyMatching l m s) xs i x h e match a in (match.0, λ k m. f.1 k (all k m) m))

pub freely-none : (l : Literal) (s : State) (xs : List Literal) (i : ℕ) → drop i xs ≡ [] → ((m : Literal) → AreFreelyMatching l m s → Contains xs m) → AreLeft (λ m. AreFreelyMatching l m s) (drop i xs) xs → IsFreePartner l s None
freely-none l s xs i z all a m match = left-none (λ m. AreFreelyMatching l m s) xs i z a m (all m match) match
