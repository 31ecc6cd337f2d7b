-- What holds of a state holds of each one that is alike.
use Rattle.std.proofs.Common.{◌≡◌, ◌≢◌, ◌⊎◌, ◌<◌, ◌≤◌, ◌*◌, ℕ, Bool, not, ◌&&◌, cond, List, Contains, length, map, filter, sum_by, Some, get_or, refl, ap, sym, ◌∙◌, subst, arith, inl, inr}
use Rattle.std.specs.Prelude.{Option, None, ◌==◌}
use Rattle.std.specs.List.{slice_get, swap, list_any, count_by}
use Rattle.std.specs.List.Sorted.{IsPermutation}
use Rattle.std.proofs.lemmas.Bool.{cases_eq, cases_lt, eqb-true, eq-eqb}
use Rattle.std.proofs.lemmas.List.{length-map}
use Rattle.std.proofs.lemmas.List.Edits.{swapped_from_swap, length-swap}
use Rattle.std.specs.Option.{option_map}
use Rattle.std.proofs.lemmas.List.Elements.{All-map, Contains-get_or}
use Rattle.std.proofs.lemmas.List.Sums.{length-filter}
use Rattle.std.proofs.lemmas.List.Sorted.{IsPermutation-sym, IsPermutation-keeps, All-permutation, Contains-permutation, sum_by-IsPermutation}
use Rattle.std.proofs.lemmas.Option.{none-some, same_Some, slice_get-map, slice_get_within, get_or_from_slice_get, slice_get-get_or}
use Rattle.mp_logic.specs.Literal.{Literal, negation}
use Rattle.mp_logic.specs.Keeping.{State}
use Rattle.mp_logic.specs.EndStates.{NoUnits, NoBlocked}
use Rattle.mp_logic.specs.declared.instances.Cost.{Cost}
use Rattle.mp_clauses.specs.Places.{place_of, has}
use Rattle.mp_store.specs.Clashing.{clash_beside}
use Rattle.t_subsume.specs.Subsumption.{NoSubsumed}
use Rattle.t_subsume.specs.Strengthening.{NoStrengthened}
use Rattle.t_elim.specs.Eliminating.{positive, negative_of, having, resolvents, PaysOff, NoEliminable}
use Rattle.mp_clauses.proofs.Found.{both-ways, any-by, any-found, has-by, has-contains}
use Rattle.mp_labels.proofs.Lists.{Contains-map, Contains-from_map, sum_by-map, sum_by_agree, sum_by-filter}
use Rattle.mp_engine.specs.Alike.{Uses, numbered, numbered_cost, IsAlike}

contains_at : {X : Type 0} (xs : List X) (k : ℕ) (x : X) → slice_get xs k ≡ Some x → Contains xs x
contains_at xs k x h = subst (Contains xs) (get_or_from_slice_get xs k x x h) (Contains-get_or xs k x (slice_get_within xs k x h))

pub same_variable : (s t : State) (a : IsAlike s t) (v w : ℕ) → Uses s v → Uses s w → a.number v ≡ a.number w → v ≡ w
same_variable s t a v w x y e =
    elim (cases_eq v w) [
      | inl same ↦ same
      | inr other ↦ elim (cases_lt v w) [
        | inl less ↦ let r = a.rises v w x y less in absurd (omega (arith, r, e))
        | inr most ↦ let r = a.rises w v y x (omega (arith, other, most)) in absurd (omega (arith, r, e))
      ]
    ]

literal_from : (k l : Literal) → k.variable ≡ l.variable → k.negative ≡ l.negative → k ≡ l
literal_from k l v n = ap (λ (x : ℕ). record k { variable = x }) v ∙ ap (λ (b : Bool). record l { negative = b }) n

pub same_literal : (s t : State) (a : IsAlike s t) (k l : Literal) → Uses s k.variable → Uses s l.variable → numbered a.number k ≡ numbered a.number l → k ≡ l
same_literal s t a k l x y e =
    literal_from k l (same_variable s t a k.variable l.variable x y (ap (λ (m : Literal). m.variable) e)) (ap (λ (m : Literal). m.negative) e)

-- variables of clauses and of costs are used
pub uses : (s : State) (c : List Literal) (l : Literal) → Contains s.hard c → Contains c l → Uses s l.variable
uses s c l i j = inl (c, i, (l, j, refl))

pub uses_cost : (s : State) (p : Cost) → Contains s.costs p → Uses s p.lit.variable
uses_cost s p i = inr (p, i, refl)

-- each clause, literal or cost of the one is that of the other
pub clause_behind : (s t : State) (a : IsAlike s t) (d : List Literal) → Contains t.hard d → (c : List Literal) × Contains s.hard c × (d ≡ map (numbered a.number) c)
clause_behind s t a d i =
    Contains-from_map (map (numbered a.number)) s.hard d (Contains-permutation t.hard (map (map (numbered a.number)) s.hard) d (IsPermutation-sym (map (map (numbered a.number)) s.hard) t.hard a.hard) i)

pub clause_ahead : (s t : State) (a : IsAlike s t) (c : List Literal) → Contains s.hard c → Contains t.hard (map (numbered a.number) c)
clause_ahead s t a c i = Contains-permutation (map (map (numbered a.number)) s.hard) t.hard (map (numbered a.number) c) a.hard (Contains-map (map (numbered a.number)) s.hard c i)

pub cost_ahead : (s t : State) (a : IsAlike s t) (p : Cost) → Contains s.costs p → Contains t.costs (numbered_cost a.number p)
cost_ahead s t a p i = Contains-permutation (map (numbered_cost a.number) s.costs) t.costs (numbered_cost a.number p) a.costs (Contains-map (numbered_cost a.number) s.costs p i)

pub literal_ahead : (number : ℕ → ℕ) (c : List Literal) (l : Literal) → Contains c l → Contains (map (numbered number) c) (numbered number l)
literal_ahead number c l i = Contains-map (numbered number) c l i

pub literal_behind : (s t : State) (a : IsAlike s t) (c : List Literal) (l : Literal) → Contains s.hard c → Uses s l.variable → Contains (map (numbered a.number) c) (numbered a.number l) → Contains c l
literal_behind s t a c l own x i =
    let w = Contains-from_map (numbered a.number) c (numbered a.number l) i in
    subst (Contains c) (same_literal s t a w.0 l (uses s c w.0 own w.1) x (sym w.2)) w.1

-- units
pub no_units_move : (s t : State) → IsAlike s t → NoUnits s.hard → NoUnits t.hard
no_units_move s t a h =
    let Long : List Literal → Type 0 = λ c. 2 ≤ length c in
    All-permutation Long (map (map (numbered a.number)) s.hard) t.hard a.hard
    (All-map Long (map (numbered a.number)) s.hard (λ k d l. let long = h k d l in omega (arith, long, length-map (get_or s.hard k d) (numbered a.number))))

-- blocked clauses
pub no_blocked_move : (s t : State) → IsAlike s t → NoBlocked s.costs s.hard → NoBlocked t.costs t.hard
no_blocked_move s t a h d m i j free blocked =
    let w = clause_behind s t a d i in
    let c = w.0 in
    let n = a.number in
    let x = Contains-from_map (numbered n) c m (subst (λ (e : List Literal). Contains e m) w.2 j) in
    let l = x.0 in
    let used = uses s c l w.1 x.1 in
    h c l w.1 x.1
    (λ p own e. free (numbered_cost n p) (cost_ahead s t a p own) (ap (numbered n) e ∙ sym x.2))
    (λ e own has.
    let there : Contains (map (numbered n) e) (negation m) = subst (λ (k : Literal). Contains (map (numbered n) e) (negation k)) (sym x.2) (literal_ahead n e (negation l) has) in
    let b = blocked (map (numbered n) e) (clause_ahead s t a e own) there in
    let y = Contains-from_map (numbered n) c b.0 (subst (λ (e : List Literal). Contains e b.0) w.2 b.1) in
    let k = y.0 in (
      k,
      y.1,
      λ same. b.2 (y.2 ∙ (ap (numbered n) same ∙ sym x.2)),
      literal_behind s t a e (negation k) own (uses s c k w.1 y.1) (subst (λ (q : Literal). Contains (map (numbered n) e) (negation q)) y.2 b.3),
    ))

-- clauses that strengthen others
pub no_strengthened_move : (s t : State) → IsAlike s t → NoStrengthened s.hard → NoStrengthened t.hard
no_strengthened_move s t a h c d m i j own st =
    let n = a.number in
    let w = clause_behind s t a c i in
    let x = clause_behind s t a d j in
    let y = Contains-from_map (numbered n) w.0 m (subst (λ (e : List Literal). Contains e m) w.2 own) in
    let l = y.0 in
    let used = uses s w.0 l w.1 y.1 in
    let back : (k : Literal) → Uses s k.variable → Contains d (numbered n k) → Contains x.0 k = λ k u has. literal_behind s t a x.0 k x.1 u (subst (λ (e : List Literal). Contains e (numbered n k)) x.2 has) in
    h w.0 x.0 l w.1 x.1 y.1
    (record {
      negated = back (negation l) used (subst (λ (q : Literal). Contains d (negation q)) y.2 st.negated);
      others = λ k has.
          let there : Contains c (numbered n k) = subst (λ (e : List Literal). Contains e (numbered n k)) (sym w.2) (literal_ahead n w.0 k has) in
          let u = uses s w.0 k w.1 has in
          elim (st.others (numbered n k) there) [ inl e ↦ inl (same_literal s t a k l u used (e ∙ y.2)) | inr more ↦ inr (back k u more) ];
    })

-- the place that an element had before two others changed their places
abbrev Turned : ℕ → ℕ → ℕ → ℕ → Type 0
Turned a b k m = ((k ≡ a) × (m ≡ b)) ⊎ (((k ≡ b) × (m ≡ a)) ⊎ ((k ≢ a) × (k ≢ b) × (m ≡ k)))

turned_apart : (a b i j m n : ℕ) → Turned a b i m → Turned a b j n → m ≡ n → i ≡ j
turned_apart a b i j m n p q e =
    elim p [
      | inl u ↦ elim q [
        | inl v ↦ u.0 ∙ sym v.0
        | inr r ↦ elim r [ inl v ↦ omega (arith, u.0, u.1, v.0, v.1, e) | inr v ↦ absurd (v.1 (omega (arith, u.1, v.2, e))) ]
      ]
      | inr o ↦ elim o [
        | inl u ↦ elim q [
          | inl v ↦ omega (arith, u.0, u.1, v.0, v.1, e)
          | inr r ↦ elim r [ inl v ↦ u.0 ∙ sym v.0 | inr v ↦ absurd (v.0 (omega (arith, u.1, v.2, e))) ]
        ]
        | inr u ↦ elim q [
          | inl v ↦ absurd (u.1 (omega (arith, u.2, v.1, e)))
          | inr r ↦ elim r [ inl v ↦ absurd (u.0 (omega (arith, u.2, v.1, e))) | inr v ↦ omega (arith, u.2, v.2, e) ]
        ]
      ]
    ]

-- an element of a list after such a change stood in it before
swapped_from : {X : Type 0} (xs : List X) (a b k : ℕ) (x : X) → a < length xs → b < length xs → slice_get (swap xs a b) k ≡ Some x → (m : ℕ) × Turned a b k m × (slice_get xs m ≡ Some x)
swapped_from {X} xs a b k x la lb h =
    let within = slice_get_within (swap xs a b) k x h in
    let same = length-swap xs a b in
    let here : get_or (swap xs a b) k x ≡ x = get_or_from_slice_get (swap xs a b) k x x h in
    let sw = swapped_from_swap xs (swap xs a b) a b x la lb refl in
    let at : (m : ℕ) → m < length xs → get_or xs m x ≡ x → slice_get xs m ≡ Some x = λ m l e. slice_get-get_or xs m x l ∙ ap (λ (y : X). Some y) e in
    elim (cases_eq k a) [
      | inl e ↦ (b, inl (e, refl), at b lb (sym sw.0 ∙ (ap (λ (i : ℕ). get_or (swap xs a b) i x) (sym e) ∙ here)))
      | inr other ↦ elim (cases_eq k b) [
        | inl e ↦ (a, inr (inl (e, refl)), at a la (sym sw.1 ∙ (ap (λ (i : ℕ). get_or (swap xs a b) i x) (sym e) ∙ here)))
        | inr apart ↦ (k, inr (inr (other, apart, refl)), at k (omega (arith, within, same)) (sym (sw.2 k other apart) ∙ here))
      ]
    ]

none_subsumed_in_order : (cs ds : List (List Literal)) → IsPermutation cs ds → NoSubsumed cs → NoSubsumed ds
none_subsumed_in_order cs ds p h =
    IsPermutation-keeps cs NoSubsumed h
    (λ l a b la lb none i j c d at_i at_j apart among.
    let x = swapped_from l a b i c la lb at_i in
    let y = swapped_from l a b j d la lb at_j in
    none x.0 y.0 c d x.2 y.2 (λ e. apart (turned_apart a b i j x.0 y.0 x.1 y.1 e)) among)
    ds p

mapped_from : {X Y : Type 0} (f : X → Y) (xs : List X) (k : ℕ) (y : Y) → slice_get (map f xs) k ≡ Some y → (x : X) × (slice_get xs k ≡ Some x) × (y ≡ f x)
mapped_from {X} {Y} f xs k y h =
    let step : (o : Option X) → slice_get xs k ≡ o → option_map f o ≡ Some y → (x : X) × (slice_get xs k ≡ Some x) × (y ≡ f x) =
    λ (o : Option X). elim o as (λ o. slice_get xs k ≡ o → option_map f o ≡ Some y → (x : X) × (slice_get xs k ≡ Some x) × (y ≡ f x)) [
      | None ↦ λ e g. absurd (none-some y g)
      | Some x ↦ λ e g. (x, e, sym (same_Some (f x) y g))
    ] in
    step (slice_get xs k) refl (sym (slice_get-map f xs k) ∙ h)

-- subsumption
pub none_subsumed_move : (s t : State) → IsAlike s t → NoSubsumed s.hard → NoSubsumed t.hard
none_subsumed_move s t a h =
    let n = a.number in
    none_subsumed_in_order (map (map (numbered n)) s.hard) t.hard a.hard
    (λ i j c d at_i at_j apart among.
    let x = mapped_from (map (numbered n)) s.hard i c at_i in
    let y = mapped_from (map (numbered n)) s.hard j d at_j in
    let own = contains_at s.hard i x.0 x.1 in
    let other = contains_at s.hard j y.0 y.1 in
    h i j x.0 y.0 x.1 y.1 apart
    (λ l has.
    let there : Contains c (numbered n l) = subst (λ (e : List Literal). Contains e (numbered n l)) (sym x.2) (literal_ahead n x.0 l has) in
    literal_behind s t a y.0 l other (uses s x.0 l own has) (subst (λ (e : List Literal). Contains e (numbered n l)) y.2 (among (numbered n l) there))))

-- sums over clauses
pub sum_moves : (s t : State) (a : IsAlike s t) (f g : List Literal → ℕ) → ((c : List Literal) → Contains s.hard c → f (map (numbered a.number) c) ≡ g c) → sum_by f t.hard ≡ sum_by g s.hard
sum_moves s t a f g h =
    let ms = map (map (numbered a.number)) s.hard in
    sum_by-IsPermutation f ms t.hard a.hard ∙ (sum_by-map f (map (numbered a.number)) s.hard ∙ sum_by_agree (λ c. f (map (numbered a.number) c)) g s.hard h)

pub has_moves : (s t : State) (a : IsAlike s t) (l : Literal) → Uses s l.variable → (c : List Literal) → Contains s.hard c → has (place_of (numbered a.number l)) (map (numbered a.number) c) ≡ has (place_of l) c
has_moves s t a l u c own =
    both-ways (has (place_of (numbered a.number l)) (map (numbered a.number) c)) (has (place_of l) c)
    (λ e. has-by c l (literal_behind s t a c l own u (has-contains (map (numbered a.number) c) (numbered a.number l) e)))
    (λ e. has-by (map (numbered a.number) c) (numbered a.number l) (literal_ahead a.number c l (has-contains c l e)))

pub equal_moves : (s t : State) (a : IsAlike s t) (v w : ℕ) → Uses s v → Uses s w → (a.number v == a.number w) ≡ (v == w)
equal_moves s t a v w x y =
    both-ways (a.number v == a.number w) (v == w)
    (λ e. eq-eqb v w (same_variable s t a v w x y (eqb-true (a.number v) (a.number w) e)))
    (λ e. eq-eqb (a.number v) (a.number w) (ap a.number (eqb-true v w e)))

clash_moves : (s t : State) (a : IsAlike s t) (v : ℕ) → Uses s v → (c d : List Literal) → Contains s.hard c → Contains s.hard d
    → clash_beside (a.number v) (map (numbered a.number) c) (map (numbered a.number) d) ≡ clash_beside v c d
clash_moves s t a v u c d in_c in_d =
    let n = a.number in
    let ahead : Literal → Bool = λ (m : Literal). not (m.variable == n v) && has (place_of (negation m)) (map (numbered n) c) in
    let own : Literal → Bool = λ (m : Literal). not (m.variable == v) && has (place_of (negation m)) c in
    let at : (m : Literal) → Contains d m → ahead (numbered n m) ≡ own m =
    λ m i. let x = uses s d m in_d i in ap (λ (b : Bool). not b && has (place_of (negation (numbered n m))) (map (numbered n) c)) (equal_moves s t a m.variable v x u)
    ∙ ap (λ (b : Bool). not (m.variable == v) && b) (has_moves s t a (negation m) x c in_c) in
    both-ways (clash_beside (n v) (map (numbered n) c) (map (numbered n) d)) (clash_beside v c d)
    (λ e.
    let w = any-found ahead (map (numbered n) d) e in
    let m = Contains-from_map (numbered n) d w.0 w.1 in
    any-by own d m.0 m.1 (sym (at m.0 m.1) ∙ (ap ahead (sym m.2) ∙ w.2)))
    (λ e.
    let w = any-found own d e in
    any-by ahead (map (numbered n) d) (numbered n w.0) (literal_ahead n d w.0 w.1) (at w.0 w.1 ∙ w.2))

count_filter : {X : Type 0} (p q : X → Bool) (xs : List X) → count_by q (filter p xs) ≡ sum_by (λ x. cond (p x) (cond (q x) 1 0) 0) xs
count_filter p q xs = sum_by-filter (λ x. cond (q x) 1 0) p xs

having_moves : (s t : State) (a : IsAlike s t) (l : Literal) → Uses s l.variable → length (having (numbered a.number l) t.hard) ≡ length (having l s.hard)
having_moves s t a l u =
    length-filter (has (place_of (numbered a.number l))) t.hard
    ∙ (sum_moves s t a (λ c. cond (has (place_of (numbered a.number l)) c) 1 0) (λ c. cond (has (place_of l) c) 1 0) (λ c own. ap (λ (b : Bool). cond b 1 0) (has_moves s t a l u c own))
    ∙ sym (length-filter (has (place_of l)) s.hard))

resolvents_move : (s t : State) (a : IsAlike s t) (v : ℕ) → Uses s v
    → resolvents (a.number v) (having (positive (a.number v)) t.hard) (having (negative_of (a.number v)) t.hard) ≡ resolvents v (having (positive v) s.hard) (having (negative_of v) s.hard)
resolvents_move s t a v u =
    let n = a.number in
    let p : List Literal → Bool = has (place_of (positive (n v))) in
    let q : List Literal → Bool = has (place_of (negative_of (n v))) in
    let p0 : List Literal → Bool = has (place_of (positive v)) in
    let q0 : List Literal → Bool = has (place_of (negative_of v)) in
    let f : List Literal → ℕ = λ c. count_by (λ d. not (clash_beside (n v) c d)) (filter q t.hard) in
    let f0 : List Literal → ℕ = λ c. count_by (λ d. not (clash_beside v c d)) (filter q0 s.hard) in
    let inner : (c : List Literal) → Contains s.hard c → f (map (numbered n) c) ≡ f0 c =
    λ c own. count_filter q (λ d. not (clash_beside (n v) (map (numbered n) c) d)) t.hard
    ∙ (sum_moves s t a (λ d. cond (q d) (cond (not (clash_beside (n v) (map (numbered n) c) d)) 1 0) 0) (λ d. cond (q0 d) (cond (not (clash_beside v c d)) 1 0) 0)
    (λ d other. ap (λ (b : Bool). cond b (cond (not (clash_beside (n v) (map (numbered n) c) (map (numbered n) d))) 1 0) 0) (has_moves s t a (negative_of v) u d other)
    ∙ ap (λ (b : Bool). cond (q0 d) (cond (not b) 1 0) 0) (clash_moves s t a v u c d own other))
    ∙ sym (count_filter q0 (λ d. not (clash_beside v c d)) s.hard)) in
    sum_by-filter f p t.hard
    ∙ (sum_moves s t a (λ c. cond (p c) (f c) 0) (λ c. cond (p0 c) (f0 c) 0)
    (λ c own. ap (λ (b : Bool). cond b (f (map (numbered n) c)) 0) (has_moves s t a (positive v) u c own) ∙ ap (λ (k : ℕ). cond (p0 c) k 0) (inner c own))
    ∙ sym (sum_by-filter f0 p0 s.hard))

-- variables whose elimination pays off
pub none_eliminable_move : (s t : State) → IsAlike s t → NoEliminable s → NoEliminable t
none_eliminable_move s t a h w occ free pays =
    let n = a.number in
    let d = any-found (λ c. list_any (λ (l : Literal). l.variable == w) c) t.hard occ in
    let m = any-found (λ (l : Literal). l.variable == w) d.0 d.2 in
    let c = clause_behind s t a d.0 d.1 in
    let l = Contains-from_map (numbered n) c.0 m.0 (subst (λ (e : List Literal). Contains e m.0) c.2 m.1) in
    let v = (l.0).variable in
    let used = uses s c.0 l.0 c.1 l.1 in
    let is : n v ≡ w = sym (ap (λ (k : Literal). k.variable) l.2) ∙ eqb-true (m.0).variable w m.2 in
    let P : ℕ → Type 0 = λ x. PaysOff x (having (positive x) t.hard) (having (negative_of x) t.hard) in
    let here : P (n v) = subst P (sym is) pays in
    h v
    (any-by (λ c. list_any (λ (k : Literal). k.variable == v) c) s.hard c.0 c.1 (any-by (λ (k : Literal). k.variable == v) c.0 l.0 l.1 (eq-eqb v v refl)))
    (λ p own e. free (numbered_cost n p) (cost_ahead s t a p own) (ap n e ∙ is))
    (let ps = having_moves s t a (positive v) used in
    let qs = having_moves s t a (negative_of v) used in
    let rs = resolvents_move s t a v used in
    (subst (λ (k : ℕ). k * length (having (negative_of v) s.hard) ≤ 256) ps (subst (λ (k : ℕ). length (having (positive (n v)) t.hard) * k ≤ 256) qs here.0), omega (arith, here.1, rs, ps, qs)))
