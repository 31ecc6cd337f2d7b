-- Labels that a group covers, in states that are alike.
use Rattle.std.proofs.Common.{◌≡◌, ◌<◌, ◌+◌, ℕ, Bool, true, false, cond, List, [], ◌∷◌, ◌++◌, Contains, get_or, length, map, filter, sum_by, refl, ap, sym, ◌∙◌, subst, arith, inl, inr}
use Rattle.std.specs.Prelude.{nat_lt, ◌==◌}
use Rattle.std.specs.declared.cmp.Ordering.{Ordering}
use Rattle.std.specs.declared.cmp.Ordering.TheVariants.{Less, Equal, Greater}
use Rattle.std.specs.Ordering.{bool_cmp, ordering_then, is_lt}
use Rattle.std.specs.Cmp.Lexicographic.{slice_cmp}
use Rattle.std.specs.List.Sorted.{IsPermutation, IsSorted}
use Rattle.std.proofs.lemmas.Bool.{cases_eq, cases_lt, ltb-true, lt-ltb}
use Rattle.std.proofs.lemmas.List.{get_or-map, length-map, map-append}
use Rattle.std.proofs.lemmas.List.Elements.{Contains-get_or, Contains-append_cases}
use Rattle.std.proofs.lemmas.List.Sorted.{IsPermutation-sym, IsPermutation-trans, IsPermutation-map, Contains-permutation}
use Rattle.mp_logic.specs.Literal.{Literal}
use Rattle.mp_logic.specs.Normal.{lit_cmp}
use Rattle.mp_logic.specs.Keeping.{State}
use Rattle.mp_logic.specs.declared.instances.Cost.{Cost}
use Rattle.mp_logic.proofs.Members.{Contains-first, Contains-later, Contains-none, Contains-one}
use Rattle.mp_clauses.specs.Places.{place_of, has}
use Rattle.mp_clauses.proofs.Found.{both-ways}
use Rattle.mp_labels.proofs.Lists.{Contains-map, Contains-from_map, Contains-from_filter, sum_by-map}
use Rattle.t_labels.specs.Groups.{IsOther, IsLightest, HasOneOf, AreChosen, AreInOrder, HasNoGroup, NoGroupCovered}
use Rattle.mp_engine.specs.Alike.{Uses, numbered, numbered_cost, IsAlike}
use Rattle.mp_engine.proofs.Alike.{same_literal, uses, uses_cost, clause_ahead, cost_ahead, literal_ahead, literal_behind, equal_moves, has_moves}
use Rattle.mp_engine.proofs.AlikeLabels.{cost_behind, plain_ahead, plain_behind}
use Rattle.mp_engine.proofs.Reordered.{filter_reordered}

-- numbers are in the order of the variables
less_back : (s t : State) (a : IsAlike s t) (v w : ℕ) → Uses s v → Uses s w → a.number v < a.number w → v < w
less_back s t a v w x y h =
    elim (cases_lt v w) [
      | inl less ↦ less
      | inr most ↦ elim (cases_eq w v) [ inl e ↦ absurd (let same = ap a.number e in omega (arith, same, h)) | inr apart ↦ let r = a.rises w v y x (omega (arith, most, apart)) in absurd (omega (arith, r, h)) ]
    ]

less_moves : (s t : State) (a : IsAlike s t) (v w : ℕ) → Uses s v → Uses s w → nat_lt (a.number v) (a.number w) ≡ nat_lt v w
less_moves s t a v w x y =
    both-ways (nat_lt (a.number v) (a.number w)) (nat_lt v w)
    (λ e. lt-ltb v w (less_back s t a v w x y (ltb-true (a.number v) (a.number w) e)))
    (λ e. lt-ltb (a.number v) (a.number w) (a.rises v w x y (ltb-true v w e)))

cmp_moves : (s t : State) (a : IsAlike s t) (k l : Literal) → Uses s k.variable → Uses s l.variable → lit_cmp (numbered a.number k) (numbered a.number l) ≡ lit_cmp k l
cmp_moves s t a k l x y =
    ap (λ (o : Ordering). ordering_then o (bool_cmp k.negative l.negative))
    (ap (λ (b : Bool). cond b Less (cond (a.number k.variable == a.number l.variable) Equal Greater)) (less_moves s t a k.variable l.variable x y)
    ∙ ap (λ (b : Bool). cond (nat_lt k.variable l.variable) Less (cond b Equal Greater)) (equal_moves s t a k.variable l.variable x y))

-- so clauses are in the order of clauses
abbrev AreUsed : State → List Literal → Type 0
AreUsed s c = (l : Literal) → Contains c l → Uses s l.variable

clause_cmp_moves : (s t : State) (a : IsAlike s t) (c d : List Literal) → AreUsed s c → AreUsed s d → slice_cmp lit_cmp (map (numbered a.number) c) (map (numbered a.number) d) ≡ slice_cmp lit_cmp c d
clause_cmp_moves s t a [] [] x y = refl
clause_cmp_moves s t a [] (l ∷ d) x y = refl
clause_cmp_moves s t a (k ∷ c) [] x y = refl
clause_cmp_moves s t a (k ∷ c) (l ∷ d) x y =
    ap (λ (o : Ordering). ordering_then o (slice_cmp lit_cmp (map (numbered a.number) c) (map (numbered a.number) d))) (cmp_moves s t a k l (x k (Contains-first k c)) (y l (Contains-first l d)))
    ∙ ap (λ (o : Ordering). ordering_then (lit_cmp k l) o) (clause_cmp_moves s t a c d (λ m i. x m (Contains-later k c m i)) (λ m i. y m (Contains-later l d m i)))

sorted_moves : (s t : State) (a : IsAlike s t) (cs : List (List Literal)) → ((c : List Literal) → Contains cs c → Contains s.hard c)
    → IsSorted (slice_cmp lit_cmp) cs → IsSorted (slice_cmp lit_cmp) (map (map (numbered a.number)) cs)
sorted_moves s t a cs within h k d low high =
    let f = map (numbered a.number) in
    let size = length-map cs f in
    let here : k + 1 < length cs = omega (arith, high, size) in
    let c = get_or cs (k + 1) [] in
    let b = get_or cs k [] in
    let used : (i : ℕ) → i < length cs → AreUsed s (get_or cs i []) = λ i l m has. uses s (get_or cs i []) m (within (get_or cs i []) (Contains-get_or cs i [] l)) has in
    ap (λ (x : List Literal). is_lt (slice_cmp lit_cmp x (get_or (map f cs) k d))) (get_or-map f cs (k + 1) [] d here)
    ∙ (ap (λ (x : List Literal). is_lt (slice_cmp lit_cmp (f c) x)) (get_or-map f cs k [] d (omega (arith, here)))
    ∙ (ap (λ (o : Ordering). is_lt o) (clause_cmp_moves s t a c b (used (k + 1) here) (used k (omega (arith, here)))) ∙ h k [] low here))

-- the clauses with a literal
filter_moves : (s t : State) (a : IsAlike s t) (l : Literal) → Uses s l.variable → (cs : List (List Literal)) → ((c : List Literal) → Contains cs c → Contains s.hard c)
    → filter (has (place_of (numbered a.number l))) (map (map (numbered a.number)) cs) ≡ map (map (numbered a.number)) (filter (has (place_of l)) cs)
filter_moves s t a l u [] within = refl
filter_moves s t a l u (c ∷ cs) within =
    let f = map (numbered a.number) in
    let q = has (place_of (numbered a.number l)) in
    let p = has (place_of l) in
    let rest = filter_moves s t a l u cs (λ d i. within d (Contains-later c cs d i)) in
    let here = has_moves s t a l u c (within c (Contains-first c cs)) in
    let step : (b : Bool) → cond b (f c ∷ filter q (map f cs)) (filter q (map f cs)) ≡ map f (cond b (c ∷ filter p cs) (filter p cs)) =
    λ (b : Bool). elim b as (λ b. cond b (f c ∷ filter q (map f cs)) (filter q (map f cs)) ≡ map f (cond b (c ∷ filter p cs) (filter p cs))) [ true ↦ ap (λ (x : List (List Literal)). f c ∷ x) rest | false ↦ rest ] in
    ap (λ (b : Bool). cond b (f c ∷ filter q (map f cs)) (filter q (map f cs))) here ∙ step (p c)

order_moves : (s t : State) (a : IsAlike s t) (l : Literal) → Uses s l.variable → (cs : List (List Literal)) → ((c : List Literal) → Contains cs c → Contains s.hard c)
    → AreInOrder (filter (has (place_of l)) s.hard) cs → AreInOrder (filter (has (place_of (numbered a.number l))) t.hard) (map (map (numbered a.number)) cs)
order_moves s t a l u cs within h =
    let f = map (numbered a.number) in
    let q = has (place_of (numbered a.number l)) in
    let own = filter (has (place_of l)) s.hard in
    let moved = IsPermutation-map f own cs h.moved in
    let same = filter_moves s t a l u s.hard (λ c i. i) in
    let back = IsPermutation-sym (filter q (map f s.hard)) (filter q t.hard) (filter_reordered q (map f s.hard) t.hard a.hard) in
    record {
      moved = IsPermutation-trans (filter q t.hard) (filter q (map f s.hard)) (map f cs) back (subst (λ (x : List (List Literal)). IsPermutation x (map f cs)) (sym same) moved);
      sorted = sorted_moves s t a cs within h.sorted;
    }

-- other plain labels
other_ahead : (s t : State) (a : IsAlike s t) (p q : Cost) → Contains s.costs p → IsOther p q s → IsOther (numbered_cost a.number p) (numbered_cost a.number q) t
other_ahead s t a p q own h = record {
  cost = cost_ahead s t a q h.cost;
  other = λ e. h.other (same_literal s t a q.lit p.lit (uses_cost s q h.cost) (uses_cost s p own) e);
  plain = plain_ahead s t a q.lit (uses_cost s q h.cost) h.plain;
}

other_behind : (s t : State) (a : IsAlike s t) (p q : Cost) → Contains s.costs q → IsOther (numbered_cost a.number p) (numbered_cost a.number q) t → IsOther p q s
other_behind s t a p q own h = record { cost = own; other = λ e. h.other (ap (numbered a.number) e); plain = plain_behind s t a q.lit h.plain }

lightest_behind : (s t : State) (a : IsAlike s t) (p q : Cost) (c : List Literal) → Contains s.costs p → Contains s.costs q → Contains s.hard c
    → IsLightest (numbered_cost a.number p) t (map (numbered a.number) c) (numbered_cost a.number q) → IsLightest p s c q
lightest_behind s t a p q c own_p own own_c h = record {
  is = other_behind s t a p q own h.is;
  inside = literal_behind s t a c q.lit own_c (uses_cost s q own) h.inside;
  least = λ r other inside.
      elim (h.least (numbered_cost a.number r) (other_ahead s t a p r own_p other) (literal_ahead a.number c r.lit inside)) [
        | inl less ↦ inl less
        | inr tie ↦ inr (
          tie.0,
          elim (cases_lt (r.lit).variable (q.lit).variable) [
            | inl less ↦ let x = a.rises (r.lit).variable (q.lit).variable (uses_cost s r other.cost) (uses_cost s q own) less in let y = tie.1 in absurd (omega (arith, x, y))
            | inr most ↦ omega (arith, most)
          ],
        )
      ];
}

-- what is chosen for clauses under their numbers was chosen for them
walk_back : (s t : State) (a : IsAlike s t) (p : Cost) → Contains s.costs p → (cs : List (List Literal)) (chosen qs : List Cost) → ((c : List Literal) → Contains cs c → Contains s.hard c) → ((q : Cost) → Contains chosen q → Contains s.costs q)
    → AreChosen (numbered_cost a.number p) t (map (map (numbered a.number)) cs) (map (numbered_cost a.number) chosen) qs → (rs : List Cost) × AreChosen p s cs chosen rs × (qs ≡ map (numbered_cost a.number) rs)
walk_back s t a p own [] chosen qs in_cs in_chosen h = (chosen, refl, h)
walk_back s t a p own (c ∷ cs) chosen qs in_cs in_chosen h =
    let n = a.number in
    let own_c = in_cs c (Contains-first c cs) in
    let later : (d : List Literal) → Contains cs d → Contains s.hard d = λ d i. in_cs d (Contains-later c cs d i) in
    elim h [
      | inl met ↦
          let x = Contains-from_map (numbered_cost n) chosen met.0.0 met.0.1 in
          let q = x.0 in
          let inside : Contains (map (numbered n) c) (numbered n q.lit) = subst (Contains (map (numbered n) c)) (ap (λ (k : Cost). k.lit) x.2) met.0.2 in
          let one : HasOneOf chosen c = (q, x.1, literal_behind s t a c q.lit own_c (uses_cost s q (in_chosen q x.1)) inside) in
          let rest = walk_back s t a p own cs chosen qs later in_chosen met.1 in
          (rest.0, inl (one, rest.1), rest.2)
      | inr new ↦
          let x = cost_behind s t a new.1.0 new.1.1.is.cost in
          let q = x.0 in
          let light : IsLightest (numbered_cost n p) t (map (numbered n) c) (numbered_cost n q) = subst (λ (k : Cost). IsLightest (numbered_cost n p) t (map (numbered n) c) k) x.2 new.1.1 in
          let none : HasOneOf chosen c → ⊥ = λ k. new.0 (numbered_cost n k.0, Contains-map (numbered_cost n) chosen k.0 k.1, literal_ahead n c (k.0).lit k.2) in
          let joined : map (numbered_cost n) chosen ++ new.1.0 ∷ [] ≡ map (numbered_cost n) (chosen ++ q ∷ []) =
          ap (λ (k : Cost). map (numbered_cost n) chosen ++ k ∷ []) x.2 ∙ sym (map-append (numbered_cost n) chosen (q ∷ [])) in
          let all : (r : Cost) → Contains (chosen ++ q ∷ []) r → Contains s.costs r =
          λ r i. elim (Contains-append_cases chosen (q ∷ []) r i) [ inl j ↦ in_chosen r j | inr j ↦ subst (Contains s.costs) (sym (Contains-one q r j)) x.1 ] in
          let rest = walk_back s t a p own cs (chosen ++ q ∷ []) qs later all (subst (λ (ks : List Cost). AreChosen (numbered_cost n p) t (map (map (numbered n)) cs) ks qs) joined new.1.2) in
          (rest.0, inr (none, (q, lightest_behind s t a p q c own x.1 own_c light, rest.1)), rest.2)
    ]

no_group_move : (s t : State) (a : IsAlike s t) (p : Cost) → Contains s.costs p → HasNoGroup p s → HasNoGroup (numbered_cost a.number p) t
no_group_move s t a p own h =
    let n = a.number in
    let u = uses_cost s p own in
    elim h [
      | inl bare ↦
          let c = bare.0 in
          inl (
            map (numbered n) c,
            clause_ahead s t a c bare.1,
            literal_ahead n c p.lit bare.2,
            λ q other inside.
                let x = cost_behind s t a q other.cost in
                let there : IsOther (numbered_cost n p) (numbered_cost n x.0) t = subst (λ (k : Cost). IsOther (numbered_cost n p) k t) x.2 other in
                let has : Contains (map (numbered n) c) (numbered n (x.0).lit) = subst (Contains (map (numbered n) c)) (ap (λ (k : Cost). k.lit) x.2) inside in
                bare.3 x.0 (other_behind s t a p x.0 x.1 there) (literal_behind s t a c (x.0).lit bare.1 (uses_cost s x.0 x.1) has),
          )
      | inr greedy ↦
          let cs = greedy.0 in
          let hard = filter (has (place_of p.lit)) s.hard in
          let within : (c : List Literal) → Contains cs c → Contains s.hard c = λ c i. (Contains-from_filter (has (place_of p.lit)) s.hard c (Contains-permutation cs hard c (IsPermutation-sym hard cs greedy.1.moved) i)).0 in
          inr (
            map (map (numbered n)) cs,
            order_moves s t a p.lit u cs within greedy.1,
            λ qs cover.
                let w = walk_back s t a p own cs [] qs within (λ q i. absurd (Contains-none q i)) cover.0 in
                let sum : sum_by (λ (q : Cost). q.weight) qs ≡ sum_by (λ (q : Cost). q.weight) w.0 = ap (λ (ks : List Cost). sum_by (λ (q : Cost). q.weight) ks) w.2 ∙ sum_by-map (λ (q : Cost). q.weight) (numbered_cost n) w.0 in
                greedy.2 w.0 (w.1, let most = cover.1 in omega (arith, sum, most)),
          )
    ]

pub none_group_covered_move : (s t : State) → IsAlike s t → NoGroupCovered s → NoGroupCovered t
none_group_covered_move s t a h q own =
    let p = cost_behind s t a q own in
    subst (λ (k : Cost). HasNoGroup k t) (sym p.2) (no_group_move s t a p.0 p.1 (h p.0 p.1))
