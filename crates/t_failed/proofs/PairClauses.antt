-- Clauses of two literals, and what they do to a store.
use Rattle.std.proofs.Common.{◌≡◌, ◌≢◌, ◌⊎◌, ℕ, ◌<◌, ◌≤◌, Bool, true, false, not, cond, List, [], ◌∷◌, map, length, take, refl, sym, ◌∙◌, ap, subst, arith, sum_by, inl, inr, Contains, All, IsTrue}
use Rattle.std.specs.Prelude.{◌==◌, ◌||◌, ◌&&◌, nat_lt}
use Rattle.std.specs.List.{list_all}
use Rattle.std.proofs.lemmas.Bool.{cases_Bool, false≢true, true≢false, ltb-true, ltb-false, lt-ltb, and_from}
use Rattle.std.proofs.lemmas.List.{take_all}
use Rattle.std.proofs.lemmas.List.Sums.{sum_by-cons}
use Rattle.mp_logic.specs.Literal.{Literal, IsUpTo}
use Rattle.mp_logic.specs.Normal.{rises}
use Rattle.mp_logic.specs.Labelled.{IsProper}
use Rattle.mp_logic.specs.Keeping.{State}
use Rattle.mp_logic.specs.Sets.{Among, Implies}
use Rattle.mp_logic.specs.declared.instances.Cost.{Cost}
use Rattle.mp_logic.specs.declared.instances.Repair.{Repair}
use Rattle.mp_logic.proofs.Charges.{AreApart-same}
use Rattle.mp_logic.proofs.General.{implied_keep}
use Rattle.mp_logic.proofs.Members.{Contains-none, Contains-first, Contains-later, Contains-one, Contains-cases, Contains-map, All-from_contained, sum_by_le, true_by}
use Rattle.mp_clauses.specs.Places.{place_of}
use Rattle.mp_clauses.specs.Slots.{is_live, live_clauses, has_empty}
use Rattle.mp_clauses.specs.Weighing.{costs_of, weight_in}
use Rattle.mp_store.specs.Held.{Held, labelled_of, IsUntouched}
use Rattle.mp_store.specs.Rewriting.{after}
use Rattle.mp_store.specs.Replacing.{replaced, IsReplacement}
use Rattle.mp_store.specs.Soundness.{IsStore}
use Rattle.mp_store.specs.Measures.{is_covered, uncovered, IsSmaller}
use Rattle.mp_store.specs.Techniques.{IsRun}
use Rattle.mp_store.proofs.KeptFixing.{live-at, live-id}
use Rattle.mp_store.proofs.Measured.{uncovered-le, covered-only, only-covered}
use Rattle.mp_store.proofs.Replaced.{replaced_clauses, after-plain}
use Rattle.mp_clauses.proofs.Found.{any-by, any-found}
use Rattle.mp_turns.specs.Clauses.{replacing}
use Rattle.mp_turns.proofs.Replacing.{replacing-keeps, replacing-run, replacing-slots, replacing-state}
use Rattle.t_failed.specs.Pairs.{AddsPairs, IsPairOf}
use Rattle.t_failed.specs.Partners.{IsPartner, IsImpliedPair, pair_clause}
use Rattle.t_failed.proofs.LabelLists.{weight-cost}

-- a clause of two literals
pub pair-cases : (b l : Literal) → (pair_clause b l ≡ b ∷ (l ∷ [])) ⊎ (pair_clause b l ≡ l ∷ (b ∷ []))
pair-cases b l = elim (nat_lt b.variable l.variable) as (λ t. (cond t (b ∷ (l ∷ [])) (l ∷ (b ∷ [])) ≡ b ∷ (l ∷ [])) ⊎ (cond t (b ∷ (l ∷ [])) (l ∷ (b ∷ [])) ≡ l ∷ (b ∷ []))) [ true ↦ inl refl | false ↦ inr refl ]

two-has : (a b k : Literal) → Contains (a ∷ (b ∷ [])) k → (k ≡ a) ⊎ (k ≡ b)
two-has a b k i = elim (Contains-cases a (b ∷ []) k i) [ inl e ↦ inl e | inr j ↦ inr (Contains-one b k j) ]

pub pair-has : (b l k : Literal) → Contains (pair_clause b l) k → (k ≡ b) ⊎ (k ≡ l)
pair-has b l k i =
    elim (pair-cases b l) [
      | inl e ↦ two-has b l k (subst (λ xs. Contains xs k) e i)
      | inr e ↦ elim (two-has l b k (subst (λ xs. Contains xs k) e i)) [ inl s ↦ inr s | inr s ↦ inl s ]
    ]

pub pair-first : (b l : Literal) → Contains (pair_clause b l) b
pair-first b l =
    elim (pair-cases b l) [
      | inl e ↦ subst (λ xs. Contains xs b) (sym e) (Contains-first b (l ∷ []))
      | inr e ↦ subst (λ xs. Contains xs b) (sym e) (Contains-later l (b ∷ []) b (Contains-first b []))
    ]

pub pair-second : (b l : Literal) → Contains (pair_clause b l) l
pair-second b l =
    elim (pair-cases b l) [
      | inl e ↦ subst (λ xs. Contains xs l) (sym e) (Contains-later b (l ∷ []) l (Contains-first l []))
      | inr e ↦ subst (λ xs. Contains xs l) (sym e) (Contains-first l (b ∷ []))
    ]

pub pair-length : (b l : Literal) → length (pair_clause b l) ≡ 2
pair-length b l = elim (nat_lt b.variable l.variable) as (λ t. length (cond t (b ∷ (l ∷ [])) (l ∷ (b ∷ []))) ≡ 2) [ true ↦ refl | false ↦ refl ]

two-rise : (a b : Literal) → 1 ≤ a.variable → a.variable < b.variable → rises 0 (a ∷ (b ∷ [])) ≡ true
two-rise a b p q = and_from (nat_lt 0 a.variable) (nat_lt a.variable b.variable && true) (lt-ltb 0 a.variable p) (and_from (nat_lt a.variable b.variable) true (lt-ltb a.variable b.variable q) refl)

pair-rises : (b l : Literal) → 1 ≤ b.variable → 1 ≤ l.variable → l.variable ≢ b.variable → rises 0 (pair_clause b l) ≡ true
pair-rises b l p q n =
    let step : (t : Bool) → nat_lt b.variable l.variable ≡ t → rises 0 (cond t (b ∷ (l ∷ [])) (l ∷ (b ∷ []))) ≡ true =
    λ (t : Bool). elim t as (λ t. nat_lt b.variable l.variable ≡ t → rises 0 (cond t (b ∷ (l ∷ [])) (l ∷ (b ∷ []))) ≡ true) [
      | true ↦ λ e. two-rise b l p (ltb-true b.variable l.variable e)
      | false ↦ λ e. let most = ltb-false b.variable l.variable e in two-rise l b q (omega (arith, most, n))
    ] in
    step (nat_lt b.variable l.variable) refl

abbrev pub pairs_of : Literal → List Literal → List (List Literal)
pairs_of b ls = map (pair_clause b) ls

pub pair-of : (b : Literal) (ls : List Literal) (c : List Literal) → Contains (pairs_of b ls) c → (l : Literal) × Contains ls l × (c ≡ pair_clause b l)
pair-of b ls c i = Contains-map (pair_clause b) ls c i

map-has : {X Y : Type 0} (f : X → Y) (xs : List X) (x : X) → Contains xs x → Contains (map f xs) (f x)
map-has f [] x i = absurd (Contains-none x i)
map-has f (y ∷ xs) x i =
    elim (Contains-cases y xs x i) [
      | inl e ↦ subst (λ z. Contains (f y ∷ map f xs) (f z)) (sym e) (Contains-first (f y) (map f xs))
      | inr j ↦ Contains-later (f y) (map f xs) (f x) (map-has f xs x j)
    ]

-- the rewrite may be applied
pub pairs-valid : (h : Held) (b : Literal) (ls : List Literal) → IsUpTo h.vars b → ((l : Literal) → Contains ls l → IsUpTo h.vars l × (l.variable ≢ b.variable)) → IsReplacement (replacing [] (pairs_of b ls) []) h
pairs-valid h b ls up each = record {
  keeps_costs = replacing-keeps [] (pairs_of b ls) [];
  gone_live = All-from_contained (λ id. is_live h.slots id ≡ true) [] (λ id i. absurd (Contains-none id i));
  gone_distinct = refl;
  added_normal = All-from_contained (λ c. IsTrue (rises 0 c)) (pairs_of b ls) (λ c i.
      let w = pair-of b ls c i in
      let e = each w.0 w.1 in
      ap (rises 0) w.2 ∙ pair-rises b w.0 up.0 e.0.0 e.1);
  added_within = All-from_contained (All (IsUpTo h.vars)) (pairs_of b ls) (λ c i.
      let w = pair-of b ls c i in
      let e = each w.0 w.1 in
      All-from_contained (IsUpTo h.vars) c (λ k j. elim (pair-has b w.0 k (subst (λ xs. Contains xs k) w.2 j)) [ inl s ↦ subst (IsUpTo h.vars) (sym s) up | inr s ↦ subst (IsUpTo h.vars) (sym s) e.0 ]));
  repairs_proper = All-from_contained (IsProper h.vars) [] (λ r i. absurd (Contains-none r i));
}

none-empty-added : (b : Literal) (ls : List Literal) → has_empty (pairs_of b ls) ≡ false
none-empty-added b [] = refl
none-empty-added b (l ∷ ls) =
    let full : (length (pair_clause b l) == 0) ≡ false = elim (nat_lt b.variable l.variable) as (λ t. (length (cond t (b ∷ (l ∷ [])) (l ∷ (b ∷ []))) == 0) ≡ false) [ true ↦ refl | false ↦ refl ] in
    ap (λ t. t || has_empty (pairs_of b ls)) full ∙ none-empty-added b ls

-- the store afterwards
pub pairs-unrefuted : (h u : Held) (b : Literal) (ls : List Literal) → h.refuted ≡ false → IsUntouched (after (replacing [] (pairs_of b ls) []) h) u → u.refuted ≡ false
pairs-unrefuted h u b ls n e =
    let first : u.refuted ≡ (after (replacing [] (pairs_of b ls) []) h).refuted = ap (λ (x : Held). x.refuted) e in
    first ∙ (ap (λ (x : Held). x.refuted) (after-plain (replacing [] (pairs_of b ls) []) h (none-empty-added b ls)) ∙ n)

pub record AreAdded (h u : Held) (b : Literal) (ls : List Literal) : Type 0 where
  pub unrefuted : u.refuted ≡ false
  pub vars : u.vars ≡ h.vars
  pub costs : (labelled_of u).costs ≡ (labelled_of h).costs
  pub offset : u.offset ≡ h.offset
  pub stay : Among (live_clauses h.slots) (live_clauses u.slots)
  pub come : (l : Literal) → Contains ls l → Contains (live_clauses u.slots) (pair_clause b l)
  pub only : (c : List Literal) → Contains (live_clauses u.slots) c → Contains (live_clauses h.slots) c ⊎ ((l : Literal) × Contains ls l × (c ≡ pair_clause b l))

abbrev added_clauses : Held → Literal → List Literal → List (List Literal)
added_clauses h b ls = live_clauses (replaced [] (pairs_of b ls) h.slots)

pub pairs-added : (h u : Held) (b : Literal) (ls : List Literal) → h.refuted ≡ false → IsUntouched (after (replacing [] (pairs_of b ls) []) h) u → AreAdded h u b ls
pairs-added h u b ls n e =
    let free = pairs-unrefuted h u b ls n e in
    let slots = replacing-slots [] (pairs_of b ls) [] h u e free in
    let state = replacing-state [] (pairs_of b ls) [] h u e free in
    let r = replaced_clauses [] (pairs_of b ls) h.slots in
    let now : added_clauses h b ls ≡ live_clauses u.slots = ap live_clauses (sym slots) in
    record {
      unrefuted = free;
      vars = ap (λ (x : State). x.vars) state;
      costs = ap (λ (x : State). x.costs) state;
      offset = ap (λ (x : State). x.offset) state;
      stay = λ c i. subst (λ xs. Contains xs c) now (let w = live-id h.slots c i in r.kept w.0 c w.1 refl);
      come = λ l i. subst (λ xs. Contains xs (pair_clause b l)) now (r.come (pair_clause b l) (map-has (pair_clause b) ls l i));
      only = λ c i. elim (r.only c (subst (λ xs. Contains xs c) (sym now) i)) [
        | inl w ↦ inl (live-at h.slots w.0 c w.1)
        | inr j ↦ inr (pair-of b ls c j)
      ];
    }

-- the premises of a change
pub record ArePaired (h : Held) (b : Literal) (ls : List Literal) : Type 0 where
  pub weighs : weight_in h.weights b ≢ 0
  pub each : (l : Literal) → Contains ls l → IsPartner h b l
  pub implied : (l : Literal) → Contains ls l → IsImpliedPair (live_clauses h.slots) b l

pair-true : (cs : List (List Literal)) (b l : Literal) (c : List Literal) → IsImpliedPair cs b l → c ≡ pair_clause b l → Implies cs c
pair-true cs b l c p e a m =
    elim (p a m) [
      | inl t ↦ true_by a c b (subst (λ xs. Contains xs b) (sym e) (pair-first b l)) t
      | inr t ↦ true_by a c l (subst (λ xs. Contains xs l) (sym e) (pair-second b l)) t
    ]

pair-labels : (h : Held) (b l : Literal) (c : List Literal) → weight_in h.weights b ≢ 0 → weight_in h.weights l ≢ 0 → c ≡ pair_clause b l → IsPairOf (costs_of h.weights) c
pair-labels h b l c n m e =
    let p : Cost = record { lit = b; weight = weight_in h.weights b } in
    let q : Cost = record { lit = l; weight = weight_in h.weights l } in
    let i = weight-cost h.weights b n in
    let j = weight-cost h.weights l m in
    elim (pair-cases b l) [ inl f ↦ (p, q, i, j, e ∙ f) | inr f ↦ (q, p, j, i, e ∙ f) ]

pub pairs-run : (h u : Held) (b : Literal) (ls : List Literal) → ArePaired h b ls → IsUntouched (after (replacing [] (pairs_of b ls) []) h) u → IsRun AddsPairs h u
pairs-run h u b ls p e =
    let r = replaced_clauses [] (pairs_of b ls) h.slots in
    let stay : Among (live_clauses h.slots) (added_clauses h b ls) = λ c i. let w = live-id h.slots c i in r.kept w.0 c w.1 refl in
    replacing-run AddsPairs [] (pairs_of b ls) [] h u e
    (implied_keep (labelled_of h) (added_clauses h b ls)
    (λ d i. elim (r.only d i) [
      | inl w ↦ inl (live-at h.slots w.0 d w.1)
      | inr j ↦ let w = pair-of b ls d j in inr (pair-true (live_clauses h.slots) b w.0 d (p.implied w.0 w.1) w.2)
    ])
    (λ c i. inl (stay c i)))
    (record {
      costs = record { vars = refl; costs = refl; offset = refl };
      repairs = refl;
      stay = stay;
      pairs = λ c i. elim (r.only c i) [
        | inl w ↦ inl (live-at h.slots w.0 c w.1)
        | inr j ↦ let w = pair-of b ls c j in inr (pair-labels h b w.0 c p.weighs (p.each w.0 w.1).weighs w.2)
      ];
    })

-- two labels are on two variables
pub label-apart : (h : Held) (b l : Literal) → IsStore h → weight_in h.weights b ≢ 0 → weight_in h.weights l ≢ 0 → l ≢ b → l.variable ≢ b.variable
label-apart h b l s n m other e =
    let p : Cost = record { lit = b; weight = weight_in h.weights b } in
    let q : Cost = record { lit = l; weight = weight_in h.weights l } in
    other (ap (λ (c : Cost). c.lit) (AreApart-same (costs_of h.weights) q p s.labelled.costs_apart (weight-cost h.weights l m) (weight-cost h.weights b n) e))

-- covered pairs
pub covered-by : (cs : List (List Literal)) (a b : Literal) (c : List Literal) → Contains cs c → ((k : Literal) → Contains c k → (k ≡ a) ⊎ (k ≡ b)) → is_covered cs a b ≡ true
covered-by cs a b c i h = any-by (λ c. list_all (λ k. (place_of k == place_of a) || (place_of k == place_of b)) c) cs c i (only-covered a b c h)

pub covered-found : (cs : List (List Literal)) (a b : Literal) → is_covered cs a b ≡ true → (c : List Literal) × Contains cs c × ((k : Literal) → Contains c k → (k ≡ a) ⊎ (k ≡ b))
covered-found cs a b t =
    let w = any-found (λ c. list_all (λ k. (place_of k == place_of a) || (place_of k == place_of b)) c) cs t in
    (w.0, w.1, covered-only a b w.0 w.2)

pub covered-either : (cs : List (List Literal)) (a b : Literal) → is_covered cs a b ≡ true → is_covered cs b a ≡ true
covered-either cs a b t =
    let w = covered-found cs a b t in
    covered-by cs b a w.0 w.1 (λ k i. elim (w.2 k i) [ inl e ↦ inr e | inr e ↦ inl e ])

pub covered-stay : (cs ds : List (List Literal)) (a b : Literal) → Among cs ds → is_covered cs a b ≡ true → is_covered ds a b ≡ true
covered-stay cs ds a b h t = let w = covered-found cs a b t in covered-by ds a b w.0 (h w.0 w.1) w.2

uncovered-either : (cs : List (List Literal)) (a b : Literal) → is_covered cs a b ≡ false → is_covered cs b a ≡ false
uncovered-either cs a b f = elim (cases_Bool (is_covered cs b a)) [ inr g ↦ g | inl t ↦ absurd (true≢false (sym (covered-either cs b a t) ∙ f)) ]

-- the number of uncovered pairs falls
one_le : (x y : Bool) → (y ≡ true → x ≡ true) → cond (not x) 1 0 ≤ cond (not y) 1 0
one_le true y f = omega arith
one_le false true f = absurd (false≢true (f refl))
one_le false false f = omega arith

not-covered : (b : Bool) → b ≡ false → cond {A = ℕ} (not b) 1 0 ≡ 1
not-covered b e = ap {B = ℕ} (λ x. cond (not x) 1 0) e

covered-one : (b : Bool) → b ≡ true → cond {A = ℕ} (not b) 1 0 ≡ 0
covered-one b e = ap {B = ℕ} (λ x. cond (not x) 1 0) e

sum-lt : (f g : Cost → ℕ) (ps : List Cost) (q : Cost) → ((x : Cost) → Contains ps x → f x ≤ g x) → Contains ps q → f q < g q → sum_by f ps < sum_by g ps
sum-lt f g [] q h m l = absurd (Contains-none q m)
sum-lt f g (x ∷ ps) q h m l =
    let own = h x (Contains-first x ps) in
    let rest = sum_by_le f g ps (λ y i. h y (Contains-later x ps y i)) in
    elim (Contains-cases x ps q m) [
      | inl e ↦ let less : f x < g x = subst (λ y. f y < g y) e l in omega (arith, rest, less, sum_by-cons f x ps, sum_by-cons g x ps)
      | inr r ↦ omega (arith, own, sum-lt f g ps q (λ y i. h y (Contains-later x ps y i)) r l, sum_by-cons f x ps, sum_by-cons g x ps)
    ]

uncovered-lt : (cs ds : List (List Literal)) (ps : List Cost) (p q : Cost) → Among cs ds → Contains ps p → Contains ps q → p.lit ≢ q.lit → is_covered cs p.lit q.lit ≡ false → is_covered ds p.lit q.lit ≡ true → uncovered ds ps < uncovered cs ps
uncovered-lt cs ds [] p q h i j n a c = absurd (Contains-none p i)
uncovered-lt cs ds (x ∷ ps) p q h i j n a c =
    let f : Cost → ℕ = λ y. cond (not (is_covered ds x.lit y.lit)) 1 0 in
    let g : Cost → ℕ = λ y. cond (not (is_covered cs x.lit y.lit)) 1 0 in
    let each : (y : Cost) → Contains ps y → f y ≤ g y = λ y m. one_le (is_covered ds x.lit y.lit) (is_covered cs x.lit y.lit) (covered-stay cs ds x.lit y.lit h) in
    let first : sum_by f ps ≤ sum_by g ps = sum_by_le f g ps each in
    let rest = uncovered-le cs ds ps (λ y z m o. covered-stay cs ds y.lit z.lit h) in
    let here : (y z : Cost) → y ≡ x → Contains ps z → is_covered cs y.lit z.lit ≡ false → is_covered ds y.lit z.lit ≡ true → sum_by f ps < sum_by g ps = λ y z e m s t.
    let one : g z ≡ 1 = not-covered (is_covered cs x.lit z.lit) (subst (λ (w : Cost). is_covered cs w.lit z.lit ≡ false) e s) in
    let none : f z ≡ 0 = covered-one (is_covered ds x.lit z.lit) (subst (λ (w : Cost). is_covered ds w.lit z.lit ≡ true) e t) in
    sum-lt f g ps z each m (omega (arith, one, none)) in
    elim (Contains-cases x ps p i) [
      | inl e ↦ elim (Contains-cases x ps q j) [
        | inl k ↦ absurd (n (ap (λ (w : Cost). w.lit) (e ∙ sym k)))
        | inr m ↦ let less = here p q e m a c in omega (arith, rest, less)
      ]
      | inr m ↦ elim (Contains-cases x ps q j) [
        | inl k ↦ let less = here q p k m (uncovered-either cs p.lit q.lit a) (covered-either ds p.lit q.lit c) in omega (arith, rest, less)
        | inr o ↦ let more = uncovered-lt cs ds ps p q h m o n a c in omega (arith, first, more)
      ]
    ]

pub pair-covered : (h u : Held) (b : Literal) (ls : List Literal) (l : Literal) → AreAdded h u b ls → Contains ls l → is_covered (live_clauses u.slots) b l ≡ true
pair-covered h u b ls l a i = covered-by (live_clauses u.slots) b l (pair_clause b l) (a.come l i) (pair-has b l)

pub pairs-lower : (h u : Held) (b : Literal) (ls : List Literal) (l : Literal) → AreAdded h u b ls → ArePaired h b ls → Contains ls l → uncovered (live_clauses u.slots) (labelled_of u).costs < uncovered (live_clauses h.slots) (labelled_of h).costs
pairs-lower h u b ls l a p i =
    let partner = p.each l i in
    let less = uncovered-lt (live_clauses h.slots) (live_clauses u.slots) (costs_of h.weights) (record { lit = b; weight = weight_in h.weights b }) (record { lit = l; weight = weight_in h.weights l }) a.stay
    (weight-cost h.weights b p.weighs) (weight-cost h.weights l partner.weighs) (λ e. partner.other (sym e)) partner.open_pair (pair-covered h u b ls l a i) in
    subst (λ (cs : List Cost). uncovered (live_clauses u.slots) cs < uncovered (live_clauses h.slots) (labelled_of h).costs) (sym a.costs) less

pub pairs-smaller : (h u : Held) (b : Literal) (ls : List Literal) (l : Literal) → AreAdded h u b ls → ArePaired h b ls → Contains ls l → IsSmaller (labelled_of u) (labelled_of h)
pairs-smaller h u b ls l a p i =
    let less = pairs-lower h u b ls l a p i in
    inr (ap (λ (cs : List Cost). sum_by (λ (c : Cost). c.weight) cs) a.costs, inr (ap (λ (cs : List Cost). length cs) a.costs, inl less))

-- the rewrite as it was made
replacing-is : (b : Literal) (ls : List Literal) (i : ℕ) (gone : List ℕ) (added : List (List Literal)) (repairs : List Repair) → gone ≡ [] → added ≡ map (pair_clause b) (take i ls) → length ls ≤ i → repairs ≡ [] → replacing gone added repairs ≡ replacing [] (pairs_of b ls) []
replacing-is b ls i gone added repairs e f h g =
    let whole : added ≡ pairs_of b ls = f ∙ ap (map (pair_clause b)) (take_all i ls h) in
    ap (λ x. replacing x added repairs) e ∙ (ap (λ x. replacing [] x repairs) whole ∙ ap (λ x. replacing [] (pairs_of b ls) x) g)

pub pairs-replace : (h : Held) (b : Literal) (ls : List Literal) (i : ℕ) (gone : List ℕ) (added : List (List Literal)) (repairs : List Repair) → gone ≡ [] → added ≡ map (pair_clause b) (take i ls) → length ls ≤ i → repairs ≡ [] → IsUpTo h.vars b → ((l : Literal) → Contains ls l → IsUpTo h.vars l × (l.variable ≢ b.variable)) → IsReplacement (replacing gone added repairs) h
pairs-replace h b ls i gone added repairs e f less g up each = subst (λ r. IsReplacement r h) (sym (replacing-is b ls i gone added repairs e f less g)) (pairs-valid h b ls up each)

pub pairs-done : (h u : Held) (b : Literal) (ls : List Literal) (i : ℕ) (gone : List ℕ) (added : List (List Literal)) (repairs : List Repair) → gone ≡ [] → added ≡ map (pair_clause b) (take i ls) → length ls ≤ i → repairs ≡ [] → IsUntouched (after (replacing gone added repairs) h) u → IsUntouched (after (replacing [] (map (pair_clause b) ls) []) h) u
pairs-done h u b ls i gone added repairs e f less g done = subst (λ r. IsUntouched (after r h) u) (replacing-is b ls i gone added repairs e f less g) done
