-- Labels of which at most one is false.
use Rattle.std.proofs.Common.{◌≡◌, ◌≢◌, ◌⊎◌, ℕ, ◌+◌, ◌-◌, ◌*◌, ◌≤◌, Bool, true, false, cond, List, [], ◌∷◌, ◌++◌, length, get_or, zero, suc, refl, sym, ◌∙◌, ap, arith, inl, inr, Contains, All, IsTrue, replicate, sum, sum_by}
use Rattle.std.specs.Prelude.{◌==◌, map}
use Rattle.std.proofs.lemmas.Bool.{cases_Bool, cases_eq, eqb-true}
use Rattle.std.proofs.lemmas.List.{length-append, length-replicate}
use Rattle.std.proofs.lemmas.List.Elements.{All-contains, Contains-append_cases}
use Rattle.std.proofs.lemmas.List.Sums.{sum_by-cons}
use Rattle.mp_logic.specs.Literal.{Literal, IsUpTo}
use Rattle.mp_logic.specs.Truth.{literal_value}
use Rattle.mp_logic.specs.Normal.{rises}
use Rattle.mp_logic.specs.Keeping.{charged, Keeps}
use Rattle.mp_logic.specs.Sets.{IsWith}
use Rattle.mp_logic.specs.AtMostOnes.{worth, IsFresh, IsLowered}
use Rattle.mp_logic.specs.declared.instances.Cost.{Cost}
use Rattle.mp_logic.proofs.Members.{Contains-none, Contains-first, Contains-later, Contains-cases, Contains-one, All-from_contained}
use Rattle.mp_logic.proofs.Chosen.{Contains-map}
use Rattle.mp_logic.proofs.AtMost.{at_most_ones_keep}
use Rattle.mp_clauses.specs.Places.{place_of, is_in, no_repeats}
use Rattle.mp_clauses.specs.Slots.{live_clauses, has_empty}
use Rattle.mp_clauses.specs.Weighing.{costs_of, weight_in}
use Rattle.mp_store.specs.Held.{Held, labelled_of}
use Rattle.mp_store.specs.Rewriting.{weights_after, changed_by, after, IsValid, HasOneCostEach}
use Rattle.mp_store.specs.Soundness.{IsStore}
use Rattle.mp_store.specs.Changes.{priced, weight_before}
use Rattle.mp_clauses.proofs.Pricing.{has_cost, sum-costs, literal-place, costs_from-longer}
use Rattle.mp_store.proofs.Sound.{get_or-weighted, get_or-longer}
use Rattle.mp_store.proofs.KeptFixing.{live-id, live-at, store-variables}
use Rattle.mp_store.proofs.Changes.{sum-weighted-all, plain-sums, cond-zero, same-sum, priced-same}
use Rattle.mp_store.specs.Measures.{IsSmaller}
use Rattle.mp_store.proofs.Replaced.{replaced_clauses, after-plain}
use Rattle.t_amo.proofs.Choices.{snoc-once}
use Rattle.t_amo.specs.Joining.{fresh_label, lowered, chosen_rewrite, AreChosen}

-- sums over the chosen
sum-lowered : (f : Cost → ℕ) (w : ℕ) (weights : List ℕ) (bs : List Literal) → sum_by f (lowered w weights bs) ≡ sum_by (λ b. f (record { lit = b; weight = weight_in weights b - w })) bs
sum-lowered f w weights [] = refl
sum-lowered f w weights (b ∷ bs) =
    let rest = sum-lowered f w weights bs in
    omega (arith, rest, sum_by-cons f (record { lit = b; weight = weight_in weights b - w }) (lowered w weights bs), sum_by-cons (λ b. f (record { lit = b; weight = weight_in weights b - w })) b bs)

pub sum-snoc : (f : Cost → ℕ) (cs : List Cost) (c : Cost) → sum_by f (cs ++ c ∷ []) ≡ sum_by f cs + f c
sum-snoc f [] c = omega (arith, sum_by-cons f c [])
sum-snoc f (x ∷ cs) c = let rest = sum-snoc f cs c in omega (arith, rest, sum_by-cons f x (cs ++ c ∷ []), sum_by-cons f x cs)

-- the label of a chosen literal
chosen-within : (h : Held) (b : Literal) → IsStore h → weight_in h.weights b ≢ 0 → IsUpTo h.vars b
chosen-within h b s n =
    let z : 0 + place_of b ≡ place_of b = omega arith in
    let there : Contains (costs_of h.weights) (record { lit = b; weight = weight_in h.weights b }) = rw (z, literal-place b) at (has_cost 0 h.weights (place_of b) n) in
    All-contains (λ (p : Cost). IsUpTo h.vars p.lit) (costs_of h.weights) (record { lit = b; weight = weight_in h.weights b }) s.labelled.costs_within there

-- past the table there is no weight
past-table : (ws : List ℕ) (k : ℕ) → length ws ≤ k → get_or ws k 0 ≡ 0
past-table [] k h = refl
past-table (w ∷ ws) zero h = absurd (omega (arith, h))
past-table (w ∷ ws) (suc k) h = past-table ws k (omega (arith, h))

pub fresh-free : (h : Held) → IsStore h → weight_in h.weights (fresh_label h) ≡ 0
fresh-free h s = past-table h.weights (place_of (fresh_label h)) (let len = s.weights.len in omega arith)

-- where a cost of the rewrite stands
pub lowered-from : (w : ℕ) (weights : List ℕ) (bs : List Literal) (c : Cost) → Contains (lowered w weights bs) c → (b : Literal) × Contains bs b × (c ≡ record { lit = b; weight = weight_in weights b - w })
lowered-from w weights bs c i = Contains-map (λ (b : Literal). record { lit = b; weight = weight_in weights b - w }) bs c i

places-lowered : (w : ℕ) (weights : List ℕ) (bs : List Literal) (l : Literal) (wl : ℕ) → map (λ (c : Cost). place_of c.lit) (lowered w weights bs ++ record { lit = l; weight = wl } ∷ []) ≡ map place_of bs ++ place_of l ∷ []
places-lowered w weights [] l wl = refl
places-lowered w weights (b ∷ bs) l wl = ap (λ (x : List ℕ). place_of b ∷ x) (places-lowered w weights bs l wl)

not-in-places : (bs : List Literal) (p : ℕ) → ((b : Literal) → Contains bs b → place_of b ≢ p) → is_in p (map place_of bs) ≡ false
not-in-places [] p h = refl
not-in-places (b ∷ bs) p h =
    let rest = not-in-places bs p (λ x i. h x (Contains-later b bs x i)) in
    let own : (place_of b == p) ≡ false = elim (cases_Bool (place_of b == p)) [ inl t ↦ absurd (h b (Contains-first b bs) (eqb-true (place_of b) p t)) | inr f ↦ f ] in
    rw (own, rest) refl

-- a place that no cost names keeps its weight
pub kept-place : (h : Held) (bs : List Literal) (w shift : ℕ) (top : List Literal) (q : ℕ) → ((b : Literal) → Contains bs b → place_of b ≢ q) → place_of (fresh_label h) ≢ q → get_or (weights_after (chosen_rewrite bs w shift top h) h) q 0 ≡ get_or h.weights q 0
kept-place h bs w shift top q far n =
    get_or-weighted (lowered w h.weights bs ++ record { lit = fresh_label h; weight = w } ∷ []) (h.weights ++ replicate (2 * 1) 0) q
    (λ c i. elim (Contains-append_cases (lowered w h.weights bs) (record { lit = fresh_label h; weight = w } ∷ []) c i) [
      | inl a ↦ let b = lowered-from w h.weights bs c a in λ e. far b.0 b.1 (sym (ap (λ (x : Cost). place_of x.lit) b.2) ∙ e)
      | inr o ↦ λ e. n (sym (ap (λ (x : Cost). place_of x.lit) (Contains-one (record { lit = fresh_label h; weight = w }) c o)) ∙ e)
    ])
    ∙ get_or-longer h.weights (2 * 1) q

pub chosen-or-not : (bs : List Literal) (q : ℕ) → ((b : Literal) × Contains bs b × (place_of b ≡ q)) ⊎ ((b : Literal) → Contains bs b → place_of b ≢ q)
chosen-or-not [] q = inr (λ b i. absurd (Contains-none b i))
chosen-or-not (x ∷ bs) q =
    elim (cases_eq (place_of x) q) [
      | inl e ↦ inl (x, Contains-first x bs, e)
      | inr n ↦ elim (chosen-or-not bs q) [
        | inl w ↦ inl (w.0, Contains-later x bs w.0 w.1, w.2)
        | inr f ↦ inr (λ b i. elim (Contains-cases x bs b i) [ inl e ↦ (λ g. n (ap place_of (sym e) ∙ g)) | inr j ↦ f b j ])
      ]
    ]

-- of the two literals of a variable one has no cost still
one-side : (h : Held) (bs : List Literal) (w shift : ℕ) (top : List Literal) (v p q : ℕ) → IsStore h → AreChosen bs w shift top h → get_or h.weights q 0 ≡ 0 → place_of (fresh_label h) ≢ q → get_or (weights_after (chosen_rewrite bs w shift top h) h) q 0 ≡ 0
one-side h bs w shift top v p q s c z n =
    elim (chosen-or-not bs q) [
      | inl b ↦ (let le = c.weigh b.0 b.1 in let same : weight_in h.weights b.0 ≡ 0 = ap (λ k. get_or h.weights k 0) b.2 ∙ z in absurd (omega (arith, le.0, le.1, same)))
      | inr f ↦ kept-place h bs w shift top q f n ∙ z
    ]

chosen-apart : (h : Held) (bs : List Literal) (w shift : ℕ) (top : List Literal) → IsStore h → AreChosen bs w shift top h → HasOneCostEach (weights_after (chosen_rewrite bs w shift top h) h)
chosen-apart h bs w shift top s c v =
    elim (cases_eq v (h.vars + 1)) [
      | inl e ↦ inr (one-side h bs w shift top v 0 (2 * v + 1) s c (past-table h.weights (2 * v + 1) (let len = s.weights.len in omega arith)) (λ f. omega (arith, f, e)))
      | inr n ↦ elim (s.weights.one_each v) [
        | inl a ↦ inl (one-side h bs w shift top v 0 (2 * v) s c a (λ f. n (omega (arith, f))))
        | inr b ↦ inr (one-side h bs w shift top v 0 (2 * v + 1) s c b (λ f. n (omega (arith, f))))
      ]
    ]

pub fresh-other : (h : Held) (b : Literal) → IsUpTo h.vars b → place_of b ≢ place_of (fresh_label h)
fresh-other h b u e = (let sign : cond b.negative 1 0 ≤ 1 = elim b.negative as (λ n. cond n 1 0 ≤ 1) [ true ↦ omega arith | false ↦ omega arith ] in omega (arith, u.1, e, sign))

-- what is known of the chosen
pub chosen-up : (h : Held) (bs : List Literal) (w shift : ℕ) (top : List Literal) → IsStore h → AreChosen bs w shift top h → (b : Literal) → Contains bs b → IsUpTo h.vars b
chosen-up h bs w shift top s c b i = chosen-within h b s (let le = c.weigh b i in λ z. omega (arith, le.0, le.1, z))

pub chosen-costs : (h : Held) (bs : List Literal) (w shift : ℕ) (top : List Literal) → IsStore h → AreChosen bs w shift top h → (c : Cost) → Contains (lowered w h.weights bs ++ record { lit = fresh_label h; weight = w } ∷ []) c → IsUpTo (h.vars + 1) c.lit
chosen-costs h bs w shift top s c x i =
    elim (Contains-append_cases (lowered w h.weights bs) (record { lit = fresh_label h; weight = w } ∷ []) x i) [
      | inl a ↦ (let b = lowered-from w h.weights bs x a in let u = chosen-up h bs w shift top s c b.0 b.1 in rw b.2 (u.0, omega (arith, u.1)))
      | inr o ↦ rw (Contains-one (record { lit = fresh_label h; weight = w }) x o) (omega arith, omega arith)
    ]

pub chosen-once : (h : Held) (bs : List Literal) (w shift : ℕ) (top : List Literal) → IsStore h → AreChosen bs w shift top h → no_repeats (map (λ (c : Cost). place_of c.lit) (lowered w h.weights bs ++ record { lit = fresh_label h; weight = w } ∷ [])) ≡ true
chosen-once h bs w shift top s c =
    rw (places-lowered w h.weights bs (fresh_label h) w) (snoc-once (map place_of bs) (place_of (fresh_label h)) c.distinct (not-in-places bs (place_of (fresh_label h)) (λ b i. fresh-other h b (chosen-up h bs w shift top s c b i))))

-- sums with the weights of the chosen split
split-sum : (a : Cost → ℕ) (w : ℕ) (weights : List ℕ) (bs : List Literal) → ((b : Literal) (x : ℕ) → w ≤ x → a (record { lit = b; weight = x - w }) + a (record { lit = b; weight = w }) ≡ a (record { lit = b; weight = x })) → ((b : Literal) → Contains bs b → w ≤ weight_in weights b)
    → sum_by a (lowered w weights bs) + sum_by (λ b. a (record { lit = b; weight = w })) bs ≡ sum_by (λ c. a (weight_before weights c)) (lowered w weights bs)
split-sum a w weights [] h le = refl
split-sum a w weights (b ∷ bs) h le =
    let rest = split-sum a w weights bs h (λ x i. le x (Contains-later b bs x i)) in
    let own = h b (weight_in weights b) (le b (Contains-first b bs)) in
    let c : Cost = record { lit = b; weight = weight_in weights b - w } in
    omega (arith, rest, own, sum_by-cons a c (lowered w weights bs), sum_by-cons (λ b. a (record { lit = b; weight = w })) b bs, sum_by-cons (λ c. a (weight_before weights c)) c (lowered w weights bs))

charged-split : (a : List Bool) (b : Literal) (x w : ℕ) → w ≤ x → charged a (record { lit = b; weight = x - w }) + charged a (record { lit = b; weight = w }) ≡ charged a (record { lit = b; weight = x })
charged-split a b x w h = elim (literal_value a b) as (λ t. cond t (x - w) 0 + cond t w 0 ≡ cond t x 0) [ true ↦ omega (arith, h) | false ↦ omega arith ]

-- with the new weights all together
pub chosen-sum : (h : Held) (bs : List Literal) (w shift : ℕ) (top : List Literal) → IsStore h → AreChosen bs w shift top h → sum (weights_after (chosen_rewrite bs w shift top h) h) + worth w bs ≡ sum h.weights + w
chosen-sum h bs w shift top s c =
    let f : Cost → ℕ = λ (c : Cost). c.weight in
    let cs = lowered w h.weights bs ++ record { lit = fresh_label h; weight = w } ∷ [] in
    let table = h.weights ++ replicate (2 * 1) 0 in
    let once : no_repeats (map (λ (c : Cost). place_of c.lit) cs) ≡ true = chosen-once h bs w shift top s c in
    let len = s.weights.len in
    let long = length-append h.weights (replicate (2 * 1) 0) in
    let more = length-replicate {A = ℕ} (2 * 1) 0 in
    let all = sum-weighted-all f cs table once (λ x i. (let u = chosen-costs h bs w shift top s c x i in let sign : cond x.lit.negative 1 0 ≤ 1 = elim x.lit.negative as (λ n. cond n 1 0 ≤ 1) [ true ↦ omega arith | false ↦ omega arith ] in omega (arith, u.0, u.1, sign, len, long, more))) in
    let plain = λ (ds : List Cost). same-sum (priced f) f ds (λ d i. priced-same f (λ l. refl) d) in
    let before = same-sum (λ d. priced f (weight_before table d)) (λ d. f (weight_before h.weights d)) cs (λ d i. priced-same f (λ l. refl) (weight_before table d) ∙ get_or-longer h.weights (2 * 1) (place_of d.lit)) in
    let longer : sum_by f (costs_of table) ≡ sum_by f (costs_of h.weights) = ap (sum_by f) (costs_from-longer 0 h.weights (2 * 1)) in
    let snoc_new = sum-snoc f (lowered w h.weights bs) (record { lit = fresh_label h; weight = w }) in
    let snoc_old = sum-snoc (λ d. f (weight_before h.weights d)) (lowered w h.weights bs) (record { lit = fresh_label h; weight = w }) in
    let free = fresh-free h s in
    let split = split-sum f w h.weights bs (λ b x le. omega (arith, le)) (λ b i. (c.weigh b i).1) in
    omega (arith, all, plain cs, before, longer, snoc_new, snoc_old, free, split, sum-costs 0 h.weights, sum-costs 0 (weights_after (chosen_rewrite bs w shift top h) h))

pub at_most_ones_are_valid : (h : Held) (bs : List Literal) (w shift : ℕ) (top : List Literal) → IsStore h → AreChosen bs w shift top h → IsValid (chosen_rewrite bs w shift top h) h
at_most_ones_are_valid h bs w shift top s c =
    let up = chosen-up h bs w shift top s c in
    let n = h.vars + 1 in
    let in_top : (k : Literal) → Contains top k → IsUpTo n k = λ k i. elim (c.clause.only k i) [
      | inl e ↦ rw e (omega arith, omega arith)
      | inr b ↦ (let u = up b.0 b.1 in rw b.2 (u.0, omega (arith, u.1)))
    ] in
    let total = chosen-sum h bs w shift top s c in
    record {
      gone_live = λ k d l. absurd (omega arith);
      gone_distinct = refl;
      added_normal = All-from_contained (λ c. IsTrue (rises 0 c)) (top ∷ []) (λ x i. rw (Contains-one top x i) c.normal);
      fresh = omega arith;
      limit = c.room;
      added_within = All-from_contained (All (IsUpTo n)) (top ∷ []) (λ x i. rw (Contains-one top x i) (All-from_contained (IsUpTo n) top in_top));
      costs_within = All-from_contained (λ (x : Cost). IsUpTo n x.lit) (lowered w h.weights bs ++ record { lit = fresh_label h; weight = w } ∷ []) (chosen-costs h bs w shift top s c);
      costs_distinct = chosen-once h bs w shift top s c;
      repairs_proper = λ k d l. absurd (omega arith);
      apart = chosen-apart h bs w shift top s c;
      total = (let sure = c.sure in omega (arith, total, sure));
    }

top-length : (top : List Literal) (k : Literal) → Contains top k → (length top == 0) ≡ false
top-length [] k i = absurd (Contains-none k i)
top-length (x ∷ top) k i = elim (cases_Bool (length (x ∷ top) == 0)) [ inl t ↦ absurd (let n = eqb-true (length (x ∷ top)) 0 t in omega (arith, n)) | inr f ↦ f ]

two-worth : (w : ℕ) (bs : List Literal) → 2 ≤ length bs → w + w ≤ worth w bs
two-worth w [] h = absurd (omega (arith, h))
two-worth w (a ∷ []) h = absurd (omega (arith, h))
two-worth w (a ∷ (b ∷ bs)) h = omega (arith, sum_by-cons (λ (b : Literal). w) a (b ∷ bs), sum_by-cons (λ (b : Literal). w) b bs)

first-of : (bs : List Literal) → 2 ≤ length bs → (b : Literal) × Contains bs b
first-of [] h = absurd (omega (arith, h))
first-of (b ∷ bs) h = (b, Contains-first b bs)

-- the clause comes, and all others stay
pub join-added : (h : Held) (bs : List Literal) (w shift : ℕ) (top : List Literal) → IsWith top (live_clauses h.slots) (live_clauses (changed_by (chosen_rewrite bs w shift top h) h).slots)
join-added h bs w shift top =
    let change = replaced_clauses [] (top ∷ []) h.slots in
    record {
      rest = λ x i. (let a = live-id h.slots x i in change.kept a.0 x a.1 refl);
      own = change.come top (Contains-first top []);
      only = λ x i. elim (change.only x i) [ inl a ↦ inl (live-at h.slots a.0 x a.1) | inr b ↦ inr (Contains-one top x b) ];
    }

-- so the store stands
pub join-plain : (h : Held) (bs : List Literal) (w shift : ℕ) (top : List Literal) → AreChosen bs w shift top h → after (chosen_rewrite bs w shift top h) h ≡ changed_by (chosen_rewrite bs w shift top h) h
join-plain h bs w shift top c =
    let empty : has_empty (top ∷ []) ≡ false = (let f = top-length top (fresh_label h) c.clause.own in rw f refl) in
    after-plain (chosen_rewrite bs w shift top h) h empty

-- no literal of the store is on the new variable
join-fresh : (h : Held) (bs : List Literal) (w shift : ℕ) (top : List Literal) → IsStore h → AreChosen bs w shift top h → IsFresh (fresh_label h) (labelled_of h) bs
join-fresh h bs w shift top s c =
    let old = labelled_of h in
    record {
      from_one = omega arith;
      hard = λ d i k j e. (let v = All-contains (IsUpTo h.vars) d k (All-contains (All (IsUpTo h.vars)) old.hard d s.labelled.hard_within i) j in omega (arith, v.1, e));
      costs = λ p i e. (let v = All-contains (λ (q : Cost). IsUpTo h.vars q.lit) old.costs p s.labelled.costs_within i in omega (arith, v.1, e));
      chosen = λ b i. (let v = chosen-up h bs w shift top s c b i in (v.0, λ e. omega (arith, v.1, e)));
    }

join-lowered : (h : Held) (bs : List Literal) (w shift : ℕ) (top : List Literal) → IsStore h → AreChosen bs w shift top h → IsLowered w (fresh_label h) bs (labelled_of h) (labelled_of (changed_by (chosen_rewrite bs w shift top h) h))
join-lowered h bs w shift top s c =
    let r = chosen_rewrite bs w shift top h in
    let valid = at_most_ones_are_valid h bs w shift top s c in
    let total = chosen-sum h bs w shift top s c in
    let sure = c.sure in
    let free = fresh-free h s in
    record {
      costs = λ a.
          let all = plain-sums (charged a) (λ l. cond-zero (literal_value a l)) r h s valid in
          let snoc_new = sum-snoc (charged a) (lowered w h.weights bs) (record { lit = fresh_label h; weight = w }) in
          let snoc_old = sum-snoc (λ d. charged a (weight_before h.weights d)) (lowered w h.weights bs) (record { lit = fresh_label h; weight = w }) in
          let none : charged a (record { lit = fresh_label h; weight = weight_in h.weights (fresh_label h) }) ≡ 0 = ap (λ n. charged a (record { lit = fresh_label h; weight = n })) free ∙ cond-zero (literal_value a (fresh_label h)) in
          let split = split-sum (charged a) w h.weights bs (λ b x le. charged-split a b x w le) (λ b i. (c.weigh b i).1) in
          omega (arith, all, snoc_new, snoc_old, none, split);
      offset = omega (arith, sure);
      total = (let a = sum-costs 0 (weights_after r h) in let b = sum-costs 0 h.weights in omega (arith, total, sure, a, b));
    }

-- models and costs are kept
pub join-keeps : (h : Held) (bs : List Literal) (w shift : ℕ) (top : List Literal) → IsStore h → AreChosen bs w shift top h → Keeps (labelled_of h) (labelled_of (changed_by (chosen_rewrite bs w shift top h) h)) []
join-keeps h bs w shift top s c =
    at_most_ones_keep (labelled_of h) (labelled_of (changed_by (chosen_rewrite bs w shift top h) h)) w (fresh_label h) bs top (store-variables h s) (join-fresh h bs w shift top s c) c.paired c.clause (join-added h bs w shift top) (join-lowered h bs w shift top s c)
    (omega arith)

-- all weights together get less
pub join-smaller : (h : Held) (bs : List Literal) (w shift : ℕ) (top : List Literal) → IsStore h → AreChosen bs w shift top h → IsSmaller (labelled_of (changed_by (chosen_rewrite bs w shift top h) h)) (labelled_of h)
join-smaller h bs w shift top s c =
    let total = chosen-sum h bs w shift top s c in
    let two = two-worth w bs c.some in
    let first = first-of bs c.some in
    let pos = (c.weigh first.0 first.1).0 in
    let a = sum-costs 0 (weights_after (chosen_rewrite bs w shift top h) h) in
    let b = sum-costs 0 h.weights in
    inl (omega (arith, total, two, pos, a, b))
