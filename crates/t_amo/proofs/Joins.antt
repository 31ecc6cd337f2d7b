-- Joining a choice of labels: why the rewrite may be made, and what it leaves of weights and pairs.
use Rattle.std.proofs.Common.{◌≡◌, ◌≢◌, ◌⊎◌, ℕ, ◌+◌, ◌-◌, ◌*◌, ◌<◌, ◌≤◌, Bool, true, false, not, cond, List, [], ◌∷◌, ◌++◌, length, drop, length-append, get_or, set, refl, sym, ◌∙◌, ap, subst, arith, inl, inr, Contains, replicate, sum_by, get_or-set_same}
use Rattle.std.specs.Prelude.{◌==◌, map, nat_lt}
use Rattle.std.proofs.Math.Nat.{mul-suc}
use Rattle.std.proofs.lemmas.Bool.{cases_Bool, and_parts, ltb-true, ltb-false, eq-eqb, ne_eqb, true≢false, not-true}
use Rattle.std.proofs.Math.ListN.{length-set}
use Rattle.std.proofs.lemmas.List.{append-nil, drop_all}
use Rattle.std.proofs.lemmas.List.Elements.{All-contains, Contains-append_left}
use Rattle.std.proofs.lemmas.List.Sums.{sum_by-cons}
use Rattle.mp_logic.specs.Literal.{Literal, negation, IsUpTo}
use Rattle.mp_logic.specs.Normal.{rises, literals_rise, SameLiterals}
use Rattle.mp_logic.specs.AtMostOnes.{worth, ArePaired, IsTop}
use Rattle.mp_logic.specs.Weights.{weight_bound}
use Rattle.mp_logic.specs.declared.instances.Cost.{Cost}
use Rattle.mp_logic.specs.declared.instances.Repair.{Repair}
use Rattle.mp_logic.proofs.Literals.{negation-negation}
use Rattle.mp_logic.proofs.Members.{Contains-none, Contains-first, Contains-later, Contains-cases}
use Rattle.mp_logic.proofs.Chosen.{Contains-map}
use Rattle.mp_logic.proofs.Rising.{rising_is_normal}
use Rattle.mp_clauses.specs.Places.{place_of, literal_at, no_repeats}
use Rattle.mp_clauses.specs.Slots.{live_clauses}
use Rattle.mp_clauses.specs.Weighing.{costs_from, costs_of, weight_in, weighted}
use Rattle.mp_clauses.proofs.Found.{is_in-by}
use Rattle.mp_clauses.proofs.Pricing.{literal-place, same-place, costs_from-longer}
use Rattle.mp_store.specs.Held.{Held, labelled_of}
use Rattle.mp_store.specs.Rewriting.{weights_after, changed_by}
use Rattle.mp_store.specs.Soundness.{IsStore}
use Rattle.mp_store.specs.Changes.{priced, weight_before}
use Rattle.mp_store.proofs.Changes.{counts_change}
use Rattle.mp_store.proofs.KeptFixing.{variable_pair}
use Rattle.mp_store.proofs.Sound.{length-weighted, get_or-weighted, get_or-longer, total_below}
use Rattle.t_amo.specs.Labels.{are_clause, pairs_of}
use Rattle.t_amo.specs.AtMostOnes.{label_pairs}
use Rattle.t_amo.specs.Choosing.{IsPartner, AreMutual, least_of}
use Rattle.t_amo.specs.Joining.{fresh_label, lowered, chosen_rewrite, AreChosen, IsLeast, IsJoin}
use Rattle.t_amo.proofs.LabelPlaces.{map-has}
use Rattle.t_amo.proofs.Weighed.{label-within, live-within}
use Rattle.t_amo.proofs.PairClauses.{IsPair, two-only, clause-found, clause-by, clause-implies, partner-back}
use Rattle.t_amo.proofs.Choices.{another, first-other}
use Rattle.t_amo.proofs.Pairs.{AreOld, IsLost, pairs-less}
use Rattle.t_amo.proofs.Joined.{sum-snoc, chosen-or-not, kept-place, chosen-up, chosen-once, chosen-sum, at_most_ones_are_valid, join-added}

-- the least weight
least_le : (price : Literal → ℕ) (m : ℕ) (bs : List Literal) → least_of price m bs ≤ m
least_le price m [] = omega arith
least_le price m (b ∷ bs) =
    elim (cases_Bool (nat_lt (price b) m)) [
      | inl t ↦ let lt = ltb-true (price b) m t in let rest = least_le price (price b) bs in rw t (omega (arith, lt, rest))
      | inr f ↦ rw f (least_le price m bs)
    ]

least-each : (price : Literal → ℕ) (m : ℕ) (bs : List Literal) (b : Literal) → Contains bs b → least_of price m bs ≤ price b
least-each price m [] b i = absurd (Contains-none b i)
least-each price m (x ∷ bs) b i =
    elim (Contains-cases x bs b i) [
      | inl e ↦ elim (cases_Bool (nat_lt (price x) m)) [
        | inl t ↦ let rest = least_le price (price x) bs in rw (e, t) rest
        | inr f ↦ let ge = ltb-false (price x) m f in let rest = least_le price m bs in rw (e, f) (omega (arith, ge, rest))
      ]
      | inr r ↦ least-each price (cond (nat_lt (price x) m) (price x) m) bs b r
    ]

least-some : (price : Literal → ℕ) (m : ℕ) (bs : List Literal) → (least_of price m bs ≡ m) ⊎ ((b : Literal) × Contains bs b × (price b ≡ least_of price m bs))
least-some price m [] = inl refl
least-some price m (x ∷ bs) =
    elim (cases_Bool (nat_lt (price x) m)) [
      | inl t ↦ rw t (elim (least-some price (price x) bs) [ inl e ↦ inr (x, Contains-first x bs, sym e) | inr w ↦ inr (w.0, Contains-later x bs w.0 w.1, w.2) ])
      | inr f ↦ rw f (elim (least-some price m bs) [ inl e ↦ inl e | inr w ↦ inr (w.0, Contains-later x bs w.0 w.1, w.2) ])
    ]

pub least-is : (h : Held) (first : Literal) (rest bs : List Literal) (m w : ℕ) → bs ≡ first ∷ rest → m ≡ weight_in h.weights first → w ≡ least_of (weight_in h.weights) m rest → IsLeast h bs w
least-is h first rest bs m w e f g =
    let price = weight_in h.weights in
    let is : w ≡ least_of price (price first) rest = g ∙ ap (λ n. least_of price n rest) f in
    rw (e, is) (record {
      each = λ b i. elim (Contains-cases first rest b i) [ inl o ↦ rw o (least_le price (price first) rest) | inr r ↦ least-each price (price first) rest b r ];
      some = elim (least-some price (price first) rest) [ inl o ↦ (first, Contains-first first rest, sym o) | inr r ↦ (r.0, Contains-later first rest r.0 r.1, r.2) ];
    })

-- each two of a choice are an implied clause
pub mutual-paired : (h : Held) (bs : List Literal) → no_repeats (map place_of bs) ≡ true → ((b d : Literal) → Contains bs b → Contains bs d → d ≢ b → IsPartner h b d) → ArePaired (live_clauses h.slots) bs
mutual-paired h [] once p = tt
mutual-paired h (b ∷ bs) once p = (
  λ d i. (let q = p b d (Contains-first b bs) (Contains-later b bs d i) (first-other b bs d once i) in clause-implies (live_clauses h.slots) b d q.clause (λ e. q.other (sym e))),
  mutual-paired h bs (and_parts _ (no_repeats (map place_of bs)) once).1 (λ x y i j n. p x y (Contains-later b bs x i) (Contains-later b bs y j) n),
)

worth-product : (w : ℕ) (bs : List Literal) → worth w bs ≡ w * length bs
worth-product w [] = let z : w * 0 ≡ 0 = omega arith in sym z
worth-product w (b ∷ bs) = omega (arith, worth-product w bs, mul-suc w (length bs), sum_by-cons (λ (b : Literal). w) b bs)

-- all but one of the weights
product-less : (w : ℕ) (bs : List Literal) → 2 ≤ length bs → w * (length bs - 1) + w ≡ worth w bs
product-less w [] two = absurd (omega (arith, two))
product-less w (b ∷ bs) two =
    let n : length (b ∷ bs) - 1 ≡ length bs = omega arith in
    rw n (omega (arith, worth-product w bs, sum_by-cons (λ (b : Literal). w) b bs))

-- the clause of the negations and the new label
top-is : (fresh : Literal) (bs top : List Literal) → SameLiterals (fresh ∷ map negation bs) top → IsTop fresh bs top
top-is fresh bs top s = record {
  own = (s fresh).0 (Contains-first fresh (map negation bs));
  each = λ b i. (s (negation b)).0 (Contains-later fresh (map negation bs) (negation b) (map-has negation bs b i));
  only = λ k i. elim (Contains-cases fresh (map negation bs) k ((s k).1 i)) [ inl e ↦ inl e | inr r ↦ inr (Contains-map negation bs k r) ];
}

abbrev not-negative : Literal → Bool
not-negative l = l.negative

other-sign : (l : Literal) → not-negative (negation l) ≡ not-negative l → ⊥
other-sign l e = elim (cases_Bool l.negative) [ inl t ↦ true≢false (sym t ∙ (sym e ∙ ap not t)) | inr f ↦ true≢false (sym (ap not f) ∙ (e ∙ f)) ]

-- it has no variable twice: no label is the negation of another, nor on the new variable
top-normal : (h : Held) (bs top : List Literal) → IsStore h → AreMutual h bs → IsTop (fresh_label h) bs top → literals_rise top ≡ true → rises 0 top ≡ true
top-normal h bs top s m t rise =
    let up : (b : Literal) → Contains bs b → IsUpTo h.vars b = λ b i. label-within h b s (m.labels b i) in
    (rising_is_normal top (λ l i. elim (t.only l i) [ inl e ↦ rw e (omega arith) | inr b ↦ (let u = up b.0 b.1 in rw b.2 u.0) ])).0 rise
    (λ x. elim (t.only x.0 x.1) [
      | inl e ↦ elim (t.only (negation x.0) x.2) [
        | inl f ↦ absurd (let same : not-negative (negation x.0) ≡ not-negative x.0 = ap not-negative (f ∙ sym e) in other-sign x.0 same)
        | inr d ↦ absurd (let u = up d.0 d.1 in let v : x.0.variable ≡ d.0.variable = ap (λ (k : Literal). k.variable) d.2 in let n : x.0.variable ≡ h.vars + 1 = ap (λ (k : Literal). k.variable) e in omega (arith, u.1, v, n))
      ]
      | inr b ↦ elim (t.only (negation x.0) x.2) [
        | inl f ↦ absurd (let u = up b.0 b.1 in let v : x.0.variable ≡ b.0.variable = ap (λ (k : Literal). k.variable) b.2 in let n : x.0.variable ≡ h.vars + 1 = ap (λ (k : Literal). k.variable) f in omega (arith, u.1, v, n))
        | inr d ↦ absurd (let same : d.0 ≡ negation b.0 = sym (negation-negation d.0) ∙ (ap negation (sym d.2) ∙ (negation-negation x.0 ∙ b.2)) in m.labels d.0 d.1 (ap (weight_in h.weights) same ∙ variable_pair b.0 h.weights s.weights.one_each (m.labels b.0 b.1)))
      ]
    ])

-- a choice at its least weight
pub are-chosen : (h : Held) (bs : List Literal) (w : ℕ) (top : List Literal) → IsStore h → AreMutual h bs → 2 ≤ length bs → h.vars < h.inner → IsLeast h bs w → literals_rise top ≡ true → SameLiterals (fresh_label h ∷ map negation bs) top → AreChosen bs w (w * (length bs - 1)) top h
are-chosen h bs w top s m two room least rise same =
    let t = top-is (fresh_label h) bs top same in
    let some = least.some in
    let weighs = m.labels some.0 some.1 in
    record {
      some = two;
      distinct = m.once;
      weigh = λ b i. (let own = some.2 in omega (arith, weighs, own), least.each b i);
      paired = mutual-paired h bs m.once m.paired;
      sure = product-less w bs two;
      room = omega (arith, room);
      clause = t;
      normal = top-normal h bs top s m t rise;
    }

pub shift-below : (h : Held) (bs : List Literal) (w shift : ℕ) (top : List Literal) → IsStore h → AreChosen bs w shift top h → shift < weight_bound
shift-below h bs w shift top s c =
    let sum_now = chosen-sum h bs w shift top s c in
    let sure = c.sure in
    let below = total_below h s in
    omega (arith, sum_now, sure, below)

-- the rewrite as it is made
pub fresh-is : (h : Held) (l : Literal) → l.variable ≡ h.vars + 1 → l.negative ≡ false → l ≡ fresh_label h
fresh-is h l e f = ap (λ (v : ℕ). record { variable = v; negative = l.negative }) e ∙ ap (λ (n : Bool). record { variable = h.vars + 1; negative = n }) f

pub top-same : (fresh : Literal) (bs before top : List Literal) (i : ℕ) → length bs ≤ i → before ++ map negation (drop i bs) ≡ fresh ∷ map negation bs → SameLiterals before top → SameLiterals (fresh ∷ map negation bs) top
top-same fresh bs before top i le e s =
    let none : before ≡ fresh ∷ map negation bs = sym (append-nil before) ∙ (ap (λ (xs : List Literal). before ++ map negation xs) (sym (drop_all i bs le)) ∙ e) in
    subst (λ (xs : List Literal). SameLiterals xs top) none s

pub join-fits : (h : Held) (bs : List Literal) (w : ℕ) (fresh : Literal) (top : List Literal) → IsStore h → AreMutual h bs → 2 ≤ length bs → h.vars < h.inner → IsLeast h bs w → fresh ≡ fresh_label h → literals_rise top ≡ true → SameLiterals (fresh ∷ map negation bs) top → w * (length bs - 1) < weight_bound
join-fits h bs w fresh top s m two room least f rise same = shift-below h bs w (w * (length bs - 1)) top s (are-chosen h bs w top s m two room least rise (subst (λ (l : Literal). SameLiterals (l ∷ map negation bs) top) f same))

pub join-is : (h : Held) (bs : List Literal) (w : ℕ) (fresh : Literal) (top : List Literal) (gone : List ℕ) (added : List (List Literal)) (costs : List Cost) (repairs : List Repair) → IsStore h → AreMutual h bs → 2 ≤ length bs → h.vars < h.inner → IsLeast h bs w → fresh ≡ fresh_label h → literals_rise top ≡ true
    → SameLiterals (fresh ∷ map negation bs) top → gone ≡ [] → added ≡ top ∷ [] → costs ≡ lowered w h.weights bs ++ record { lit = fresh; weight = w } ∷ [] → repairs ≡ []
    → IsJoin bs w h (record { gone = gone; added = added; costs = costs; shift = w * (length bs - 1); repairs = repairs; fresh = 1 })
join-is h bs w fresh top gone added costs repairs s m two room least f rise same g a c e =
    let chosen = are-chosen h bs w top s m two room least rise (subst (λ (l : Literal). SameLiterals (l ∷ map negation bs) top) f same) in
    record { shift = w * (length bs - 1); top = top; chosen = chosen; is = rw (g, a, c, e, f) refl }

-- the weights once a choice is joined
weighted-own : (cs : List Cost) (ws : List ℕ) (c : Cost) → no_repeats (map (λ (x : Cost). place_of x.lit) cs) ≡ true → Contains cs c → place_of c.lit < length ws → get_or (weighted cs ws) (place_of c.lit) 0 ≡ c.weight
weighted-own [] ws c once i lt = absurd (Contains-none c i)
weighted-own (x ∷ cs) ws c once i lt =
    let parts = and_parts _ (no_repeats (map (λ (x : Cost). place_of x.lit) cs)) once in
    let len = length-set ws (place_of x.lit) x.weight in
    elim (Contains-cases x cs c i) [
      | inl e ↦
          let far : (d : Cost) → Contains cs d → place_of d.lit ≢ place_of c.lit = λ d j f.
          true≢false (sym (is_in-by (map (λ (x : Cost). place_of x.lit) cs) (place_of x.lit) (subst (Contains (map (λ (x : Cost). place_of x.lit) cs)) (f ∙ ap (λ (q : Cost). place_of q.lit) e) (map-has (λ (x : Cost). place_of x.lit) cs d j))) ∙ not-true _ parts.0) in
          get_or-weighted cs (set ws (place_of x.lit) x.weight) (place_of c.lit) far ∙ rw e (get_or-set_same ws (place_of x.lit) x.weight 0 (rw e at lt))
      | inr r ↦ weighted-own cs (set ws (place_of x.lit) x.weight) c parts.1 r (omega (arith, lt, len))
    ]

pub weight-now : (h : Held) (bs : List Literal) (w shift : ℕ) (top : List Literal) (b : Literal) → IsStore h → AreChosen bs w shift top h → Contains bs b → weight_in (weights_after (chosen_rewrite bs w shift top h) h) b ≡ weight_in h.weights b - w
weight-now h bs w shift top b s c i =
    let last : Cost = record { lit = fresh_label h; weight = w } in
    let cost : Cost = record { lit = b; weight = weight_in h.weights b - w } in
    let there : Contains (lowered w h.weights bs ++ last ∷ []) cost = Contains-append_left (lowered w h.weights bs) (last ∷ []) cost (map-has (λ (x : Literal). record { lit = x; weight = weight_in h.weights x - w }) bs b i) in
    let up = chosen-up h bs w shift top s c b i in
    let len = s.weights.len in
    let long = length-append h.weights (replicate (2 * 1) 0) in
    let sign : cond b.negative 1 0 ≤ 1 = elim b.negative as (λ n. cond n 1 0 ≤ 1) [ true ↦ omega arith | false ↦ omega arith ] in
    weighted-own (lowered w h.weights bs ++ last ∷ []) (h.weights ++ replicate (2 * 1) 0) cost (chosen-once h bs w shift top s c) there (omega (arith, up.1, len, long, sign))

-- but for the new label, what has a weight had one
pub weight-was : (h : Held) (bs : List Literal) (w shift : ℕ) (top : List Literal) (q : ℕ) → IsStore h → AreChosen bs w shift top h → q ≢ place_of (fresh_label h) → get_or (weights_after (chosen_rewrite bs w shift top h) h) q 0 ≢ 0 → get_or h.weights q 0 ≢ 0
weight-was h bs w shift top q s c other n z =
    elim (chosen-or-not bs q) [
      | inl b ↦ (let le = c.weigh b.0 b.1 in let same : weight_in h.weights b.0 ≡ 0 = ap (λ k. get_or h.weights k 0) b.2 ∙ z in omega (arith, le.0, le.1, same))
      | inr f ↦ n (kept-place h bs w shift top q f (λ e. other (sym e)) ∙ z)
    ]

-- no more labels than before
priced-one : (w : ℕ) → cond {A = ℕ} (w == 0) 0 1 ≤ 1
priced-one w = elim (w == 0) as (λ b. cond {A = ℕ} b 0 1 ≤ 1) [ true ↦ omega arith | false ↦ omega arith ]

ones_le : (w : ℕ) (ws : List ℕ) (bs : List Literal) → ((b : Literal) → Contains bs b → weight_in ws b ≢ 0) → sum_by (priced (λ d. 1)) (lowered w ws bs) ≤ sum_by (λ c. priced (λ d. 1) (weight_before ws c)) (lowered w ws bs)
ones_le w ws [] n = omega arith
ones_le w ws (b ∷ bs) n =
    let rest = ones_le w ws bs (λ x i. n x (Contains-later b bs x i)) in
    let c : Cost = record { lit = b; weight = weight_in ws b - w } in
    let most = priced-one (weight_in ws b - w) in
    let own : cond {A = ℕ} (weight_in ws b == 0) 0 1 ≡ 1 = rw (ne_eqb (weight_in ws b) 0 (n b (Contains-first b bs))) refl in
    omega (arith, rest, most, own, sum_by-cons (priced (λ d. 1)) c (lowered w ws bs), sum_by-cons (λ x. priced (λ d. 1) (weight_before ws x)) c (lowered w ws bs))

ones-less : (w : ℕ) (ws : List ℕ) (bs : List Literal) (d : Literal) → ((b : Literal) → Contains bs b → weight_in ws b ≢ 0) → Contains bs d → weight_in ws d ≡ w → sum_by (priced (λ d. 1)) (lowered w ws bs) + 1 ≤ sum_by (λ c. priced (λ d. 1) (weight_before ws c)) (lowered w ws bs)
ones-less w ws [] d n i e = absurd (Contains-none d i)
ones-less w ws (b ∷ bs) d n i e =
    let c : Cost = record { lit = b; weight = weight_in ws b - w } in
    let own : cond {A = ℕ} (weight_in ws b == 0) 0 1 ≡ 1 = rw (ne_eqb (weight_in ws b) 0 (n b (Contains-first b bs))) refl in
    let was = sum_by-cons (λ x. priced (λ d. 1) (weight_before ws x)) c (lowered w ws bs) in
    let now = sum_by-cons (priced (λ d. 1)) c (lowered w ws bs) in
    elim (Contains-cases b bs d i) [
      | inl o ↦
          let rest = ones_le w ws bs (λ x j. n x (Contains-later b bs x j)) in
          let same : weight_in ws b ≡ w = ap (weight_in ws) (sym o) ∙ e in
          let none : weight_in ws b - w ≡ 0 = omega (arith, same) in
          let gone : cond {A = ℕ} (weight_in ws b - w == 0) 0 1 ≡ 0 = rw (eq-eqb (weight_in ws b - w) 0 none) refl in
          omega (arith, rest, own, gone, was, now)
      | inr r ↦
          let rest = ones-less w ws bs d (λ x j. n x (Contains-later b bs x j)) r e in
          let most = priced-one (weight_in ws b - w) in
          omega (arith, rest, own, most, was, now)
    ]

pub fewer-labels : (h : Held) (bs : List Literal) (w shift : ℕ) (top : List Literal) → IsStore h → AreChosen bs w shift top h → AreMutual h bs → IsLeast h bs w → length (costs_of (weights_after (chosen_rewrite bs w shift top h) h)) ≤ length (costs_of h.weights)
fewer-labels h bs w shift top s c m least =
    let r = chosen_rewrite bs w shift top h in
    let last : Cost = record { lit = fresh_label h; weight = w } in
    let all = counts_change r h s (at_most_ones_are_valid h bs w shift top s c) in
    let snoc_new = sum-snoc (priced (λ d. 1)) (lowered w h.weights bs) last in
    let snoc_old = sum-snoc (λ d. priced (λ d. 1) (weight_before h.weights d)) (lowered w h.weights bs) last in
    let some = least.some in
    let less = ones-less w h.weights bs some.0 m.labels some.1 some.2 in
    let most = priced-one w in
    omega (arith, all, snoc_new, snoc_old, less, most)

-- the clause that comes is no pair, and so no pair comes
top-long : (h : Held) (bs : List Literal) (w shift : ℕ) (top : List Literal) → IsStore h → AreChosen bs w shift top h → AreMutual h bs → length top ≢ 2
top-long h bs w shift top s c m two =
    let b = another bs (fresh_label h) m.once c.some in
    let d = another bs b.0 m.once c.some in
    let t = c.clause in
    let pair : IsPair (negation b.0) (negation d.0) top = record { two = two; has_a = t.each b.0 b.1; has_b = t.each d.0 d.1 } in
    let apart : negation b.0 ≢ negation d.0 = λ e. d.2 (sym (negation-negation d.0) ∙ (ap negation (sym e) ∙ negation-negation b.0)) in
    elim (two-only (negation b.0) (negation d.0) top pair apart (fresh_label h) t.own) [
      | inl e ↦ (let u = chosen-up h bs w shift top s c b.0 b.1 in let v : h.vars + 1 ≡ b.0.variable = ap (λ (k : Literal). k.variable) e in omega (arith, u.1, v))
      | inr e ↦ (let u = chosen-up h bs w shift top s c d.0 d.1 in let v : h.vars + 1 ≡ d.0.variable = ap (λ (k : Literal). k.variable) e in omega (arith, u.1, v))
    ]

-- a pair of the store then is a pair of the store before
pub pair-was : (h : Held) (bs : List Literal) (w shift : ℕ) (top : List Literal) → IsStore h → AreChosen bs w shift top h → AreMutual h bs
    → AreOld (are_clause (live_clauses (changed_by (chosen_rewrite bs w shift top h) h).slots)) (are_clause (live_clauses h.slots)) (λ q. get_or (weights_after (chosen_rewrite bs w shift top h) h) q 0) (λ q. get_or h.weights q 0)
pair-was h bs w shift top s c m p q np nq e =
    let new = live_clauses (changed_by (chosen_rewrite bs w shift top h) h).slots in
    let x = clause-found new (literal_at p) (literal_at q) e in
    let old : Contains (live_clauses h.slots) x.0 = elim ((join-added h bs w shift top).only x.0 x.1) [ inl a ↦ a | inr o ↦ absurd (top-long h bs w shift top s c m (ap length (sym o) ∙ x.2.two)) ] in
    let within = live-within h x.0 s old in
    let far : (k : ℕ) → Contains x.0 (literal_at k) → k ≢ place_of (fresh_label h) = λ k i f.
    (let u = All-contains (IsUpTo h.vars) x.0 (literal_at k) within i in let g : literal_at k ≡ fresh_label h = ap literal_at f ∙ literal-place (fresh_label h) in let v : (literal_at k).variable ≡ h.vars + 1 = ap (λ (l : Literal). l.variable) g in omega (arith, u.1, v)) in
    (weight-was h bs w shift top p s c (far p x.2.has_a) np, weight-was h bs w shift top q s c (far q x.2.has_b) nq, clause-by (live_clauses h.slots) (literal_at p) (literal_at q) x.0 old x.2)

-- one pair at least goes: the label of least weight was in one
pub fewer-pairs : (h : Held) (bs : List Literal) (w shift : ℕ) (top : List Literal) → IsStore h → AreChosen bs w shift top h → AreMutual h bs → IsLeast h bs w → label_pairs (labelled_of (changed_by (chosen_rewrite bs w shift top h) h)) + 1 ≤ label_pairs (labelled_of h)
fewer-pairs h bs w shift top s c m least =
    let r = chosen_rewrite bs w shift top h in
    let A : ℕ → ℕ = λ q. get_or (weights_after r h) q 0 in
    let B : ℕ → ℕ = λ q. get_or h.weights q 0 in
    let R = are_clause (live_clauses (changed_by r h).slots) in
    let S = are_clause (live_clauses h.slots) in
    let wide = h.weights ++ replicate (2 * 1) 0 in
    let b = least.some in
    let d = another bs b.0 m.once c.some in
    let partner = m.paired b.0 d.0 b.1 d.1 d.2 in
    let back = partner-back h b.0 d.0 (m.labels b.0 b.1) partner in
    let used : A (place_of b.0) ≡ 0 = (let now = weight-now h bs w shift top b.0 s c b.1 in let own = b.2 in omega (arith, now, own)) in
    let lost : IsLost S A B (place_of b.0) (place_of d.0) = record {
      other = λ e. d.2 (sym (same-place b.0 d.0 e));
      used = used;
      had_p = m.labels b.0 b.1;
      had_q = m.labels d.0 d.1;
      pair = rw (literal-place b.0, literal-place d.0) partner.clause;
      back = rw (literal-place b.0, literal-place d.0) back.clause;
    } in
    let less = pairs-less R S A B 0 (weights_after r h) wide (place_of b.0) (place_of d.0) (λ k. let n : 0 + k ≡ k = omega arith in sym (ap A n)) (λ k. let n : 0 + k ≡ k = omega arith in get_or-longer h.weights (2 * 1) k ∙ sym (ap B n))
    (length-weighted (lowered w h.weights bs ++ record { lit = fresh_label h; weight = w } ∷ []) wide) (pair-was h bs w shift top s c m) lost (omega arith) (omega arith) in
    let same : pairs_of S (costs_from 0 wide) ≡ pairs_of S (costs_of h.weights) = ap (pairs_of S) (costs_from-longer 0 h.weights (2 * 1)) in
    omega (arith, less, same)
