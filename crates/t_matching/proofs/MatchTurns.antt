-- What a turn of label matching leaves.
use Rattle.std.proofs.Common.{◌≡◌, ◌≢◌, ◌+◌, ℕ, ◌<◌, ◌≤◌, Bool, true, false, List, [], ◌∷◌, ◌++◌, refl, sym, ◌∙◌, ap, subst, arith, inl, inr, Contains, IsTrue, ◌↔◌, cond, length, get_or, drop, append_assoc}
use Rattle.std.specs.Prelude.{Option, Some, None, MatchOption}
use Rattle.std.proofs.lemmas.Bool.{true≢false, cases_lt}
use Rattle.std.proofs.lemmas.List.Elements.{Contains-append_cases}
use Rattle.mp_logic.proofs.Members.{Contains-cases}
use Rattle.t_matching.specs.LabelPairs.{label_places}
use Rattle.t_matching.proofs.LabelPlaces.{cost-listed, label-before}
use Rattle.mp_logic.specs.SubsumedLabels.{IsPlain}
use Rattle.mp_clauses.specs.Slots.{live_clauses}
use Rattle.mp_clauses.specs.Places.{literal_at}
use Rattle.mp_clauses.proofs.Pricing.{literal-place, place-literal}
use Rattle.mp_logic.specs.Literal.{Literal}
use Rattle.mp_logic.specs.declared.instances.Cost.{Cost}
use Rattle.mp_logic.specs.declared.instances.Repair.{Repair}
use Rattle.mp_clauses.specs.Places.{place_of}
use Rattle.mp_store.specs.Held.{Held, labelled_of, IsUntouched}
use Rattle.mp_clauses.specs.Weighing.{weight_in}
use Rattle.mp_clauses.specs.Occurrences.{ids_with}
use Rattle.mp_store.specs.Techniques.{IsRun}
use Rattle.mp_store.proofs.Runs.{run-same}
use Rattle.t_matching.specs.Joins.{clauses_at, JoinsFollow, SplitRepairsFollow}
use Rattle.t_matching.specs.Matching.{AreMatching, HasNoMatch, LeavesOffset, IsMatchingRewrite, IsMatchStep, IsMatchOf}
use Rattle.t_matching.proofs.Labels.{cost-weight}
use Rattle.t_matching.proofs.PairIds.{rest-ids}
use Rattle.t_matching.proofs.Partners.{match-turned}
use Rattle.t_matching.proofs.PairTurns.{ArePairs, IsLeaving, AreCovered}

pub match-leaving : IsLeaving LeavesOffset
match-leaving = record {
  itself = λ s. record { vars = refl; offset = refl; costs = λ c i. i };
  twice = λ a b c x y f g. record { vars = g.vars ∙ f.vars; offset = g.offset ∙ f.offset; costs = λ k i. f.costs k (g.costs k i) };
}

pub match-pairs : ArePairs AreMatching
match-pairs = record { cost = λ a b s p. (p.weight.0, p.weight.1); turned = λ a b s p. match-turned s a b p }

pub turn-same : (s t : Held) → IsUntouched s t → IsRun LeavesOffset s t
turn-same s t e = run-same LeavesOffset s t match-leaving.itself e

-- the variables of labels rise with their places
place-above : (l k : Literal) → l.variable < k.variable → place_of l < place_of k
place-above l k h =
    let low : (n : Bool) → cond {A = ℕ} n 1 0 ≤ 1 = λ (n : Bool). elim n as (λ n. cond {A = ℕ} n 1 0 ≤ 1) [ true ↦ omega arith | false ↦ omega arith ] in
    omega (arith, low l.negative)

-- the step, whichever of the two labels is the lower one
pub match-step : (l : Literal) (h u : Held) → IsMatchOf l h u → (a : Literal) × (b : Literal) × IsMatchStep a b h u
match-step l h u t = elim t.2 [ inl s ↦ (l, t.0, s.1) | inr s ↦ (t.0, l, s.1) ]

-- what matches the label after its turn is higher
match-higher : (l b : Literal) (h u : Held) → IsMatchOf l h u → AreMatching l b (labelled_of u) → l.variable < b.variable
match-higher l b h u t p =
    elim (cases_lt l.variable b.variable) [
      | inl lt ↦ lt
      | inr ge ↦ absurd (elim t.2 [
        | inl s ↦
            let least = t.1.lowest b (s.1.fewer l b p) in
            let lower = s.0 in
            omega arith
        | inr s ↦
            let own = cost-weight u.weights (record { lit = l; weight = p.weight.0 }) p.weight.1 in
            own.1 (sym own.0 ∙ s.1.lost)
      ])
    ]

-- of each pair that is left, one of both labels has its turn still before it
pub match-covers : (s h u : Held) (item : ℕ) (taken rest : List ℕ) → label_places (labelled_of s) ≡ taken ++ item ∷ rest → ((c : Cost) → Contains (labelled_of h).costs c → Contains (labelled_of s).costs c) → IsMatchOf (literal_at item) h u
    → AreCovered AreMatching (item ∷ rest) (labelled_of h) → AreCovered AreMatching rest (labelled_of u)
match-covers s h u item taken rest order costs t covers a b p =
    let l = literal_at item in
    let w = match-step l h u t in
    let step = w.2 in
    let higher : (k j : Literal) → AreMatching k j (labelled_of u) → place_of k ≡ item → Contains rest (place_of j) = λ k j q e.
    (let is : k ≡ l = sym (literal-place k) ∙ ap literal_at e in
    let own : AreMatching l j (labelled_of u) = subst (λ (x : Literal). AreMatching x j (labelled_of u)) is q in
    let above : item < place_of j = subst (λ (n : ℕ). n < place_of j) (place-literal item) (place-above l j (match-higher l j h u t own)) in
    let cost : Cost = record { lit = j; weight = q.weight.0 } in
    let listed : Contains (taken ++ item ∷ rest) (place_of j) = subst (λ (xs : List ℕ). Contains xs (place_of j)) order (cost-listed (labelled_of s) cost (costs cost (step.costs cost q.weight.2))) in
    elim (Contains-append_cases taken (item ∷ rest) (place_of j) listed) [
      | inl i ↦ absurd (let before = label-before s taken item rest order (place_of j) i in omega arith)
      | inr i ↦ elim (Contains-cases item rest (place_of j) i) [ inl f ↦ absurd (omega arith) | inr r ↦ r ]
    ]) in
    elim (covers a b (step.fewer a b p)) [
      | inl i ↦ elim (Contains-cases item rest (place_of a) i) [ inl e ↦ inr (higher a b p e) | inr r ↦ inl r ]
      | inr i ↦ elim (Contains-cases item rest (place_of b) i) [ inl e ↦ inl (higher b a (match-turned (labelled_of u) a b p) e) | inr r ↦ inr r ]
    ]

-- one label more has had its turn
pub order-more : (s : Held) (items : List ℕ) (i : ℕ) → i < length items → (taken : List ℕ) × (label_places (labelled_of s) ≡ taken ++ drop i items) → (taken : List ℕ) × (label_places (labelled_of s) ≡ taken ++ drop (i + 1) items)
order-more s items i h order =
    let item : ℕ = get_or items i 0 in
    let rest : List ℕ = drop (i + 1) items in
    let own : drop i items ≡ item ∷ rest = rest-ids items i item h refl in
    (order.0 ++ item ∷ [], order.1 ∙ (ap (λ (q : List ℕ). order.0 ++ q) own ∙ sym (append_assoc order.0 (item ∷ []) rest)))

pub costs-same : (s h u : Held) → IsUntouched h u → ((c : Cost) → Contains (labelled_of h).costs c → Contains (labelled_of s).costs c) → (c : Cost) → Contains (labelled_of u).costs c → Contains (labelled_of s).costs c
costs-same s h u e costs = rw e costs

-- a turn that finds no partner
pub free-idle : (h : Held) (item : ℕ) (found : Option Literal) → ((l : Literal) → found ≡ Some l → ⊥) → MatchOption found (weight_in h.weights (literal_at item) ≡ 0) (λ l. (l ≡ literal_at item) × (weight_in h.weights l ≢ 0)) → HasNoMatch (literal_at item) (labelled_of h)
free-idle h item None n z m match =
    let own = cost-weight h.weights (record { lit = literal_at item; weight = match.weight.0 }) match.weight.1 in
    own.1 (sym own.0 ∙ z)
free-idle h item (Some l) n z m match = absurd (n l refl)

pub plain-idle : (h : Held) (item : ℕ) (l : Literal) (b : Bool) → l ≡ literal_at item → IsTrue b ↔ IsPlain l (live_clauses h.slots) → b ≡ false → HasNoMatch (literal_at item) (labelled_of h)
plain-idle h item l b e plain f m match = true≢false (sym (plain.1 (subst (λ (k : Literal). IsPlain k (live_clauses h.slots)) (sym e) match.plain_l)) ∙ f)

pub united-is : (l m : Literal) (h : Held) (kept_ids dropped_ids gone : List ℕ) (label : List Literal) (none made added : List (List Literal)) (costs : List Cost) (first repairs : List Repair)
    → kept_ids ≡ ids_with (place_of l) h.slots → dropped_ids ≡ ids_with (place_of m) h.slots → gone ≡ dropped_ids → label ≡ l ∷ [] → none ≡ [] → added ≡ made → JoinsFollow label m (clauses_at h.slots dropped_ids) none made
    → costs ≡ record { lit = m; weight = 0 } ∷ [] → first ≡ [] → SplitRepairsFollow l m (clauses_at h.slots kept_ids) (clauses_at h.slots dropped_ids) first repairs
    → IsMatchingRewrite l m h (record { gone = gone; added = added; costs = costs; shift = 0; repairs = repairs; fresh = 0 })
united-is l m h kept_ids dropped_ids gone label none made added costs first repairs a b g e n v j c f s =
    let joins : JoinsFollow (l ∷ []) m (clauses_at h.slots (ids_with (place_of m) h.slots)) [] made = rw (e, b, n) at j in
    let split : SplitRepairsFollow l m (clauses_at h.slots (ids_with (place_of l) h.slots)) (clauses_at h.slots (ids_with (place_of m) h.slots)) [] repairs = rw (a, b, f) at s in
    record {
      added = joins.0;
      repairs = repairs;
      is = rw (g, b, v, joins.1, c) refl;
      joins = joins.2;
      split = split;
    }
