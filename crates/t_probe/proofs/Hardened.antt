-- Labels that are too dear.
use Rattle.std.proofs.Common.{◌≡◌, ◌≢◌, ◌⊎◌, ℕ, ◌+◌, ◌<◌, ◌≤◌, Bool, true, false, not, cond, List, [], ◌∷◌, ◌++◌, length, get_or, drop, refl, sym, ◌∙◌, ap, subst, arith, sum_by, inl, inr, Contains, All, add-zero}
use Rattle.std.specs.Prelude.{◌==◌, ◌&&◌, ◌||◌, ◌^◌, map, nat_le}
use Rattle.std.proofs.lemmas.List.Sums.{sum_by-drop_more}
use Rattle.std.specs.List.{filter, list_any}
use Rattle.std.proofs.lemmas.Bool.{cases_Bool, true≢false, false≢true, not-true, and_parts, and_from, eqb-true, leb-true, leb-false, le-leb}
use Rattle.std.proofs.lemmas.List.Elements.{All-contains}
use Rattle.mp_logic.specs.Literal.{Literal, negation, IsUpTo}
use Rattle.mp_logic.specs.Truth.{literal_value, IsSatisfied}
use Rattle.mp_logic.specs.Keeping.{State, IsModel, charged, full_cost}
use Rattle.mp_logic.specs.Labelled.{AreApart}
use Rattle.mp_logic.specs.declared.instances.Cost.{Cost}
use Rattle.mp_logic.specs.declared.instances.Repair.{Repair}
use Rattle.mp_logic.proofs.Members.{Contains-none, Contains-first, Contains-later, Contains-cases, Contains-map, All-from_contained, witness, satisfied, sum_by_le}
use Rattle.mp_logic.proofs.Literals.{negation-negation, negation_true, negation_false}
use Rattle.mp_logic.proofs.Charges.{charged_true, charged_at_most}
use Rattle.mp_clauses.specs.Places.{place_of, is_in, no_repeats}
use Rattle.mp_clauses.specs.Slots.{live_clauses, has_empty, cleared}
use Rattle.mp_clauses.specs.Weighing.{costs_of, weight_in}
use Rattle.mp_clauses.proofs.Found.{any-by, any-found}
use Rattle.mp_store.specs.Held.{Held, labelled_of, IsUntouched}
use Rattle.mp_store.specs.Rewriting.{weights_after, changed_by, refuted_by, after}
use Rattle.mp_store.specs.Soundness.{IsStore}
use Rattle.mp_store.specs.Fixing.{touched_by, shortened, fixing_of}
use Rattle.mp_store.specs.Measures.{IsSmaller}
use Rattle.mp_store.specs.Techniques.{IsRun, IsChange}
use Rattle.mp_store.proofs.Fixes.{AreDistinct, filter-from, filter-has, fixing-valid}
use Rattle.mp_store.proofs.KeptFixing.{variable_pair}
use Rattle.mp_store.proofs.Replaced.{after-plain}
use Rattle.mp_store.proofs.Rewritten.{run-after}
use Rattle.mp_store.proofs.Runs.{run-same}
use Rattle.mp_store.proofs.Sound.{live-after, refuted-live}
use Rattle.std.proofs.lemmas.List.Elements.{Contains-append_right}
use Rattle.mp_logic.specs.Sets.{Among}
use Rattle.mp_logic.specs.Weights.{weight_bound}
use Rattle.mp_store.specs.declared.rewrite.Rewrite.{Rewrite}
use Rattle.mp_turns.specs.Clauses.{replacing}
use Rattle.core_solver.specs.declared.query.Query.{Query}
use Rattle.core_solver.specs.declared.query.Verdict.{Verdict}
use Rattle.core_solver.specs.declared.query.Verdict.TheVariants.{Model, Core, Unknown}
use Rattle.core_solver.specs.Verdicts.{IsQuery, IsRightVerdict}
use Rattle.t_probe.specs.Asking.{IsUnanswered, IsProbed}
use Rattle.t_probe.specs.declared.probed.ProbeEnding.TheVariants.{Finished, Spent, Bound}
use Rattle.t_probe.specs.Hardening.{IsHardened, IsHardening, LeavesOffset, is_too_dear, hardened_by, fixed_together, hardening}
use Rattle.t_probe.specs.Underway.{IsAbout, IsProbeStep}
use Rattle.t_probe.proofs.Steps.{refuting-step}
use Rattle.t_probe.proofs.Calls.{query-valid, core-empty, unanswered}
use Rattle.t_probe.proofs.Together.{slots_together, AreTrue, AreFree, BendTogether, together-on, together-shift, together-paid, together-costs, together-keeps, together-smaller, together-gone, cost-weight, sum-has}

-- a literal of the list is the negation of a label that is too dear
record IsDear (a : List Bool) (u : ℕ) (costs : List Cost) (l : Literal) : Type 0 where
  cost : Cost
  own : Contains costs cost
  is : l ≡ negation cost.lit
  untrue : literal_value a cost.lit ≡ false
  weighs : u ≤ cost.weight

le-from : (u w : ℕ) → nat_le u w ≡ true → u ≤ w
le-from u w e = leb-true u w e

le-by : (u w : ℕ) → u ≤ w → nat_le u w ≡ true
le-by u w e = le-leb u w e

le-else : (u w : ℕ) → nat_le u w ≡ false → w ≤ u
le-else u w e = let less = leb-false u w e in omega arith

dear-from : (a : List Bool) (u : ℕ) (costs : List Cost) (l : Literal) → Contains (hardened_by a u costs) l → IsDear a u costs l
dear-from a u costs l h =
    let w = Contains-map (λ (p : Cost). negation p.lit) (filter (is_too_dear a u) costs) l h in
    let f = filter-from (is_too_dear a u) costs w.0 w.1 in
    let parts = and_parts (not (literal_value a w.0.lit)) (nat_le u w.0.weight) f.1 in
    record { cost = w.0; own = f.0; is = w.2; untrue = not-true (literal_value a w.0.lit) parts.0; weighs = le-from u w.0.weight parts.1 }

contains-negations : (ps : List Cost) (p : Cost) → Contains ps p → Contains (map (λ (c : Cost). negation c.lit) ps) (negation p.lit)
contains-negations [] p i = absurd (Contains-none p i)
contains-negations (q ∷ ps) p i =
    elim (Contains-cases q ps p i) [
      | inl e ↦ subst (λ (x : Cost). Contains (map (λ (c : Cost). negation c.lit) (q ∷ ps)) (negation x.lit)) (sym e) (Contains-first (negation q.lit) (map (λ (c : Cost). negation c.lit) ps))
      | inr r ↦ Contains-later (negation q.lit) (map (λ (c : Cost). negation c.lit) ps) (negation p.lit) (contains-negations ps p r)
    ]

dear-in : (a : List Bool) (u : ℕ) (costs : List Cost) (p : Cost) → Contains costs p → literal_value a p.lit ≡ false → u ≤ p.weight → Contains (hardened_by a u costs) (negation p.lit)
dear-in a u costs p i f w =
    let test : is_too_dear a u p ≡ true = and_from (not (literal_value a p.lit)) (nat_le u p.weight) (ap not f) (le-by u p.weight w) in
    contains-negations (filter (is_too_dear a u) costs) p (filter-has (is_too_dear a u) costs p i test)

-- they are on different variables
no-variable : (a : List Bool) (u v : ℕ) (ps : List Cost) → ((p : Cost) → Contains ps p → p.lit.variable ≢ v) → is_in v (map (λ (l : Literal). l.variable) (hardened_by a u ps)) ≡ false
no-variable a u v ps h =
    elim (cases_Bool (is_in v (map (λ (l : Literal). l.variable) (hardened_by a u ps)))) [
      | inr f ↦ f
      | inl t ↦
          let w = any-found (λ (y : ℕ). y == v) (map (λ (l : Literal). l.variable) (hardened_by a u ps)) t in
          let l = Contains-map (λ (l : Literal). l.variable) (hardened_by a u ps) w.0 w.1 in
          let d = dear-from a u ps l.0 l.1 in
          absurd (h d.cost d.own (ap (λ (k : Literal). k.variable) (sym d.is) ∙ (sym l.2 ∙ eqb-true w.0 v w.2)))
    ]

dear-distinct : (a : List Bool) (u : ℕ) (ps : List Cost) → AreApart ps → AreDistinct (hardened_by a u ps)
dear-distinct a u [] h = refl
dear-distinct a u (p ∷ ps) h =
    let rest = dear-distinct a u ps h.1 in
    let none = no-variable a u p.lit.variable ps (λ q i. All-contains (λ (x : Cost). x.lit.variable ≢ p.lit.variable) ps q h.0 i) in
    elim (is_too_dear a u p) as (λ b. no_repeats (map (λ (l : Literal). l.variable) (map (λ (c : Cost). negation c.lit) (cond b (p ∷ filter (is_too_dear a u) ps) (filter (is_too_dear a u) ps)))) ≡ true) [
      | true ↦ and_from (not (is_in p.lit.variable (map (λ (l : Literal). l.variable) (hardened_by a u ps)))) (no_repeats (map (λ (l : Literal). l.variable) (hardened_by a u ps))) (ap not none) rest
      | false ↦ rest
    ]

pub dear-lits : (h : Held) (a : List Bool) (u : ℕ) → IsStore h → AreDistinct (hardened_by a u (costs_of h.weights)) × All (IsUpTo h.vars) (hardened_by a u (costs_of h.weights))
dear-lits h a u s = (
  dear-distinct a u (costs_of h.weights) s.labelled.costs_apart,
  All-from_contained (IsUpTo h.vars) (hardened_by a u (costs_of h.weights)) (λ l i.
      let d = dear-from a u (costs_of h.weights) l i in
      let up = All-contains (λ (p : Cost). IsUpTo h.vars p.lit) (costs_of h.weights) d.cost s.labelled.costs_within d.own in
      rw d.is up),
)

dear-costs : (h : Held) (a : List Bool) (u : ℕ) (l : Literal) → Contains (hardened_by a u (costs_of h.weights)) l → weight_in h.weights (negation l) ≢ 0
dear-costs h a u l i z =
    let d = dear-from a u (costs_of h.weights) l i in
    let w = cost-weight h.weights d.cost d.own in
    let back : negation l ≡ d.cost.lit = ap negation d.is ∙ negation-negation d.cost.lit in
    w.1 (sym w.0 ∙ (ap (weight_in h.weights) (sym back) ∙ z))

dear-free : (h : Held) (a : List Bool) (u : ℕ) → IsStore h → AreFree (hardened_by a u (costs_of h.weights)) h
dear-free h a u s l i =
    ap (weight_in h.weights) (sym (negation-negation l)) ∙ variable_pair (negation l) h.weights s.weights.one_each (dear-costs h a u l i)

-- it makes them true
dear-true : (a : List Bool) (u : ℕ) (ps : List Cost) → AreTrue a (hardened_by a u ps)
dear-true a u ps l i = let d = dear-from a u ps l i in ap (literal_value a) d.is ∙ negation_true a d.cost.lit d.untrue

-- each model that does not costs at least as much as it
dear-bend : (h : Held) (a : List Bool) (u : ℕ) → IsSatisfied a (live_clauses h.slots) → u ≡ sum_by (charged a) (costs_of h.weights) → BendTogether (labelled_of h) (hardened_by a u (costs_of h.weights))
dear-bend h a u m e x t =
    let us = hardened_by a u (costs_of h.weights) in
    let some = λ (l : Literal). not (literal_value x l) in
    elim (cases_Bool (list_any some us)) [
      | inr f ↦ (x, t, λ l i. elim (cases_Bool (literal_value x l)) [ inl v ↦ v | inr v ↦ absurd (true≢false (sym (any-by some us l i (ap not v)) ∙ f)) ], omega arith)
      | inl g ↦
          let w = any-found some us g in
          let d = dear-from a u (costs_of h.weights) w.0 w.1 in
          let paid : literal_value x d.cost.lit ≡ true = ap (literal_value x) (sym (ap negation d.is ∙ negation-negation d.cost.lit)) ∙ negation_true x w.0 (not-true (literal_value x w.0) w.2) in
          let part = sum-has (charged x) (costs_of h.weights) d.cost d.own in
          let own = charged_true x d.cost paid in
          let least = d.weighs in
          (a, m, dear-true a u (costs_of h.weights), omega (arith, part, own, least, e))
    ]

-- no clause becomes empty
never-empty : (us : List Literal) (h : Held) (a : List Bool) → AreTrue a us → IsSatisfied a (live_clauses h.slots) → has_empty (shortened us h.slots) ≡ false
never-empty us h a t m =
    elim (cases_Bool (has_empty (shortened us h.slots))) [
      | inr f ↦ f
      | inl e ↦
          let w = any-found (λ (c : List Literal). length c == 0) (shortened us h.slots) e in
          let there : Contains (live_clauses (slots_together us h)) w.0 = rw (live-after (touched_by us h.slots) (shortened us h.slots) h.slots) (Contains-append_right (live_clauses (cleared (touched_by us h.slots) h.slots)) (shortened us h.slots) w.0 w.1) in
          let k = witness a w.0 (satisfied a (live_clauses (slots_together us h)) w.0 (together-on us h a t m) there) in
          let none = eqb-true (length w.0) 0 w.2 in
          let lt = k.1.1 in
          absurd (omega arith)
    ]

-- what is left
not-above : (h : Held) (a : List Bool) (u : ℕ) → u ≡ sum_by (charged a) (costs_of h.weights) → (p : Cost) → Contains (costs_of h.weights) p → (p.weight ≤ u) ⊎ (Contains (hardened_by a u (costs_of h.weights)) (negation p.lit))
not-above h a u e p i =
    elim (cases_Bool (literal_value a p.lit)) [
      | inl v ↦ inl (let part = sum-has (charged a) (costs_of h.weights) p i in let own = charged_true a p v in omega (arith, part, own, e))
      | inr f ↦ elim (cases_Bool (nat_le u p.weight)) [
        | inl t ↦ inr (dear-in a u (costs_of h.weights) p i f (le-from u p.weight t))
        | inr g ↦ inl (le-else u p.weight g)
      ]
    ]

-- where there are none, the store is as it should be
pub hardened-none : (h : Held) (a : List Bool) (u : ℕ) → IsSatisfied a (live_clauses h.slots) → u ≡ sum_by (charged a) (costs_of h.weights) → hardened_by a u (costs_of h.weights) ≡ [] → IsHardened u (labelled_of h)
hardened-none h a u m e none = (
  All-from_contained (λ (c : Cost). c.weight ≤ u) (costs_of h.weights) (λ p i. elim (not-above h a u e p i) [
    | inl l ↦ l
    | inr j ↦ absurd (Contains-none (negation p.lit) (subst (λ (xs : List Literal). Contains xs (negation p.lit)) none j))
  ]),
  (a, m, sym e),
)

pub record Hardens (h u : Held) (n : ℕ) : Type 0 where
  pub run : IsRun LeavesOffset h u
  pub change : IsChange true h u
  pub hardened : IsHardened n (labelled_of u)

pub hardened-some : (h k : Held) (a : List Bool) (u : ℕ) (l : Literal) → IsStore h → IsSatisfied a (live_clauses h.slots) → u ≡ sum_by (charged a) (costs_of h.weights) → Contains (hardened_by a u (costs_of h.weights)) l → IsUntouched (after (fixing_of (hardened_by a u (costs_of h.weights)) h) h) k → Hardens h k u
hardened-some h k a u l s m e i f =
    let us = hardened_by a u (costs_of h.weights) in
    let r = fixing_of us h in
    let lits = dear-lits h a u s in
    let free = dear-free h a u s in
    let now = dear-true a u (costs_of h.weights) in
    let valid = fixing-valid us h s lits.0 lits.1 in
    let shift = together-shift us h free in
    let plain : after r h ≡ changed_by r h = after-plain r h (never-empty us h a now m) in
    let state : labelled_of k ≡ labelled_of (changed_by r h) = ap labelled_of f ∙ ap labelled_of plain in
    let alone : LeavesOffset (labelled_of h) (labelled_of (changed_by r h)) r.repairs = record { vars = add-zero h.vars; offset = omega (arith, shift); costs = together-costs us h } in
    let less = together-smaller us h l s lits.0 lits.1 free i (dear-costs h a u l i) in
    let P : State → Type 0 = λ t. IsSmaller t (labelled_of h) in
    let Q : State → Type 0 = λ t. IsHardened u t in
    let paid = together-paid us h a s valid free now in
    let new = weights_after r h in
    let all : IsHardened u (labelled_of (changed_by r h)) = (
      All-from_contained (λ (c : Cost). c.weight ≤ u) (costs_of new) (λ p j. elim (not-above h a u e p (together-costs us h p j)) [
        | inl x ↦ x
        | inr x ↦
            let w = cost-weight new p j in
            let own : weight_in h.weights (negation (negation p.lit)) ≢ 0 = dear-costs h a u (negation p.lit) x in
            let gone : weight_in new p.lit ≡ 0 = ap (weight_in new) (sym (negation-negation p.lit)) ∙ together-gone us h (negation p.lit) x (free (negation p.lit) x) own in
            absurd (w.1 (sym w.0 ∙ gone))
      ]),
      (a, together-on us h a now m, omega (arith, paid, shift, e)),
    ) in
    record {
      run = run-after LeavesOffset r h k f (together-keeps us h s lits.0 lits.1 free (dear-bend h a u m e)) alone;
      change = record { same = λ g. absurd (cc); smaller = λ g. inr (subst P (sym state) less) };
      hardened = subst Q (sym state) all;
    }

among-none : (c : List Literal) → Among c [] → c ≡ []
among-none [] h = refl
among-none (x ∷ c) h = absurd (Contains-none x (h x (Contains-first x c)))

refuting-there : (h k : Held) → IsUntouched (after (replacing [] ([] ∷ []) []) h) k → Contains (live_clauses k.slots) []
refuting-there h k f =
    let slots : live_clauses k.slots ≡ [] ∷ [] = ap (λ (x : Held). live_clauses x.slots) f ∙ refuted-live (length h.slots) in
    rw slots (Contains-first [] [])

pub harden-itself : (s : State) → LeavesOffset s s []
harden-itself s = record { vars = refl; offset = refl; costs = λ p i. i }

pub first-of : (xs : List Literal) → length xs ≢ 0 → (l : Literal) × Contains xs l
first-of [] n = absurd (n refl)
first-of (x ∷ xs) n = (x, Contains-first x xs)

pub fixed-some : (xs : List Literal) (h u : Held) → length xs ≢ 0 → IsUntouched (after (fixing_of xs h) h) u → IsUntouched (fixed_together xs h) u
fixed-some [] h u n e = absurd (n refl)
fixed-some (x ∷ xs) h u n e = e

pub hardened-all : (h k : Held) (a : List Bool) (u : ℕ) (costs : List Cost) (lits : List Literal) (r : Rewrite) → IsStore h → costs ≡ costs_of h.weights → IsSatisfied a (live_clauses h.slots) → u ≡ sum_by (charged a) costs → lits ≡ hardened_by a u costs → length lits ≢ 0 → r ≡ fixing_of lits h → IsUntouched (after r h) k → Hardens h k u × IsUntouched (fixed_together (hardened_by a u costs) h) k
hardened-all h k a u costs lits r s e m bound is some fixing f =
    let whole : lits ≡ hardened_by a u (costs_of h.weights) = is ∙ ap (hardened_by a u) e in
    let g : IsUntouched (after (fixing_of lits h) h) k = subst (λ x. IsUntouched (after x h) k) fixing f in
    let one = first-of lits some in (
      hardened-some h k a u one.0 s m (bound ∙ ap (sum_by (charged a)) e) (subst (λ (xs : List Literal). Contains xs one.0) whole one.1) (subst (λ (xs : List Literal). IsUntouched (after (fixing_of xs h) h) k) whole g),
      subst (λ (xs : List Literal). IsUntouched (fixed_together xs h) k) is (fixed-some lits h k some g),
    )

pub hardened-nothing : (h : Held) (a : List Bool) (u : ℕ) (costs : List Cost) (lits : List Literal) → costs ≡ costs_of h.weights → IsSatisfied a (live_clauses h.slots) → u ≡ sum_by (charged a) costs → lits ≡ hardened_by a u costs → lits ≡ [] → IsHardened u (labelled_of h) × IsUntouched (fixed_together (hardened_by a u costs) h) h
hardened-nothing h a u costs lits e m bound is none = (
  hardened-none h a u m (bound ∙ ap (sum_by (charged a)) e) (sym (is ∙ ap (hardened_by a u) e) ∙ none),
  subst (λ (xs : List Literal). IsUntouched (fixed_together xs h) h) (sym none ∙ is) refl,
)

pub dear-fit : (h : Held) (a : List Bool) (u : ℕ) (costs : List Cost) (lits : List Literal) → IsStore h → costs ≡ costs_of h.weights → lits ≡ hardened_by a u costs → AreDistinct lits × All (IsUpTo h.vars) lits
dear-fit h a u costs lits s e is = subst (λ (xs : List Literal). AreDistinct xs × All (IsUpTo h.vars) xs) (sym (is ∙ ap (hardened_by a u) e)) (dear-lits h a u s)

-- the query assumes nothing
pub none-valid : (h : Held) (q : Query) → IsStore h → IsAbout h q → q.assumptions ≡ [] → IsQuery q
none-valid h q s a e = query-valid h q s a (λ l m. absurd (Contains-none l (subst (λ (xs : List Literal). Contains xs l) e m))) (λ i j d x y. let n = ap (λ (xs : List Literal). length xs) e in absurd (omega arith))

pub weights-below : (h : Held) (costs : List Cost) → IsStore h → costs ≡ costs_of h.weights → sum_by (λ (p : Cost). p.weight) costs < weight_bound
weights-below h costs s e = subst (λ (ps : List Cost). sum_by (λ (p : Cost). p.weight) ps < weight_bound) (sym e) (let b = s.labelled.below in omega arith)

-- the next label's weight fits
pub cost-room : (a : List Bool) (costs : List Cost) (i total : ℕ) (p : Cost) → i < length costs → p ≡ get_or costs i p → literal_value a p.lit ≡ true → total + sum_by (charged a) (drop i costs) ≡ sum_by (charged a) costs → sum_by (λ (q : Cost). q.weight) costs < weight_bound → total + p.weight < 2 ^ 128
cost-room a costs i total p b at v e w =
    let split = sum_by-drop_more (charged a) costs i p b in
    let own : charged a (get_or costs i p) ≡ p.weight = ap (charged a) (sym at) ∙ charged_true a p v in
    let most = sum_by_le (charged a) (λ (q : Cost). q.weight) costs (λ q j. charged_at_most a q) in
    omega (arith, split, own, most, e, w)

pub harden-model : (h : Held) (q : Query) (a : List Bool) → IsAbout h q → IsRightVerdict q (Model a) → IsSatisfied a (live_clauses h.slots)
harden-model h q a about r = subst (IsSatisfied a) about.hard r.1

pub harden-found : (Answers : Query → Verdict → Type 0) (h k : Held) (changed : Bool) (b u : ℕ) → IsChange changed h k → IsHardened u (labelled_of k) → IsProbed hardening Answers b h k (record { ending = Bound u; changed = changed })
harden-found Answers h k changed b u c e = record { change = c; ending = e }

pub harden-bound : (h k : Held) (a : List Bool) (u v : ℕ) (costs : List Cost) → costs ≡ costs_of h.weights → IsSatisfied a (live_clauses h.slots) → u ≡ sum_by (charged a) costs → IsUntouched (fixed_together (hardened_by a u costs) h) k → Bound u ≡ Bound v → IsHardening v h k
harden-bound h k a u v costs e m bound f g =
    let same : u ≡ v = (cc) in
    let made : IsHardening u h k = record {
      model = a;
      is_model = m;
      cost = sym (bound ∙ ap (sum_by (charged a)) e);
      fixed = subst (λ (ps : List Cost). IsUntouched (fixed_together (hardened_by a u ps) h) k) e f;
    } in
    subst (λ n. IsHardening n h k) same made

pub harden-refuting : (h k : Held) (q : Query) (c : List Literal) → IsAbout h q → q.assumptions ≡ [] → IsRightVerdict q (Core c) → IsUntouched (after (replacing [] ([] ∷ []) []) h) k → IsProbeStep hardening h k
harden-refuting h k q c a e r f = (refuting-step hardening h k (core-empty h q c a r (among-none c (subst (Among c) e r.0))) f).0

pub harden-refuted : (Answers : Query → Verdict → Type 0) (h k : Held) (b : ℕ) → IsProbeStep hardening h k → IsUntouched (after (replacing [] ([] ∷ []) []) h) k → IsProbed hardening Answers b h k (record { ending = Finished; changed = true })
harden-refuted Answers h k b d f = record { change = record { same = λ x. absurd (cc); smaller = λ x. d.smaller }; ending = inl (refuting-there h k f) }

pub harden-spent : (Answers : Query → Verdict → Type 0) (h : Held) (b : ℕ) (q : Query) (learnt : List (List Literal)) → IsStore h → h.refuted ≡ false → IsAbout h q → q.budget ≡ b → q.assumptions ≡ [] → Answers q (Unknown learnt) → IsRightVerdict q (Unknown learnt) → IsProbed hardening Answers b h h (record { ending = Spent q learnt; changed = false })
harden-spent Answers h b q learnt s n a given e answered right = record {
  change = record { same = λ x. refl; smaller = λ x. absurd (cc) };
  ending = subst (λ m. IsUnanswered hardening Answers m (labelled_of h) q learnt) given (unanswered hardening Answers h q learnt s n a e answered right);
}
