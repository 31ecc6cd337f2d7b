-- Pairs of labels, row by row.
use Rattle.std.proofs.Common.{◌≡◌, ◌≢◌, ◌⊎◌, ℕ, zero, suc, ◌+◌, ◌-◌, ◌<◌, ◌≤◌, Bool, true, false, cond, List, [], ◌∷◌, ◌++◌, length, get_or, take, drop, refl, sym, ◌∙◌, ap, subst, arith, inl, inr, Contains, All, IsTrue, length-drop, get_or-drop, add-one}
use Rattle.std.specs.Prelude.{◌==◌, ◌||◌, ◌&&◌, map, Option, Some, None, nat_lt}
use Rattle.std.specs.List.{filter, list_all}
use Rattle.std.specs.List.Sorted.{IsPermutation}
use Rattle.std.proofs.lemmas.Bool.{cases_Bool, cases_eq, cases_lt, true≢false, and_from, lt-ltb}
use Rattle.std.proofs.lemmas.List.{take_more, take_all}
use Rattle.std.proofs.lemmas.List.Elements.{All-contains, Contains-append_cases, Contains-append_left, Contains-append_right}
use Rattle.std.proofs.lemmas.List.Sorted.{Contains-permutation, IsPermutation-sym}
use Rattle.mp_logic.specs.Literal.{Literal, negation, IsUpTo}
use Rattle.mp_logic.specs.Truth.{literal_value, clause_value, IsSatisfied}
use Rattle.mp_logic.specs.Normal.{rises}
use Rattle.mp_logic.specs.Keeping.{State}
use Rattle.mp_logic.specs.Sets.{Among, Entails, Implies}
use Rattle.mp_logic.specs.declared.instances.Cost.{Cost}
use Rattle.mp_logic.specs.declared.instances.Repair.{Repair}
use Rattle.mp_logic.proofs.Members.{Contains-none, Contains-first, Contains-later, Contains-cases, Contains-one, Contains-map, All-from_contained, true_by}
use Rattle.mp_logic.proofs.Literals.{same_or_negation, negation_true}
use Rattle.mp_clauses.specs.Places.{place_of, literal_at}
use Rattle.mp_clauses.specs.Slots.{live_clauses}
use Rattle.mp_clauses.specs.Weighing.{costs_from, costs_of, weight_in}
use Rattle.mp_clauses.proofs.Found.{any-by, any-found}
use Rattle.mp_clauses.proofs.Pricing.{cost_at, place-literal}
use Rattle.mp_store.specs.Held.{Held, labelled_of}
use Rattle.mp_store.specs.Soundness.{IsStore}
use Rattle.mp_store.specs.Measures.{is_covered}
use Rattle.mp_store.specs.Techniques.{IsRun, IsChange}
use Rattle.mp_store.proofs.Fixes.{filter-has, filter-from}
use Rattle.mp_store.proofs.KeptFixing.{variable_pair}
use Rattle.mp_store.proofs.Runs.{none-empty}
use Rattle.core_solver.specs.declared.query.Query.{Query}
use Rattle.core_solver.specs.declared.query.Verdict.{Verdict}
use Rattle.core_solver.specs.declared.query.Verdict.TheVariants.{Model, Core, Unknown}
use Rattle.core_solver.specs.Verdicts.{IsQuery, IsRightVerdict}
use Rattle.t_probe.specs.Asking.{IsUnanswered, IsProbed}
use Rattle.t_probe.specs.declared.probed.ProbeEnding.TheVariants.{Finished, Spent}
use Rattle.t_probe.specs.PairCores.{CanBothBeFalse, IsSettled, NoPairCore, AddsPairs, IsCostPair, DeniesPair, pair_core_search}
use Rattle.t_probe.specs.Underway.{IsAbout, literals_of, IsProbing, IsProbeStep, IsLabel, IsPairStep, AreAnswered, AreModels, IsRowWaiting, IsRowUnderway, IsRow, IsRowEnd, IsPairing}
use Rattle.t_probe.specs.declared.pairs.Row.{Row}
use Rattle.t_probe.proofs.Together.{cost-weight}
use Rattle.t_probe.proofs.Steps.{covered-swap, covered-same}
use Rattle.t_probe.proofs.Calls.{query-valid, true-negation, unanswered, LeavesTwice, probing-none, probing-more, probing-run, change-joins, change-more, contains-literals, refuted-empty}

pub pair-itself : (s : State) → AddsPairs s s []
pair-itself s = record { costs = record { vars = refl; costs = refl; offset = refl }; repairs = refl; stay = λ c i. i; pairs = λ c i. inl i }

pub pair-twice : LeavesTwice pair_core_search
pair-twice s t u x y f g = record {
  costs = record { vars = g.costs.vars ∙ f.costs.vars; costs = g.costs.costs ∙ f.costs.costs; offset = g.costs.offset ∙ f.costs.offset };
  repairs = rw (f.repairs, g.repairs) refl;
  stay = λ c i. g.stay c (f.stay c i);
  pairs = λ c i. elim (g.pairs c i) [ inl j ↦ f.pairs c j | inr p ↦ inr (subst (λ (ps : List Cost). IsCostPair ps c) f.costs.costs p) ];
}

-- the costs of an unrefuted store stay, and its clauses
pub alone-in : (h u : Held) → IsRun AddsPairs h u → IsStore u → u.refuted ≡ false → (r : List Repair) × AddsPairs (labelled_of h) (labelled_of u) r
alone-in h u r s n = (r.added, r.step.alone (none-empty u s n))

pub same-costs : (h u : Held) → IsRun AddsPairs h u → IsStore u → u.refuted ≡ false → costs_of u.weights ≡ costs_of h.weights
same-costs h u r s n = (r.step.alone (none-empty u s n)).costs.costs

pub label-stays : (h u : Held) (l : Literal) → costs_of u.weights ≡ costs_of h.weights → IsLabel h l → IsLabel u l
label-stays h u l e a = (a.0, subst (λ (ps : List Cost). Contains ps a.0) (sym e) a.1, a.2)

pub label-up : (h : Held) (l : Literal) → IsStore h → IsLabel h l → IsUpTo h.vars l
label-up h l s a = subst (IsUpTo h.vars) a.2 (All-contains (λ (p : Cost). IsUpTo h.vars p.lit) (costs_of h.weights) a.0 s.labelled.costs_within a.1)

-- the query of a pair
in-two : (l m k : Literal) → Contains (l ∷ (m ∷ [])) k → (k ≡ l) ⊎ (k ≡ m)
in-two l m k i = elim (Contains-cases l (m ∷ []) k i) [ inl e ↦ inl e | inr r ↦ inr (Contains-one m k r) ]

two-apart : (l m : Literal) → l.variable < m.variable → (i j : ℕ) (d : Literal) → i < j → j < 2 → (get_or (negation l ∷ (negation m ∷ [])) i d).variable ≢ (get_or (negation l ∷ (negation m ∷ [])) j d).variable
two-apart l m o zero zero d x y e = absurd (omega arith)
two-apart l m o zero (suc zero) d x y e = absurd (omega arith)
two-apart l m o zero (suc (suc j)) d x y e = absurd (omega arith)
two-apart l m o (suc i) zero d x y e = absurd (omega arith)
two-apart l m o (suc i) (suc zero) d x y e = absurd (omega arith)
two-apart l m o (suc i) (suc (suc j)) d x y e = absurd (omega arith)

pub two-valid : (h : Held) (q : Query) (l m : Literal) → IsStore h → IsAbout h q → IsUpTo h.vars l → IsUpTo h.vars m → l.variable < m.variable → q.assumptions ≡ negation l ∷ (negation m ∷ []) → IsQuery q
two-valid h q l m s a up also o e =
    query-valid h q s a
    (λ k i. elim (in-two (negation l) (negation m) k (subst (λ (xs : List Literal). Contains xs k) e i)) [ inl f ↦ subst (IsUpTo h.vars) (sym f) up | inr f ↦ subst (IsUpTo h.vars) (sym f) also ])
    (λ i j d x y.
    let n : length q.assumptions ≡ 2 = ap (λ (xs : List Literal). length xs) e in
    subst (λ (xs : List Literal). (get_or xs i d).variable ≢ (get_or xs j d).variable) (sym e) (two-apart l m o i j d x (omega arith)))

pub core-implies-two : (h : Held) (q : Query) (c : List Literal) (l m : Literal) → IsAbout h q → q.assumptions ≡ negation l ∷ (negation m ∷ []) → IsRightVerdict q (Core c) → Implies (live_clauses h.slots) (l ∷ (m ∷ []))
core-implies-two h q c l m a e r x t =
    elim (cases_Bool (literal_value x l)) [
      | inl v ↦ true_by x (l ∷ (m ∷ [])) l (Contains-first l (m ∷ [])) v
      | inr f ↦ elim (cases_Bool (literal_value x m)) [
        | inl v ↦ true_by x (l ∷ (m ∷ [])) m (Contains-later l (m ∷ []) m (Contains-first m [])) v
        | inr g ↦ absurd (r.1 x (subst (IsSatisfied x) (sym a.hard) t) (λ k i. elim (in-two (negation l) (negation m) k (subst (λ (xs : List Literal). Contains xs k) e (r.0 k i))) [
          | inl y ↦ ap (literal_value x) y ∙ negation_true x l f
          | inr y ↦ ap (literal_value x) y ∙ negation_true x m g
        ]))
      ]
    ]

pub denies-pair : (h : Held) (l m : Literal) (ls : List Literal) → IsLabel h l → IsLabel h m → l.variable < m.variable → is_covered (live_clauses h.slots) l m ≡ false → ls ≡ negation l ∷ (negation m ∷ []) → DeniesPair (labelled_of h) ls
denies-pair h l m ls a b o un e = record {
  first = a.0;
  second = b.0;
  first_costs = a.1;
  second_costs = b.1;
  apart = λ f. let v : l.variable ≡ m.variable = ap (λ (k : Literal). k.variable) (sym a.2 ∙ (f ∙ b.2)) in absurd (omega arith);
  uncovered = covered-same (live_clauses h.slots) a.0.lit b.0.lit l m a.2 b.2 ∙ un;
  are = e ∙ (ap (λ (x : Literal). negation x ∷ (negation m ∷ [])) (sym a.2) ∙ ap (λ (x : Literal). negation a.0.lit ∷ (negation x ∷ [])) (sym b.2));
}

pub pair-normal : (l m : Literal) → 1 ≤ l.variable → l.variable < m.variable → IsTrue (rises 0 (l ∷ (m ∷ [])))
pair-normal l m p o = and_from (nat_lt 0 l.variable) (nat_lt l.variable m.variable && true) (lt-ltb 0 l.variable (omega arith)) (and_from (nat_lt l.variable m.variable) true (lt-ltb l.variable m.variable o) refl)

pub pair-within : (h : Held) (l m : Literal) → IsUpTo h.vars l → IsUpTo h.vars m → All (IsUpTo h.vars) (l ∷ (m ∷ []))
pair-within h l m a b = All-from_contained (IsUpTo h.vars) (l ∷ (m ∷ [])) (λ k i. elim (in-two l m k i) [ inl e ↦ subst (IsUpTo h.vars) (sym e) a | inr e ↦ subst (IsUpTo h.vars) (sym e) b ])

pub about-pair : (h u : Held) (q r : Query) (p copy : List Literal) → IsAbout h q → u.vars ≡ h.vars → live_clauses u.slots ≡ live_clauses h.slots ++ p ∷ [] → r.vars ≡ q.vars → r.hard ≡ q.hard ++ copy ∷ [] → copy ≡ p → IsAbout u r
about-pair h u q r p copy a e f g i k = record { vars = g ∙ (a.vars ∙ sym e); hard = i ∙ (ap (λ xs. xs ++ copy ∷ []) a.hard ∙ (ap (λ x. live_clauses h.slots ++ x ∷ []) k ∙ sym f)) }

-- the row as a whole
pub label-now : (s h : Held) (changed : Bool) (l : Literal) → IsStore h → IsProbing pair_core_search s h changed → IsLabel s l → IsLabel h l
label-now s h changed l st p a = label-stays s h l (same-costs s h p.run st p.unrefuted) a

-- settled pairs
pub settled-stays : (cs ds : List (List Literal)) (l m : Literal) → Among cs ds → Entails cs ds → IsSettled cs l m → IsSettled ds l m
settled-stays cs ds l m stay on s =
    elim s [
      | inl t ↦
          let w = any-found (λ c. list_all (λ k. (place_of k == place_of l) || (place_of k == place_of m)) c) cs t in
          inl (any-by (λ c. list_all (λ k. (place_of k == place_of l) || (place_of k == place_of m)) c) ds w.0 (stay w.0 w.1) w.2)
      | inr a ↦ inr (a.0, on a.0 a.1, a.2, a.3)
    ]

pub settled-swap : (cs : List (List Literal)) (l m : Literal) → IsSettled cs l m → IsSettled cs m l
settled-swap cs l m s = elim s [ inl t ↦ inl (covered-swap cs l m t) | inr a ↦ inr (a.0, a.1, a.3, a.2) ]

-- models and the labels that wait
pub true-kept : (a : List Bool) (l : Literal) (xs ys : List Literal) → ys ≡ filter (literal_value a) xs → literal_value a l ≡ false → (m : Literal) → Contains xs m → Contains ys m ⊎ AreAnswered (a ∷ []) l m
true-kept a l xs ys e f m i = elim (cases_Bool (literal_value a m)) [ inl v ↦ inl (rw e (filter-has (literal_value a) xs m i v)) | inr v ↦ inr (a, Contains-first a [], f, v) ]

pub filter-among : (p : Literal → Bool) (xs ys : List Literal) → ys ≡ filter p xs → Among ys xs
filter-among p xs ys e m i = (filter-from p xs m (subst (λ (zs : List Literal). Contains zs m) e i)).0

pub answered-more : (models more : List (List Bool)) (l m : Literal) → Among models more → AreAnswered models l m → AreAnswered more l m
answered-more models more l m h a = (a.0, h a.0 a.1, a.2, a.3)

pub partners-step : (l : Literal) (behind made next : List Literal) (models : List (List Bool)) (i : ℕ) (a : List Bool) → i < length models → a ≡ get_or models i a → Among made behind → ((m : Literal) → Contains behind m → Contains made m ⊎ AreAnswered (take i models) l m) → Among next made → ((m : Literal) → Contains made m → Contains next m ⊎ AreAnswered (a ∷ []) l m)
    → (Among next behind) × ((m : Literal) → Contains behind m → Contains next m ⊎ AreAnswered (take (i + 1) models) l m)
partners-step l behind made next models i a b at from others less kept =
    let more : take (i + 1) models ≡ take i models ++ a ∷ [] = take_more models i a b ∙ ap (λ (x : List Bool). take i models ++ x ∷ []) (sym at) in
    let early : Among (take i models) (take (i + 1) models) = λ x j. subst (λ (xs : List (List Bool)). Contains xs x) (sym more) (Contains-append_left (take i models) (a ∷ []) x j) in
    let late : Among (a ∷ []) (take (i + 1) models) = λ x j. subst (λ (xs : List (List Bool)). Contains xs x) (sym more) (Contains-append_right (take i models) (a ∷ []) x j) in (
      λ m j. from m (less m j),
      λ m j. elim (others m j) [
        | inr x ↦ inr (answered-more (take i models) (take (i + 1) models) l m early x)
        | inl x ↦ elim (kept m x) [ inl y ↦ inl y | inr y ↦ inr (answered-more (a ∷ []) (take (i + 1) models) l m late y) ]
      ],
    )

pub partners-end : (l : Literal) (behind made : List Literal) (models : List (List Bool)) (i : ℕ) → length models ≤ i → ((m : Literal) → Contains behind m → Contains made m ⊎ AreAnswered (take i models) l m) → (m : Literal) → Contains behind m → Contains made m ⊎ AreAnswered models l m
partners-end l behind made models i b h m j = subst (λ (ms : List (List Bool)). Contains made m ⊎ AreAnswered ms l m) (take_all i models b) (h m j)

pub row-start : (h : Held) (l : Literal) (behind waiting : List Literal) (models : List (List Bool)) → AreModels models h → Among waiting behind → ((m : Literal) → Contains behind m → Contains waiting m ⊎ AreAnswered models l m) → IsRowWaiting l behind waiting h
row-start h l behind waiting models ms from others = record { from = from; others = λ m i. elim (others m i) [ inl w ↦ inl w | inr a ↦ inr (inr (a.0, ms a.0 a.1, a.2, a.3)) ] }

pub row-begin : (h : Held) (l : Literal) (behind waiting : List Literal) (q : Query) (models : List (List Bool)) → h.refuted ≡ false → IsAbout h q → AreModels models h → Among waiting behind → ((m : Literal) → Contains behind m → Contains waiting m ⊎ AreAnswered models l m) → IsRowUnderway l behind waiting h h false q q.budget models
row-begin h l behind waiting q models n a ms from others = record { probing = probing-none pair_core_search h pair-itself n; about = a; given = refl; models_are = ms; entails = λ x y. y; row = row-start h l behind waiting models ms from others }

-- the label that was taken
waits-two : (waiting rest : List Literal) (m k : Literal) → waiting ≡ rest ++ m ∷ [] → Contains waiting k → Contains rest k ⊎ (k ≡ m)
waits-two waiting rest m k e i = elim (Contains-append_cases rest (m ∷ []) k (subst (λ (xs : List Literal). Contains xs k) e i)) [ inl a ↦ inl a | inr b ↦ inr (Contains-one m k b) ]

rest-among : (waiting rest : List Literal) (m : Literal) → waiting ≡ rest ++ m ∷ [] → Among rest waiting
rest-among waiting rest m e k i = subst (λ (xs : List Literal). Contains xs k) (sym e) (Contains-append_left rest (m ∷ []) k i)

pub taken-behind : (l m : Literal) (behind waiting rest : List Literal) (h : Held) → waiting ≡ rest ++ m ∷ [] → IsRowWaiting l behind waiting h → Contains behind m
taken-behind l m behind waiting rest h e w = w.from m (subst (λ (xs : List Literal). Contains xs m) (sym e) (Contains-append_right rest (m ∷ []) m (Contains-first m [])))

pub row-label : (l m : Literal) (behind waiting rest : List Literal) (s h : Held) (changed : Bool) (q : Query) (b : ℕ) (models : List (List Bool)) → IsStore h → waiting ≡ rest ++ m ∷ [] → IsRowUnderway l behind waiting s h changed q b models → ((k : Literal) → Contains behind k → IsLabel s k × (l.variable < k.variable)) → IsLabel h m × (l.variable < m.variable)
row-label l m behind waiting rest s h changed q b models st e u known =
    let k = known m (taken-behind l m behind waiting rest h e u.row) in
    (label-now s h changed m st u.probing k.0, k.1)

row-less : (l m : Literal) (behind waiting rest : List Literal) (h : Held) → waiting ≡ rest ++ m ∷ [] → IsSettled (live_clauses h.slots) l m → IsRowWaiting l behind waiting h → IsRowWaiting l behind rest h
row-less l m behind waiting rest h e done w = record {
  from = λ k i. w.from k (rest-among waiting rest m e k i);
  others = λ k i. elim (w.others k i) [
    | inr s ↦ inr s
    | inl x ↦ elim (waits-two waiting rest m k e x) [ inl r ↦ inl r | inr f ↦ inr (subst (IsSettled (live_clauses h.slots) l) (sym f) done) ]
  ];
}

pub row-covered : (l m : Literal) (behind waiting rest : List Literal) (s h : Held) (changed : Bool) (q : Query) (b : ℕ) (models : List (List Bool)) → waiting ≡ rest ++ m ∷ [] → is_covered (live_clauses h.slots) l m ≡ true → IsRowUnderway l behind waiting s h changed q b models → IsRowUnderway l behind rest s h changed q b models
row-covered l m behind waiting rest s h changed q b models e t u = record { probing = u.probing; about = u.about; given = u.given; models_are = u.models_are; entails = u.entails; row = row-less l m behind waiting rest h e (inl t) u.row }

pub row-found : (l m : Literal) (behind waiting rest kept : List Literal) (s h : Held) (changed : Bool) (q r : Query) (b : ℕ) (models : List (List Bool)) (a : List Bool) → waiting ≡ rest ++ m ∷ [] → IsAbout h r → r.budget ≡ q.budget → IsSatisfied a (live_clauses h.slots) → literal_value a l ≡ false → literal_value a m ≡ false → kept ≡ filter (literal_value a) rest
    → IsRowUnderway l behind waiting s h changed q b models → IsRowUnderway l behind kept s h changed r b (models ++ a ∷ [])
row-found l m behind waiting rest kept s h changed q r b models a e about given t f g is u =
    let less = row-less l m behind waiting rest h e (inr (a, t, f, g)) u.row in
    record {
      probing = u.probing;
      about = about;
      given = given ∙ u.given;
      models_are = λ x i. elim (Contains-append_cases models (a ∷ []) x i) [ inl j ↦ u.models_are x j | inr j ↦ subst (λ (y : List Bool). IsSatisfied y (live_clauses h.slots)) (sym (Contains-one a x j)) t ];
      entails = u.entails;
      row = record {
        from = λ k i. less.from k (filter-among (literal_value a) rest kept is k i);
        others = λ k i. elim (less.others k i) [
          | inr x ↦ inr x
          | inl x ↦ elim (true-kept a l rest kept is f k x) [ inl y ↦ inl y | inr y ↦ inr (inr (a, t, f, subst (λ (z : List Bool). literal_value z k ≡ false) (Contains-one a y.0 y.1) y.3)) ]
        ];
      };
    }

models-stay : (models : List (List Bool)) (h u : Held) → Entails (live_clauses h.slots) (live_clauses u.slots) → AreModels models h → AreModels models u
models-stay models h u on m x i = on x (m x i)

pub row-added : (l m : Literal) (behind waiting rest : List Literal) (s h u : Held) (changed : Bool) (q r : Query) (b : ℕ) (models : List (List Bool)) → waiting ≡ rest ++ m ∷ [] → IsStore h → IsStore u → IsPairStep l m h u → u.refuted ≡ false → IsAbout u r → r.budget ≡ q.budget
    → IsRowUnderway l behind waiting s h changed q b models → IsRowUnderway l behind rest s u true r b models
row-added l m behind waiting rest s h u changed q r b models e st su d n about given w =
    let on = d.step.entails n in
    let stay = (alone-in h u d.step.run su n).1.stay in
    let moved : IsRowWaiting l behind waiting u = record {
      from = w.row.from;
      others = λ k i. elim (w.row.others k i) [ inl x ↦ inl x | inr x ↦ inr (settled-stays (live_clauses h.slots) (live_clauses u.slots) l k stay on x) ];
    } in
    record {
      probing = probing-more pair_core_search s h u changed pair-twice st w.probing d.step n;
      about = about;
      given = given ∙ w.given;
      models_are = models-stay models h u on w.models_are;
      entails = λ a x. on a (w.entails a x);
      row = row-less l m behind waiting rest u e (inl (d.covered n)) moved;
    }

pub row-done : (l : Literal) (behind waiting : List Literal) (h : Held) → waiting ≡ [] → IsRowWaiting l behind waiting h → (m : Literal) → Contains behind m → IsSettled (live_clauses h.slots) l m
row-done l behind waiting h e w m i = elim (w.others m i) [ inr s ↦ s | inl x ↦ absurd (Contains-none m (subst (λ (xs : List Literal). Contains xs m) e x)) ]

-- the order of labels
abbrev AreOrdered : List Literal → Type 0
AreOrdered [] = Unit {0}
AreOrdered (l ∷ ls) = All (λ m. place_of l < place_of m) ls × AreOrdered ls

from-place : (i : ℕ) (ws : List ℕ) (m : Literal) → Contains (literals_of (costs_from i ws)) m → i ≤ place_of m
from-place i ws m h =
    let w = Contains-map (λ (p : Cost). p.lit) (costs_from i ws) m h in
    let c = cost_at i ws w.0 w.1 in
    let at : place_of w.0.lit ≡ i + c.place = ap (λ (q : Cost). place_of q.lit) c.is ∙ place-literal (i + c.place) in
    let own : place_of m ≡ place_of w.0.lit = ap place_of w.2 in
    omega arith

are-ordered : (i : ℕ) (ws : List ℕ) → AreOrdered (literals_of (costs_from i ws))
are-ordered i [] = tt
are-ordered i (w ∷ ws) =
    let rest = are-ordered (i + 1) ws in
    elim (w == 0) as (λ b. AreOrdered (literals_of (cond b (costs_from (i + 1) ws) (record { lit = literal_at i; weight = w } ∷ costs_from (i + 1) ws)))) [
      | true ↦ rest
      | false ↦ (All-from_contained (λ m. place_of (literal_at i) < place_of m) (literals_of (costs_from (i + 1) ws)) (λ m j. let least = from-place (i + 1) ws m j in let own = place-literal i in omega arith), rest)
    ]

behind-ordered : (xs : List Literal) (k : ℕ) (d m : Literal) → AreOrdered xs → k < length xs → Contains (drop (suc k) xs) m → place_of (get_or xs k d) < place_of m
behind-ordered [] k d m o l i = absurd (omega arith)
behind-ordered (x ∷ xs) zero d m o l i = All-contains (λ n. place_of x < place_of n) xs m o.0 i
behind-ordered (x ∷ xs) (suc k) d m o l i = behind-ordered xs k d m o.1 (omega arith) i

get-any : {X : Type 0} (xs : List X) (k : ℕ) (d e : X) → k < length xs → get_or xs k d ≡ get_or xs k e
get-any [] k d e l = absurd (omega arith)
get-any (x ∷ xs) zero d e l = refl
get-any (x ∷ xs) (suc k) d e l = get-any xs k d e (omega arith)

from-drop : (n : ℕ) (xs : List Literal) (m : Literal) → Contains (drop n xs) m → Contains xs m
from-drop n xs m i =
    let at : get_or xs (n + i.0) m ≡ m = sym (get_or-drop n xs i.0 m) ∙ i.2 in
    let within = i.1 in
    let len = length-drop n xs in
    (n + i.0, omega (arith, within, len), at)

literal-label : (h : Held) (m : Literal) → Contains (literals_of (costs_of h.weights)) m → IsLabel h m
literal-label h m i = let w = Contains-map (λ (p : Cost). p.lit) (costs_of h.weights) m i in (w.0, w.1, sym w.2)

label-weight : (h : Held) (m : Literal) → IsLabel h m → weight_in h.weights m ≢ 0
label-weight h m a z = let c = cost-weight h.weights a.0 a.1 in c.1 (sym c.0 ∙ (ap (weight_in h.weights) a.2 ∙ z))

sign-low : (b : Bool) → cond {A = ℕ} b 1 0 ≤ 1
sign-low true = omega arith
sign-low false = omega arith

higher : (l m : Literal) → l.variable ≢ m.variable → place_of l < place_of m → l.variable < m.variable
higher l m n o = let x = sign-low l.negative in let y = sign-low m.negative in omega arith

-- of a variable one literal costs
lower-variable : (h : Held) (l m : Literal) → IsStore h → IsLabel h l → IsLabel h m → place_of l < place_of m → l.variable < m.variable
lower-variable h l m s a b o =
    elim (cases_eq l.variable m.variable) [
      | inl e ↦ elim (same_or_negation m l (sym e)) [
        | inl f ↦ let p = ap place_of f in absurd (omega arith)
        | inr f ↦ absurd (label-weight h m b (ap (weight_in h.weights) f ∙ variable_pair l h.weights s.weights.one_each (label-weight h l a)))
      ]
      | inr n ↦ higher l m n o
    ]

pub first-label : (h : Held) (labels : List Literal) (l : Literal) (place : ℕ) → labels ≡ literals_of (costs_of h.weights) → place < length labels → l ≡ get_or labels place l → IsLabel h l
first-label h labels l place e b at = literal-label h l (subst (λ (xs : List Literal). Contains xs l) e (place, b, sym at))

pub behind-labels : (h : Held) (labels behind : List Literal) (l : Literal) (place : ℕ) → IsStore h → labels ≡ literals_of (costs_of h.weights) → place < length labels → l ≡ get_or labels place l → behind ≡ drop (place + 1) labels → (m : Literal) → Contains behind m → IsLabel h m × (l.variable < m.variable)
behind-labels h labels behind l place s e b at is m i =
    let own = first-label h labels l place e b at in
    let there : Contains (drop (suc place) labels) m = rw (is, add-one) at i in
    let other = literal-label h m (subst (λ (xs : List Literal). Contains xs m) e (from-drop (suc place) labels m there)) in
    let ordered : AreOrdered labels = subst AreOrdered (sym e) (are-ordered 0 h.weights) in
    let less = behind-ordered labels place l m ordered b there in
    (other, lower-variable h l m s own other (subst (λ (k : Literal). place_of k < place_of m) (sym at) less))

pub behind-now : (s h : Held) (changed : Bool) (labels behind : List Literal) (l : Literal) (place : ℕ) → IsStore s → IsStore h → IsProbing pair_core_search s h changed → labels ≡ literals_of (costs_of s.weights) → place < length labels → l ≡ get_or labels place l → behind ≡ drop (place + 1) labels → (m : Literal) → Contains behind m → IsLabel h m × (l.variable < m.variable)
behind-now s h changed labels behind l place ss st p e b at is m i = let k = behind-labels s labels behind l place ss e b at is m i in (label-now s h changed m st p k.0, k.1)

-- row after row
pub pairing-start : (h : Held) (labels : List Literal) (q : Query) (b : ℕ) (models : List (List Bool)) → h.refuted ≡ false → IsAbout h q → q.budget ≡ b → models ≡ [] → IsPairing labels 0 h h false q b models
pairing-start h labels q b models n a given e = record {
  probing = probing-none pair_core_search h pair-itself n;
  about = a;
  given = given;
  models_are = λ x i. absurd (Contains-none x (subst (λ (xs : List (List Bool)). Contains xs x) e i));
  rows = λ k d m l i. absurd (omega arith);
}

pub pairing-more : (labels behind : List Literal) (l : Literal) (place : ℕ) (s h u : Held) (changed : Bool) (q r : Query) (b : ℕ) (models more : List (List Bool)) (row : Row) (Answers : Query → Verdict → Type 0) → IsStore h → IsStore u → place < length labels → l ≡ get_or labels place l → behind ≡ drop (place + 1) labels → u.refuted ≡ false → row.unknown ≡ None → IsRun AddsPairs h u → IsRow Answers l behind h u r more row → r.budget ≡ q.budget
    → IsPairing labels place s h changed q b models → IsPairing labels (place + 1) s u (changed || row.changed) r b more
pairing-more labels behind l place s h u changed q r b models more row Answers sh su within at is n none run w given p =
    let on = w.entails n in
    let stay = (alone-in h u run su n).1.stay in
    let ended : (u.refuted ≡ true) ⊎ ((m : Literal) → Contains behind m → IsSettled (live_clauses u.slots) l m) = subst (IsRowEnd Answers l behind u r) none w.ends in
    let settled : (m : Literal) → Contains behind m → IsSettled (live_clauses u.slots) l m = elim ended [ inl t ↦ absurd (true≢false (sym t ∙ n)) | inr f ↦ f ] in
    record {
      probing = record { run = probing-run pair_core_search s h u changed pair-twice sh p.probing run; change = change-joins s h u changed row.changed p.probing.unrefuted p.probing.change w.change; unrefuted = n };
      about = w.about n;
      given = given ∙ p.given;
      models_are = w.models_are n;
      rows = λ k d m o i. elim (cases_eq k place) [
        | inr x ↦ settled-stays (live_clauses h.slots) (live_clauses u.slots) (get_or labels k d) m stay on (p.rows k d m (omega arith) i)
        | inl e ↦
            let here : Contains behind m = subst (λ (xs : List Literal). Contains xs m) (sym is) (subst (λ j. Contains (drop (j + 1) labels) m) e i) in
            let same : get_or labels k d ≡ l = ap (λ j. get_or labels j d) e ∙ (get-any labels place d l within ∙ sym at) in
            subst (λ (x : Literal). IsSettled (live_clauses u.slots) x m) (sym same) (settled m here)
      ];
    }

behind-at : (xs : List Literal) (i j : ℕ) (m : Literal) → i < j → j < length xs → get_or xs j m ≡ m → Contains (drop (i + 1) xs) m
behind-at xs i j m o l e =
    let len = length-drop (i + 1) xs in
    let n : (i + 1) + (j - (i + 1)) ≡ j = omega arith in
    (j - (i + 1), omega (arith, len), get_or-drop (i + 1) xs (j - (i + 1)) m ∙ (ap (λ k. get_or xs k m) n ∙ e))

pub pairing-done : (labels : List Literal) (place : ℕ) (s h : Held) (changed : Bool) (q : Query) (b : ℕ) (models : List (List Bool)) → IsStore h → labels ≡ literals_of (costs_of s.weights) → length labels ≤ place → IsPairing labels place s h changed q b models → NoPairCore (labelled_of h)
pairing-done labels place s h changed q b models st e all p x y i j apart =
    let same = same-costs s h p.probing.run st p.probing.unrefuted in
    let listed : (c : Cost) → Contains (costs_of h.weights) c → Contains labels c.lit = λ c m. subst (λ (xs : List Literal). Contains xs c.lit) (sym (e ∙ ap literals_of (sym same))) (contains-literals (costs_of h.weights) c m) in
    let f = listed x i in
    let g = listed y j in
    let fl = f.1 in
    let gl = g.1 in
    elim (cases_lt f.0 g.0) [
      | inl o ↦ subst (λ (k : Literal). IsSettled (live_clauses h.slots) k y.lit) f.2 (p.rows f.0 x.lit y.lit (omega arith) (behind-at labels f.0 g.0 y.lit o g.1 g.2))
      | inr n ↦ elim (cases_eq f.0 g.0) [
        | inl o ↦ absurd (apart (sym f.2 ∙ (ap (λ k. get_or labels k x.lit) o ∙ (get-any labels g.0 x.lit y.lit g.1 ∙ g.2))))
        | inr o ↦ settled-swap (live_clauses h.slots) y.lit x.lit (subst (λ (k : Literal). IsSettled (live_clauses h.slots) k x.lit) g.2 (p.rows g.0 y.lit x.lit (omega arith) (behind-at labels g.0 f.0 x.lit (omega arith) f.1 f.2)))
      ]
    ]

-- what the question about two labels came to
pub pair-found : (h : Held) (q : Query) (l m : Literal) (a : List Bool) → IsAbout h q → q.assumptions ≡ negation l ∷ (negation m ∷ []) → IsRightVerdict q (Model a) → (h ≡ h) × IsAbout h q × IsSatisfied a (live_clauses h.slots) × (literal_value a l ≡ false) × (literal_value a m ≡ false)
pair-found h q l m a about e r =
    let holds : (k : Literal) → Contains (negation l ∷ (negation m ∷ [])) (negation k) → literal_value a k ≡ false = λ k i. true-negation a k (r.2 (negation k) (subst (λ (xs : List Literal). Contains xs (negation k)) (sym e) i)) in (
      refl,
      about,
      subst (IsSatisfied a) about.hard r.1,
      holds l (Contains-first (negation l) (negation m ∷ [])),
      holds m (Contains-later (negation l) (negation m ∷ []) (negation m) (Contains-first (negation m) [])),
    )

pub pair-unknown : (Answers : Query → Verdict → Type 0) (h : Held) (q : Query) (l m : Literal) (learnt : List (List Literal)) → IsStore h → h.refuted ≡ false → IsAbout h q → IsLabel h l → IsLabel h m → l.variable < m.variable → is_covered (live_clauses h.slots) l m ≡ false → q.assumptions ≡ negation l ∷ (negation m ∷ []) → Answers q (Unknown learnt) → IsRightVerdict q (Unknown learnt) → (h ≡ h) × IsUnanswered pair_core_search Answers q.budget (labelled_of h) q learnt
pair-unknown Answers h q l m learnt s n about a b o un e answered right =
    (refl, unanswered pair_core_search Answers h q learnt s n about (denies-pair h l m q.assumptions a b o un e) answered right)

pub row-turn-found : (l m : Literal) (behind waiting rest kept : List Literal) (s h u : Held) (changed : Bool) (q r : Query) (b : ℕ) (models : List (List Bool)) (a : List Bool) → waiting ≡ rest ++ m ∷ [] → r.budget ≡ q.budget → kept ≡ filter (literal_value a) rest → (u ≡ h) × IsAbout u r × IsSatisfied a (live_clauses u.slots) × (literal_value a l ≡ false) × (literal_value a m ≡ false) → IsStore h
    → IsRowUnderway l behind waiting s h changed q b models → IsRowUnderway l behind kept s u changed r b (models ++ a ∷ []) × IsStore u
row-turn-found l m behind waiting rest kept s h u changed q r b models a e given is t st w =
    let now : IsRowUnderway l behind waiting s u changed q b models = subst (λ (x : Held). IsRowUnderway l behind waiting s x changed q b models) (sym t.0) w in
    (row-found l m behind waiting rest kept s u changed q r b models a e t.1 given t.2 t.3 t.4 is now, subst IsStore (sym t.0) st)

pub row-spent : (Answers : Query → Verdict → Type 0) (l m : Literal) (behind waiting : List Literal) (s h u : Held) (changed : Bool) (q r : Query) (b : ℕ) (models : List (List Bool)) (learnt : List (List Literal)) → (u ≡ h) × IsUnanswered pair_core_search Answers r.budget (labelled_of u) r learnt → IsRowUnderway l behind waiting s h changed q b models → IsRow Answers l behind s u r models (record { unknown = Some learnt; changed = changed })
row-spent Answers l m behind waiting s h u changed q r b models learnt t w = record {
  change = subst (IsChange changed s) (sym t.0) w.probing.change;
  models_are = λ n. subst (AreModels models) (sym t.0) w.models_are;
  about = λ n. record { vars = t.1.vars; hard = t.1.hard };
  entails = λ n. subst (λ (x : Held). Entails (live_clauses s.slots) (live_clauses x.slots)) (sym t.0) w.entails;
  ends = t.1;
}

pub row-refuted : (Answers : Query → Verdict → Type 0) (l m : Literal) (behind waiting : List Literal) (s h u : Held) (changed : Bool) (q r : Query) (b : ℕ) (models : List (List Bool)) → u.refuted ≡ true → IsPairStep l m h u → IsRowUnderway l behind waiting s h changed q b models → IsRow Answers l behind s u r models (record { unknown = None; changed = true })
row-refuted Answers l m behind waiting s h u changed q r b models f d w = record {
  change = change-more s h u changed w.probing.unrefuted w.probing.change d.step.smaller;
  models_are = λ n. absurd (true≢false (sym f ∙ n));
  about = λ n. absurd (true≢false (sym f ∙ n));
  entails = λ n. absurd (true≢false (sym f ∙ n));
  ends = inl f;
}

pub row-end : (Answers : Query → Verdict → Type 0) (l : Literal) (behind waiting : List Literal) (s h : Held) (changed : Bool) (q : Query) (b : ℕ) (models : List (List Bool)) → waiting ≡ [] → IsRowUnderway l behind waiting s h changed q b models → IsRow Answers l behind s h q models (record { unknown = None; changed = changed })
row-end Answers l behind waiting s h changed q b models e w = record {
  change = w.probing.change;
  models_are = λ n. w.models_are;
  about = λ n. w.about;
  entails = λ n. w.entails;
  ends = inr (row-done l behind waiting h e w.row);
}

pub pairing-end : (Answers : Query → Verdict → Type 0) (labels : List Literal) (place : ℕ) (s h : Held) (changed : Bool) (q : Query) (b : ℕ) (models : List (List Bool)) → IsStore h → labels ≡ literals_of (costs_of s.weights) → length labels ≤ place → IsPairing labels place s h changed q b models → IsProbed pair_core_search Answers b s h (record { ending = Finished; changed = changed })
pairing-end Answers labels place s h changed q b models st e all p = record { change = p.probing.change; ending = inr (pairing-done labels place s h changed q b models st e all p) }

pub pairing-change : (Answers : Query → Verdict → Type 0) (labels behind : List Literal) (l : Literal) (place : ℕ) (s h u : Held) (changed : Bool) (q r : Query) (b : ℕ) (models more : List (List Bool)) (row : Row) → IsRow Answers l behind h u r more row → IsPairing labels place s h changed q b models → IsChange (changed || row.changed) s u
pairing-change Answers labels behind l place s h u changed q r b models more row w p = change-joins s h u changed row.changed p.probing.unrefuted p.probing.change w.change

pub pairing-spent : (Answers : Query → Verdict → Type 0) (labels behind : List Literal) (l : Literal) (place : ℕ) (s h u : Held) (changed : Bool) (q r : Query) (b : ℕ) (models more : List (List Bool)) (row : Row) (learnt : List (List Literal)) → row.unknown ≡ Some learnt → r.budget ≡ q.budget → IsRow Answers l behind h u r more row → IsPairing labels place s h changed q b models
    → IsProbed pair_core_search Answers b s u (record { ending = Spent r learnt; changed = changed || row.changed })
pairing-spent Answers labels behind l place s h u changed q r b models more row learnt e given w p =
    let ended : IsUnanswered pair_core_search Answers r.budget (labelled_of u) r learnt = subst (IsRowEnd Answers l behind u r) e w.ends in
    record {
      change = pairing-change Answers labels behind l place s h u changed q r b models more row w p;
      ending = subst (λ n. IsUnanswered pair_core_search Answers n (labelled_of u) r learnt) (given ∙ p.given) ended;
    }

pub pairing-refuted : (Answers : Query → Verdict → Type 0) (labels behind : List Literal) (l : Literal) (place : ℕ) (s h u : Held) (changed : Bool) (q r : Query) (b : ℕ) (models more : List (List Bool)) (row : Row) → IsStore u → u.refuted ≡ true → IsRow Answers l behind h u r more row → IsPairing labels place s h changed q b models
    → IsProbed pair_core_search Answers b s u (record { ending = Finished; changed = changed || row.changed })
pairing-refuted Answers labels behind l place s h u changed q r b models more row su f w p = record {
  change = pairing-change Answers labels behind l place s h u changed q r b models more row w p;
  ending = inl (refuted-empty u su f);
}
