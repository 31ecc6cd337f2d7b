-- Calls: queries, and what has been done so far.
use Rattle.std.proofs.Common.{◌≡◌, ◌≢◌, ◌⊎◌, ℕ, suc, ◌+◌, ◌<◌, ◌≤◌, Bool, true, false, cond, List, [], ◌∷◌, ◌++◌, length, get_or, refl, sym, ◌∙◌, ap, subst, arith, inl, inr, Contains, All, IsTrue}
use Rattle.std.specs.Prelude.{◌||◌, ◌==◌, map}
use Rattle.std.specs.List.{filter}
use Rattle.std.proofs.lemmas.Bool.{cases_Bool, true≢false, eqb-true, eq-eqb}
use Rattle.std.proofs.lemmas.List.Elements.{All-contains, Contains-append_cases}
use Rattle.std.proofs.lemmas.List.{length-append}
use Rattle.mp_logic.specs.Literal.{Literal, negation, IsUpTo}
use Rattle.mp_logic.specs.Truth.{literal_value, IsSatisfied}
use Rattle.mp_logic.specs.Normal.{rises}
use Rattle.mp_logic.specs.Learning.{IsLearnt}
use Rattle.mp_logic.specs.Keeping.{State}
use Rattle.mp_logic.specs.Sets.{Among, Entails, Implies}
use Rattle.mp_logic.specs.declared.instances.Cost.{Cost}
use Rattle.mp_logic.specs.declared.instances.Repair.{Repair}
use Rattle.mp_logic.proofs.Members.{Contains-none, Contains-first, Contains-later, Contains-cases, Contains-one, true_by}
use Rattle.mp_logic.proofs.Literals.{negation-negation, negation_false, negation_true}
use Rattle.mp_clauses.specs.Slots.{live_clauses}
use Rattle.mp_clauses.specs.Weighing.{costs_of, weight_in}
use Rattle.mp_clauses.proofs.Found.{any-found}
use Rattle.mp_clauses.proofs.Pricing.{has_cost, literal-place}
use Rattle.mp_clauses.specs.Places.{place_of}
use Rattle.mp_store.specs.Held.{Held, labelled_of, IsUntouched}
use Rattle.mp_store.specs.Soundness.{IsStore}
use Rattle.mp_store.specs.Measures.{IsSmaller}
use Rattle.mp_store.specs.Techniques.{IsRun, IsChange}
use Rattle.mp_store.proofs.Fixes.{filter-has}
use Rattle.mp_store.proofs.Runs.{run-same, run-more, none-empty, smaller-then, untouched-twice}
use Rattle.core_solver.specs.declared.query.Query.{Query}
use Rattle.core_solver.specs.declared.query.Verdict.{Verdict}
use Rattle.core_solver.specs.declared.query.Verdict.TheVariants.{Model, Core, Unknown}
use Rattle.core_solver.specs.Verdicts.{IsQuery, MakesTrue, IsRightVerdict}
use Rattle.t_probe.specs.Asking.{Asking, IsUnanswered, IsProbed}
use Rattle.t_probe.specs.declared.probed.ProbeEnding.TheVariants.{Finished, Spent}
use Rattle.t_probe.specs.Trimming.{CanBeFalse, LeavesVariables, EachCanBeFalse, trimming}
use Rattle.t_probe.specs.Underway.{IsAbout, literals_of, IsProbing, IsProbeStep, IsTrimStep, IsTrimming}
use Rattle.t_probe.proofs.Together.{cost-weight}

-- queries
pub query-valid : (h : Held) (q : Query) → IsStore h → IsAbout h q → ((l : Literal) → Contains q.assumptions l → IsUpTo h.vars l) → ((i j : ℕ) (d : Literal) → i < j → j < length q.assumptions → (get_or q.assumptions i d).variable ≢ (get_or q.assumptions j d).variable) → IsQuery q
query-valid h q s a within distinct =
    let live : (c : List Literal) → Contains q.hard c → Contains (live_clauses h.slots) c = λ c m. subst (λ (cs : List (List Literal)). Contains cs c) a.hard m in
    record {
      normal = λ c m. All-contains (λ c. IsTrue (rises 0 c)) (live_clauses h.slots) c s.labelled.hard_normal (live c m);
      within = λ c m l i. subst (λ n. IsUpTo n l) (sym a.vars) (All-contains (IsUpTo h.vars) c l (All-contains (All (IsUpTo h.vars)) (live_clauses h.slots) c s.labelled.hard_within (live c m)) i);
      assumed_within = λ l m. subst (λ n. IsUpTo n l) (sym a.vars) (within l m);
      distinct = distinct;
    }

pub about-same : (h : Held) (q r : Query) → IsAbout h q → r.vars ≡ q.vars → r.hard ≡ q.hard → IsAbout h r
about-same h q r a e f = record { vars = e ∙ a.vars; hard = f ∙ a.hard }

pub weight-cost : (w : List ℕ) (l : Literal) → weight_in w l ≢ 0 → Contains (costs_of w) (record { lit = l; weight = weight_in w l })
weight-cost w l h =
    let n : 0 + place_of l ≡ place_of l = omega arith in
    let c = has_cost 0 w (place_of l) h in
    rw (n, literal-place l) at c

pub label-within : (h : Held) (l : Literal) → IsStore h → weight_in h.weights l ≢ 0 → IsUpTo h.vars l
label-within h l s n = All-contains (λ (p : Cost). IsUpTo h.vars p.lit) (costs_of h.weights) (record { lit = l; weight = weight_in h.weights l }) s.labelled.costs_within (weight-cost h.weights l n)

-- one literal is assumed
pub one-valid : (h : Held) (q : Query) (l : Literal) → IsStore h → IsAbout h q → IsUpTo h.vars l → q.assumptions ≡ negation l ∷ [] → IsQuery q
one-valid h q l s a up e =
    query-valid h q s a
    (λ k m. subst (IsUpTo h.vars) (sym (Contains-one (negation l) k (subst (λ (xs : List Literal). Contains xs k) e m))) up)
    (λ i j d x y. let n : length q.assumptions ≡ 1 = ap (λ (xs : List Literal). length xs) e in absurd (omega arith))

pub true-negation : (a : List Bool) (l : Literal) → literal_value a (negation l) ≡ true → literal_value a l ≡ false
true-negation a l t = subst (λ (k : Literal). literal_value a k ≡ false) (negation-negation l) (negation_false a (negation l) t)

-- what a core says: its literals are among the assumptions, and no model makes them true
pub core-implies : (h : Held) (q : Query) (c : List Literal) (l : Literal) → IsAbout h q → q.assumptions ≡ negation l ∷ [] → IsRightVerdict q (Core c) → Implies (live_clauses h.slots) (l ∷ [])
core-implies h q c l a e r x m =
    elim (cases_Bool (literal_value x l)) [
      | inl t ↦ true_by x (l ∷ []) l (Contains-first l []) t
      | inr f ↦ absurd (r.1 x (subst (IsSatisfied x) (sym a.hard) m) (λ k i.
          let one : k ≡ negation l = Contains-one (negation l) k (subst (λ (xs : List Literal). Contains xs k) e (r.0 k i)) in
          ap (literal_value x) one ∙ negation_true x l f))
    ]

pub core-empty : (h : Held) (q : Query) (c : List Literal) → IsAbout h q → IsRightVerdict q (Core c) → c ≡ [] → Implies (live_clauses h.slots) []
core-empty h q c a r e x m = absurd (r.1 x (subst (IsSatisfied x) (sym a.hard) m) (λ k i. absurd (Contains-none k (subst (λ (xs : List Literal). Contains xs k) e i))))

pub untouched-run : (asking : Asking) (h u : Held) → ((s : State) → asking.LeavesAlone s s []) → IsUntouched h u → IsRun asking.LeavesAlone h u
untouched-run asking h u r e = run-same asking.LeavesAlone h u r e

pub empty-list : {X : Type 0} (xs : List X) → length xs ≡ 0 → xs ≡ []
empty-list [] e = refl
empty-list (x ∷ xs) e = absurd (omega arith)

pub empty-core : {X : Type 0} (xs ys : List X) (b : Bool) → xs ≡ ys → b ≡ (length xs == 0) → b ≡ true → ys ≡ []
empty-core xs ys b e f t = empty-list ys (ap length (sym e) ∙ eqb-true (length xs) 0 (sym f ∙ t))

pub some-core : {X : Type 0} (xs ys : List X) (b : Bool) → xs ≡ ys → b ≡ (length xs == 0) → b ≡ false → length ys ≢ 0
some-core xs ys b e f t z = true≢false (sym (f ∙ eq-eqb (length xs) 0 (ap length e ∙ z)) ∙ t)

pub about-paid : (h u : Held) (q r : Query) → IsAbout h q → u.vars ≡ h.vars → r.vars ≡ q.vars → r.hard ≡ live_clauses u.slots → IsAbout u r
about-paid h u q r a e f g = record { vars = f ∙ (a.vars ∙ sym e); hard = g }

-- so far
pub probing-none : (asking : Asking) (h : Held) → ((s : State) → asking.LeavesAlone s s []) → h.refuted ≡ false → IsProbing asking h h false
probing-none asking h r n = record { run = run-same asking.LeavesAlone h h r refl; change = record { same = λ e. refl; smaller = λ e. absurd (cc) }; unrefuted = n }

abbrev pub LeavesTwice : Asking → Type 0
LeavesTwice asking = (s t u : State) (x y : List Repair) → asking.LeavesAlone s t x → asking.LeavesAlone t u y → asking.LeavesAlone s u (x ++ y)

pub probing-run : (asking : Asking) (s t u : Held) (changed : Bool) → LeavesTwice asking → IsStore t → IsProbing asking s t changed → IsRun asking.LeavesAlone t u → IsRun asking.LeavesAlone s u
probing-run asking s t u changed j st p r = run-more asking.LeavesAlone s t u j (none-empty t st p.unrefuted) p.run r

pub change-more : (s t u : Held) (changed : Bool) → t.refuted ≡ false → IsChange changed s t → (u.refuted ≡ true) ⊎ IsSmaller (labelled_of u) (labelled_of t) → IsChange true s u
change-more s t u changed n c d = record { same = λ e. absurd (cc); smaller = λ e. elim d [ inl r ↦ inl r | inr k ↦ inr (smaller-then s t u changed n c k) ] }

pub change-joins : (s t u : Held) (a b : Bool) → t.refuted ≡ false → IsChange a s t → IsChange b t u → IsChange (a || b) s u
change-joins s t u a true n c d =
    let all : (a || true) ≡ true = elim a as (λ x. (x || true) ≡ true) [ true ↦ refl | false ↦ refl ] in
    rw all (change-more s t u a n c (d.smaller refl))
change-joins s t u true false n c d =
    let e : IsUntouched t u = d.same refl in
    record {
      same = λ f. absurd (cc);
      smaller = λ f. elim (c.smaller refl) [
        | inl r ↦ absurd (true≢false (sym r ∙ n))
        | inr k ↦ inr (let P : State → Type 0 = λ x. IsSmaller x (labelled_of s) in subst P (sym (ap (λ (x : Held). labelled_of x) e)) k)
      ];
    }
change-joins s t u false false n c d = record { same = λ f. untouched-twice s t u (c.same refl) (d.same refl); smaller = λ f. absurd (cc) }

pub probing-more : (asking : Asking) (s t u : Held) (changed : Bool) → LeavesTwice asking → IsStore t → IsProbing asking s t changed → IsProbeStep asking t u → u.refuted ≡ false → IsProbing asking s u true
probing-more asking s t u changed j st p d n = record { run = probing-run asking s t u changed j st p d.run; change = change-more s t u changed p.unrefuted p.change d.smaller; unrefuted = n }

-- trimming
pub trim-itself : (s : State) → LeavesVariables s s []
trim-itself s = record { vars = refl; costs = λ p i. i }

pub trim-twice : LeavesTwice trimming
trim-twice s t u x y f g = record { vars = g.vars ∙ f.vars; costs = λ p i. f.costs p (g.costs p i) }

pub contains-literals : (ps : List Cost) (p : Cost) → Contains ps p → Contains (literals_of ps) p.lit
contains-literals [] p i = absurd (Contains-none p i)
contains-literals (q ∷ ps) p i = elim (Contains-cases q ps p i) [
  | inl e ↦ subst (λ (x : Cost). Contains (literals_of (q ∷ ps)) x.lit) (sym e) (Contains-first q.lit (literals_of ps))
  | inr r ↦ Contains-later q.lit (literals_of ps) p.lit (contains-literals ps p r)
]

pub trimming-start : (h : Held) (q : Query) (b : ℕ) (costs : List Cost) (labels slice waiting : List Literal) → h.refuted ≡ false → IsAbout h q → q.budget ≡ b → costs ≡ costs_of h.weights → labels ≡ literals_of costs → slice ≡ labels → Among slice waiting → IsTrimming h h false q b waiting
trimming-start h q b costs labels slice waiting n a given e f g all = record {
  probing = probing-none trimming h trim-itself n;
  about = a;
  given = given;
  labels = λ p i. inl (all p.lit (subst (λ (xs : List Literal). Contains xs p.lit) (sym (g ∙ (f ∙ ap literals_of e))) (contains-literals (costs_of h.weights) p i)));
}

-- the label that was taken
taken : (rest : List Literal) (l k : Literal) → Contains (rest ++ l ∷ []) k → Contains rest k ⊎ (k ≡ l)
taken rest l k i = elim (Contains-append_cases rest (l ∷ []) k i) [ inl a ↦ inl a | inr b ↦ inr (Contains-one l k b) ]

waits : (waiting rest : List Literal) (l k : Literal) → waiting ≡ rest ++ l ∷ [] → Contains waiting k → Contains rest k ⊎ (k ≡ l)
waits waiting rest l k e i = taken rest l k (subst (λ (xs : List Literal). Contains xs k) e i)

-- it has no cost any more
pub trimming-skip : (s h : Held) (changed : Bool) (q : Query) (b : ℕ) (waiting rest : List Literal) (l : Literal) → waiting ≡ rest ++ l ∷ [] → weight_in h.weights l ≡ 0 → IsTrimming s h changed q b waiting → IsTrimming s h changed q b rest
trimming-skip s h changed q b waiting rest l e z t = record {
  probing = t.probing;
  about = t.about;
  given = t.given;
  labels = λ p i. elim (t.labels p i) [
    | inr c ↦ inr c
    | inl w ↦ elim (waits waiting rest l p.lit e w) [
      | inl r ↦ inl r
      | inr f ↦ let x = cost-weight h.weights p i in absurd (x.1 (sym x.0 ∙ (ap (weight_in h.weights) f ∙ z)))
    ]
  ];
}

-- a model makes it false
pub trimming-found : (s h : Held) (changed : Bool) (q r : Query) (b : ℕ) (waiting rest : List Literal) (l : Literal) (a : List Bool) → waiting ≡ rest ++ l ∷ [] → IsAbout h r → r.budget ≡ q.budget → IsSatisfied a (live_clauses h.slots) → literal_value a l ≡ false → IsTrimming s h changed q b waiting → IsTrimming s h changed r b (filter (literal_value a) rest)
trimming-found s h changed q r b waiting rest l a e about given m f t = record {
  probing = t.probing;
  about = about;
  given = given ∙ t.given;
  labels = λ p i. elim (t.labels p i) [
    | inr c ↦ inr c
    | inl w ↦ elim (waits waiting rest l p.lit e w) [
      | inr g ↦ inr (a, m, ap (literal_value a) g ∙ f)
      | inl x ↦ elim (cases_Bool (literal_value a p.lit)) [ inl v ↦ inl (filter-has (literal_value a) rest p.lit x v) | inr v ↦ inr (a, m, v) ]
    ]
  ];
}

-- it is paid for
pub trimming-paid : (s h u : Held) (changed : Bool) (q r : Query) (b : ℕ) (waiting rest : List Literal) (l : Literal) → waiting ≡ rest ++ l ∷ [] → IsStore h → IsStore u → IsTrimStep l h u → u.refuted ≡ false → IsAbout u r → r.budget ≡ q.budget → IsTrimming s h changed q b waiting → IsTrimming s u true r b rest
trimming-paid s h u changed q r b waiting rest l e st su d n about given t =
    let alone : LeavesVariables (labelled_of h) (labelled_of u) d.step.run.added = d.step.run.step.alone (none-empty u su n) in
    record {
      probing = probing-more trimming s h u changed trim-twice st t.probing d.step n;
      about = about;
      given = given ∙ t.given;
      labels = λ p i. elim (t.labels p (alone.costs p i)) [
        | inr c ↦ inr (c.0, d.step.entails n c.0 c.1, c.2)
        | inl w ↦ elim (waits waiting rest l p.lit e w) [
          | inl x ↦ inl x
          | inr f ↦ let y = cost-weight u.weights p i in absurd (y.1 (sym y.0 ∙ (ap (weight_in u.weights) f ∙ d.lost n)))
        ]
      ];
    }

pub trimming-done : (s h : Held) (changed : Bool) (q : Query) (b : ℕ) (waiting : List Literal) → waiting ≡ [] → IsTrimming s h changed q b waiting → EachCanBeFalse (labelled_of h)
trimming-done s h changed q b waiting e t p i = elim (t.labels p i) [ inr c ↦ c | inl w ↦ absurd (Contains-none p.lit (subst (λ (xs : List Literal). Contains xs p.lit) e w)) ]

-- the turn as a whole
pub turn-found : (s h u : Held) (changed : Bool) (q r : Query) (b : ℕ) (waiting rest kept : List Literal) (l : Literal) (a : List Bool) → waiting ≡ rest ++ l ∷ [] → r.budget ≡ q.budget → kept ≡ filter (literal_value a) rest → (u ≡ h) × IsAbout u r × IsSatisfied a (live_clauses u.slots) × (literal_value a l ≡ false) → IsStore h → IsTrimming s h changed q b waiting → IsTrimming s u changed r b kept × IsStore u
turn-found s h u changed q r b waiting rest kept l a e given is t st w =
    let now : IsTrimming s u changed q b waiting = subst (λ (x : Held). IsTrimming s x changed q b waiting) (sym t.0) w in
    (subst (IsTrimming s u changed r b) (sym is) (trimming-found s u changed q r b waiting rest l a e t.1 given t.2 t.3 now), subst IsStore (sym t.0) st)

pub turn-spent : (Answers : Query → Verdict → Type 0) (s h u : Held) (changed : Bool) (q r : Query) (b : ℕ) (waiting : List Literal) (l : Literal) (learnt : List (List Literal)) → r.budget ≡ q.budget → (u ≡ h) × IsUnanswered trimming Answers r.budget (labelled_of u) r learnt → IsTrimming s h changed q b waiting → IsProbed trimming Answers b s u (record { ending = Spent r learnt; changed = changed })
turn-spent Answers s h u changed q r b waiting l learnt given t w = record {
  change = subst (IsChange changed s) (sym t.0) w.probing.change;
  ending = subst (λ n. IsUnanswered trimming Answers n (labelled_of u) r learnt) (given ∙ w.given) t.1;
}

pub refuted-empty : (u : Held) → IsStore u → u.refuted ≡ true → Contains (live_clauses u.slots) []
refuted-empty u s r =
    let w = any-found (λ (c : List Literal). length c == 0) (live_clauses u.slots) (sym s.refuted ∙ r) in
    subst (Contains (live_clauses u.slots)) (empty-list w.0 (eqb-true (length w.0) 0 w.2)) w.1

pub turn-refuted : (asking : Asking) (Answers : Query → Verdict → Type 0) (s h u : Held) (changed : Bool) (b : ℕ) → IsStore u → u.refuted ≡ true → IsProbing asking s h changed → IsProbeStep asking h u → IsProbed asking Answers b s u (record { ending = Finished; changed = true })
turn-refuted asking Answers s h u changed b su r p d = record {
  change = change-more s h u changed p.unrefuted p.change d.smaller;
  ending = inl (refuted-empty u su r);
}

pub trimming-end : (Answers : Query → Verdict → Type 0) (s h : Held) (changed : Bool) (q : Query) (b : ℕ) (waiting : List Literal) → waiting ≡ [] → IsTrimming s h changed q b waiting → IsProbed trimming Answers b s h (record { ending = Finished; changed = changed })
trimming-end Answers s h changed q b waiting e w = record { change = w.probing.change; ending = inr (trimming-done s h changed q b waiting e w) }

pub shorter : (waiting rest : List Literal) (l : Literal) → waiting ≡ rest ++ l ∷ [] → length rest < length waiting
shorter waiting rest l e = let n = ap length e in let m = length-append rest (l ∷ []) in omega (arith, n, m)

pub filter-shorter : (p : Literal → Bool) (xs : List Literal) → length (filter p xs) ≤ length xs
filter-shorter p [] = omega arith
filter-shorter p (x ∷ xs) = let r = filter-shorter p xs in elim (p x) as (λ b. length (cond b (x ∷ filter p xs) (filter p xs)) ≤ suc (length xs)) [ true ↦ omega arith | false ↦ omega arith ]

pub kept-shorter : (waiting rest kept : List Literal) (l : Literal) (p : Literal → Bool) → waiting ≡ rest ++ l ∷ [] → kept ≡ filter p rest → length kept < length waiting
kept-shorter waiting rest kept l p e f = let n = ap length f in let m = filter-shorter p rest in let o = shorter waiting rest l e in omega (arith, n, m, o)

-- the oracle did not know
pub unanswered : (asking : Asking) (Answers : Query → Verdict → Type 0) (h : Held) (q : Query) (learnt : List (List Literal)) → IsStore h → h.refuted ≡ false → IsAbout h q → asking.Assumes (labelled_of h) q.assumptions → Answers q (Unknown learnt) → IsRightVerdict q (Unknown learnt) → IsUnanswered asking Answers q.budget (labelled_of h) q learnt
unanswered asking Answers h q learnt s n a assumes answered right = record {
  vars = a.vars;
  hard = a.hard;
  assumes = assumes;
  given = refl;
  answered = answered;
  many = right.0;
  lessons = subst (λ (cs : List (List Literal)). IsLearnt cs learnt) a.hard right.1;
  unrefuted = none-empty h s n;
}

-- what the question about a label came to
pub trim-found : (h : Held) (q : Query) (l : Literal) (a : List Bool) → IsAbout h q → q.assumptions ≡ negation l ∷ [] → IsRightVerdict q (Model a) → (h ≡ h) × IsAbout h q × IsSatisfied a (live_clauses h.slots) × (literal_value a l ≡ false)
trim-found h q l a about e r = (
  refl,
  about,
  subst (IsSatisfied a) about.hard r.1,
  true-negation a l (r.2 (negation l) (subst (λ (xs : List Literal). Contains xs (negation l)) (sym e) (Contains-first (negation l) []))),
)

pub trim-unknown : (Answers : Query → Verdict → Type 0) (h : Held) (q : Query) (l : Literal) (learnt : List (List Literal)) → IsStore h → h.refuted ≡ false → IsAbout h q → weight_in h.weights l ≢ 0 → q.assumptions ≡ negation l ∷ [] → Answers q (Unknown learnt) → IsRightVerdict q (Unknown learnt) → (h ≡ h) × IsUnanswered trimming Answers q.budget (labelled_of h) q learnt
trim-unknown Answers h q l learnt s n about w e answered right =
    (refl, unanswered trimming Answers h q learnt s n about (record { lit = l; weight = weight_in h.weights l }, weight-cost h.weights l w, e) answered right)
