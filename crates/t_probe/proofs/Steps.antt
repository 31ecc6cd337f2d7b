-- One change: an empty clause, a pair, a label that is paid for.
use Rattle.std.proofs.Common.{◌≡◌, ◌≢◌, ◌⊎◌, ℕ, ◌+◌, ◌<◌, ◌≤◌, Bool, true, false, cond, List, [], ◌∷◌, ◌++◌, length, get_or, set, refl, sym, ◌∙◌, ap, subst, arith, sum, inl, inr, Contains, add-zero}
use Rattle.std.specs.Prelude.{Option, Some, None, ◌==◌, ◌||◌, map}
use Rattle.std.specs.List.{list_all}
use Rattle.std.proofs.lemmas.Bool.{cases_Bool, true≢false, ne_eqb}
use Rattle.std.proofs.lemmas.List.Elements.{Contains-append_cases, Contains-append_left, Contains-append_right}
use Rattle.mp_logic.specs.Literal.{Literal, IsUpTo}
use Rattle.mp_logic.specs.Truth.{literal_value, IsSatisfied}
use Rattle.mp_logic.specs.Keeping.{State, Keeps}
use Rattle.mp_logic.specs.Sets.{Among, Entails, Implies, IsWith, with_hard}
use Rattle.mp_logic.specs.declared.instances.Cost.{Cost}
use Rattle.mp_logic.specs.declared.instances.Repair.{Repair}
use Rattle.mp_logic.proofs.Members.{Contains-none, Contains-first, Contains-later, Contains-cases, Contains-one, witness}
use Rattle.mp_logic.proofs.Fixed.{Bends-implied}
use Rattle.mp_logic.proofs.General.{adding_keeps, Entails-with}
use Rattle.mp_clauses.specs.Places.{place_of}
use Rattle.mp_clauses.specs.Slots.{live_clauses}
use Rattle.mp_clauses.specs.Weighing.{costs_of, weight_in, weighted}
use Rattle.mp_clauses.proofs.Found.{any-by, any-found}
use Rattle.mp_clauses.proofs.Pricing.{sum-costs}
use Rattle.mp_store.specs.Held.{Held, labelled_of, IsUntouched}
use Rattle.mp_store.specs.Rewriting.{changed_by, after}
use Rattle.mp_store.specs.Replacing.{replaced}
use Rattle.mp_store.specs.Soundness.{IsStore}
use Rattle.mp_store.specs.Fixing.{paid_off_one, fixing_of}
use Rattle.mp_store.specs.Measures.{is_covered, IsSmaller}
use Rattle.mp_store.specs.Techniques.{IsRun}
use Rattle.mp_store.proofs.Sound.{live-after, refuted-live}
use Rattle.mp_store.proofs.Fixes.{set-zero}
use Rattle.mp_store.proofs.KeptFixing.{fixed-weights, table-fixed}
use Rattle.mp_store.proofs.Measured.{covered-only, only-covered}
use Rattle.mp_store.proofs.Replaced.{replacing_leaves}
use Rattle.mp_store.proofs.Covered.{covering_is_smaller}
use Rattle.mp_turns.specs.Clauses.{replacing}
use Rattle.mp_turns.specs.Leaving.{LeavesCosts}
use Rattle.mp_turns.proofs.FixedOne.{fixing-run, costs-among, pay-cases}
use Rattle.mp_turns.proofs.Replacing.{plain-after, replacing-keeps, replacing-run}
use Rattle.t_probe.specs.Asking.{Asking}
use Rattle.t_probe.specs.Trimming.{LeavesVariables, trimming}
use Rattle.t_probe.specs.PairCores.{AddsPairs, IsCostPair, pair_core_search}
use Rattle.t_probe.specs.Underway.{IsProbeStep, IsTrimStep, IsPairStep, IsLabel}
use Rattle.t_probe.proofs.Together.{slots_together, together-on}

-- the clauses once one came
abbrev pub with_clause : List Literal → Held → List (List Literal)
with_clause c h = live_clauses (replaced [] (c ∷ []) h.slots)

pub with-clause-is : (c : List Literal) (h : Held) → with_clause c h ≡ live_clauses h.slots ++ c ∷ []
with-clause-is c h = live-after [] (c ∷ []) h.slots

with-clause : (c : List Literal) (h : Held) → IsWith c (live_clauses h.slots) (with_clause c h)
with-clause c h =
    rw (with-clause-is c h) (record {
      rest = λ d i. Contains-append_left (live_clauses h.slots) (c ∷ []) d i;
      own = Contains-append_right (live_clauses h.slots) (c ∷ []) c (Contains-first c []);
      only = λ d i. elim (Contains-append_cases (live_clauses h.slots) (c ∷ []) d i) [ inl a ↦ inl a | inr b ↦ inr (Contains-one c d b) ];
    })

-- an empty clause
abbrev Anything : State → State → List Repair → Type 0
Anything s t added = Unit {0}

refuted-run : (L : State → State → List Repair → Type 0) (h u : Held) → IsRun Anything h u → Contains (live_clauses u.slots) [] → IsRun L h u
refuted-run L h u r e = record { added = r.added; repairs = r.repairs; step = record { keeps = r.step.keeps; alone = λ n. absurd (n e) }; inner = r.inner; next = r.next; ids = r.ids }

pub refuting-step : (asking : Asking) (h u : Held) → Implies (live_clauses h.slots) [] → IsUntouched (after (replacing [] ([] ∷ []) []) h) u → IsProbeStep asking h u × (u.refuted ≡ true)
refuting-step asking h u imp e =
    let refuted : u.refuted ≡ true = ap (λ (x : Held). x.refuted) e in
    let slots : live_clauses u.slots ≡ [] ∷ [] = ap (λ (x : Held). live_clauses x.slots) e ∙ refuted-live (length h.slots) in
    let keeps : Keeps (labelled_of h) (with_hard (labelled_of h) (with_clause [] h)) [] = adding_keeps (labelled_of h) [] (with_clause [] h) (with-clause [] h) imp in
    let plain : IsRun Anything h u = replacing-run Anything [] ([] ∷ []) [] h u e keeps tt in (
      record {
        run = refuted-run asking.LeavesAlone h u plain (rw slots (Contains-first [] []));
        smaller = inl refuted;
        entails = λ n. absurd (true≢false (sym refuted ∙ n));
      },
      refuted,
    )

pub trim-refuting : (l : Literal) (h u : Held) → Implies (live_clauses h.slots) [] → IsUntouched (after (replacing [] ([] ∷ []) []) h) u → IsTrimStep l h u × (u.refuted ≡ true)
trim-refuting l h u imp e = let s = refuting-step trimming h u imp e in (record { step = s.0; lost = λ n. absurd (true≢false (sym s.1 ∙ n)) }, s.1)

pub pair-refuting : (l m : Literal) (h u : Held) → Implies (live_clauses h.slots) [] → IsUntouched (after (replacing [] ([] ∷ []) []) h) u → IsPairStep l m h u × (u.refuted ≡ true)
pair-refuting l m h u imp e = let s = refuting-step pair_core_search h u imp e in (record { step = s.0; covered = λ n. absurd (true≢false (sym s.1 ∙ n)) }, s.1)

-- a label that is paid for
fixed-plain : (h u : Held) (l : Literal) → IsUntouched (after (fixing_of (l ∷ []) h) h) u → u.refuted ≡ false → IsUntouched (changed_by (fixing_of (l ∷ []) h) h) u
fixed-plain h u l e n = subst (λ (x : Held). IsUntouched x u) (plain-after (fixing_of (l ∷ []) h) h u e n) e

weight-lost : (h : Held) (l : Literal) → weight_in h.weights l ≢ 0 → weight_in (fixed-weights l h) l ≡ 0
weight-lost h l n =
    let one : paid_off_one h.weights l ≡ record { lit = l; weight = 0 } ∷ [] = rw (ne_eqb (weight_in h.weights l) 0 n) refl in
    let table : fixed-weights l h ≡ set h.weights (place_of l) 0 = table-fixed l h ∙ ap (λ (cs : List Cost). weighted cs h.weights) one in
    ap (λ w. weight_in w l) table ∙ set-zero h.weights (place_of l)

weights-fall : (h : Held) (l : Literal) → weight_in h.weights l ≢ 0 → IsSmaller (labelled_of (changed_by (fixing_of (l ∷ []) h) h)) (labelled_of h)
weights-fall h l n =
    elim (pay-cases l h.weights) [
      | inl f ↦ inl (let a = sum-costs 0 (fixed-weights l h) in let b = sum-costs 0 h.weights in let e = ap sum (table-fixed l h) in omega arith)
      | inr z ↦ absurd (n z.1)
    ]

pub paying-step : (l : Literal) (h u : Held) → IsStore h → IsUpTo h.vars l → weight_in h.weights l ≢ 0 → Implies (live_clauses h.slots) (l ∷ []) → IsUntouched (after (fixing_of (l ∷ []) h) h) u → IsTrimStep l h u
paying-step l h u s up n imp e =
    let less : (b : Bool) → u.refuted ≡ b → (u.refuted ≡ true) ⊎ IsSmaller (labelled_of u) (labelled_of h) =
    λ (t : Bool). elim t as (λ b. u.refuted ≡ b → (u.refuted ≡ true) ⊎ IsSmaller (labelled_of u) (labelled_of h)) [
      | true ↦ λ f. inl f
      | false ↦ λ f. inr (
          let P : Held → Type 0 = λ x. IsSmaller (labelled_of x) (labelled_of h) in
          subst P (sym (fixed-plain h u l e f)) (weights-fall h l n)
          )
    ] in
    record {
      step = record {
        run = fixing-run LeavesVariables h u l s up (Bends-implied (labelled_of h) l imp) e (record { vars = add-zero h.vars; costs = costs-among h l });
        smaller = less u.refuted refl;
        entails = λ f a m.
            let slots : u.slots ≡ slots_together (l ∷ []) h = ap (λ (x : Held). x.slots) (fixed-plain h u l e f) in
            let w = witness a (l ∷ []) (imp a m) in
            let own : literal_value a l ≡ true = ap (literal_value a) (sym (Contains-one l w.0 w.1)) ∙ w.2 in
            subst (λ x. IsSatisfied a (live_clauses x)) (sym slots) (together-on (l ∷ []) h a (λ v i. ap (literal_value a) (Contains-one l v i) ∙ own) m);
      };
      lost = λ f. ap (λ (x : Held). weight_in x.weights l) (fixed-plain h u l e f) ∙ weight-lost h l n;
    }

pub paying-vars : (l : Literal) (h u : Held) → IsUntouched (after (fixing_of (l ∷ []) h) h) u → u.refuted ≡ false → u.vars ≡ h.vars
paying-vars l h u e n = ap (λ (x : Held). x.vars) (fixed-plain h u l e n) ∙ add-zero h.vars

-- covered pairs
pub covered-swap : (cs : List (List Literal)) (a b : Literal) → is_covered cs a b ≡ true → is_covered cs b a ≡ true
covered-swap cs a b t =
    let w = any-found (λ c. list_all (λ k. (place_of k == place_of a) || (place_of k == place_of b)) c) cs t in
    any-by (λ c. list_all (λ k. (place_of k == place_of b) || (place_of k == place_of a)) c) cs w.0 w.1 (only-covered b a w.0 (λ k i. elim (covered-only a b w.0 w.2 k i) [ inl e ↦ inr e | inr e ↦ inl e ]))

pub uncovered-swap : (cs : List (List Literal)) (a b : Literal) → is_covered cs a b ≡ false → is_covered cs b a ≡ false
uncovered-swap cs a b f = elim (cases_Bool (is_covered cs b a)) [ inr g ↦ g | inl t ↦ absurd (true≢false (sym (covered-swap cs b a t) ∙ f)) ]

pub covered-by : (cs : List (List Literal)) (a b : Literal) (c : List Literal) → Contains cs c → ((k : Literal) → Contains c k → (k ≡ a) ⊎ (k ≡ b)) → is_covered cs a b ≡ true
covered-by cs a b c m h = any-by (λ c. list_all (λ k. (place_of k == place_of a) || (place_of k == place_of b)) c) cs c m (only-covered a b c h)

in-pair : (l m k : Literal) → Contains (l ∷ (m ∷ [])) k → (k ≡ l) ⊎ (k ≡ m)
in-pair l m k i = elim (Contains-cases l (m ∷ []) k i) [ inl e ↦ inl e | inr r ↦ inr (Contains-one m k r) ]

pub covered-same : (cs : List (List Literal)) (p q l m : Literal) → p ≡ l → q ≡ m → is_covered cs p q ≡ is_covered cs l m
covered-same cs p q l m e f = ap (λ x. is_covered cs x q) e ∙ ap (λ x. is_covered cs l x) f

-- a pair
pub pairing-step : (l m : Literal) (h u : Held) → h.refuted ≡ false → IsLabel h l → IsLabel h m → l.variable < m.variable → is_covered (live_clauses h.slots) l m ≡ false → Implies (live_clauses h.slots) (l ∷ (m ∷ [])) → IsUntouched (after (replacing [] ((l ∷ (m ∷ [])) ∷ []) []) h) u → IsPairStep l m h u × (live_clauses u.slots ≡ live_clauses h.slots ++ (l ∷ (m ∷ [])) ∷ []) × (u.vars ≡ h.vars)
pairing-step l m h u n a b o un imp e =
    let c : List Literal = l ∷ (m ∷ []) in
    let r = replacing [] (c ∷ []) [] in
    let ds = with_clause c h in
    let w = with-clause c h in
    let slots : live_clauses u.slots ≡ ds = ap (λ (x : Held). live_clauses x.slots) e in
    let state : labelled_of u ≡ with_hard (labelled_of h) ds = ap labelled_of e ∙ replacing_leaves r h (replacing-keeps [] (c ∷ []) []) in
    let costs : LeavesCosts (labelled_of h) (with_hard (labelled_of h) ds) [] = record { vars = refl; costs = refl; offset = refl } in
    let each : (k : Literal) → Contains c k → IsLabel h k = λ k i. elim (in-pair l m k i) [ inl f ↦ subst (IsLabel h) (sym f) a | inr f ↦ subst (IsLabel h) (sym f) b ] in
    let pair : IsCostPair (costs_of h.weights) c = record { two = refl; each = each } in
    let alone : AddsPairs (labelled_of h) (with_hard (labelled_of h) ds) [] = record {
      costs = costs;
      repairs = refl;
      stay = w.rest;
      pairs = λ d i. elim (w.only d i) [ inl j ↦ inl j | inr f ↦ inr (subst (IsCostPair (costs_of h.weights)) (sym f) pair) ];
    } in
    let apart : l ≢ m = λ f. let v = ap (λ (k : Literal). k.variable) f in absurd (omega arith) in
    let now : is_covered ds l m ≡ true = covered-by ds l m c w.own (in-pair l m) in
    let less : IsSmaller (labelled_of (changed_by r h)) (labelled_of h) = covering_is_smaller r h a.0 b.0 (replacing-keeps [] (c ∷ []) []) refl a.1 b.1
    (λ f. apart (sym a.2 ∙ (f ∙ b.2)))
    (covered-same (live_clauses h.slots) a.0.lit b.0.lit l m a.2 b.2 ∙ un)
    (covered-same (live_clauses h.slots) b.0.lit a.0.lit m l b.2 a.2 ∙ uncovered-swap (live_clauses h.slots) l m un)
    (covered-same ds a.0.lit b.0.lit l m a.2 b.2 ∙ now)
    (covered-same ds b.0.lit a.0.lit m l b.2 a.2 ∙ covered-swap ds l m now) in
    let P : State → Type 0 = λ t. IsSmaller t (labelled_of h) in (
      record {
        step = record {
          run = replacing-run AddsPairs [] (c ∷ []) [] h u e (adding_keeps (labelled_of h) c ds w imp) alone;
          smaller = inr (subst P (sym (ap labelled_of e)) less);
          entails = λ f x y. subst (IsSatisfied x) (sym slots) (Entails-with c (live_clauses h.slots) ds w imp x y);
        };
        covered = λ f. ap (λ cs. is_covered cs l m) slots ∙ now;
      },
      slots ∙ with-clause-is c h,
      ap (λ (x : Held). x.vars) e ∙ add-zero h.vars,
    )
