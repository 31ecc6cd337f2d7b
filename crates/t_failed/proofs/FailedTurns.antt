-- A turn of failed-literal probing.
use Rattle.std.proofs.Common.{◌≡◌, ◌⊎◌, ℕ, ◌+◌, ◌*◌, ◌/◌, ◌<◌, ◌≤◌, Bool, true, false, cond, List, [], ◌∷◌, ◌++◌, length, take, drop, refl, sym, ◌∙◌, ap, subst, arith, inl, inr, Contains, add-zero}
use Rattle.std.specs.Prelude.{Option, Some, None, IfSome, MatchBool, ◌||◌}
use Rattle.std.specs.List.{filter, range_with_len}
use Rattle.std.proofs.lemmas.Bool.{cases_Bool, or_cases, true≢false}
use Rattle.std.proofs.lemmas.List.{length-append}
use Rattle.std.proofs.lemmas.List.Elements.{Contains-append_left}
use Rattle.std.proofs.Math.Seq.{take-append_seam}
use Rattle.mp_logic.specs.Literal.{Literal, negation, IsUpTo}
use Rattle.mp_logic.specs.Keeping.{State}
use Rattle.mp_logic.specs.Sets.{Implies}
use Rattle.mp_logic.specs.Rewrites.{set_repair}
use Rattle.mp_logic.specs.declared.instances.Repair.{Repair}
use Rattle.mp_logic.proofs.Fixed.{Bends-implied}
use Rattle.mp_logic.proofs.Members.{Contains-none}
use Rattle.mp_clauses.specs.Places.{place_of, literal_at, has, no_repeats}
use Rattle.mp_clauses.specs.Slots.{live_clauses, has_empty}
use Rattle.mp_clauses.proofs.Found.{has-by, has-contains}
use Rattle.mp_clauses.proofs.Pricing.{literal-place}
use Rattle.mp_store.specs.Held.{Held, labelled_of, IsUntouched}
use Rattle.mp_store.specs.Rewriting.{changed_by, refuted_by, after}
use Rattle.mp_store.specs.Soundness.{IsStore}
use Rattle.mp_store.specs.Fixing.{fixing_of}
use Rattle.mp_store.specs.Measures.{occurs, occurring, IsSmaller}
use Rattle.mp_store.specs.Techniques.{IsRun}
use Rattle.mp_store.proofs.Fixes.{filter-from}
use Rattle.mp_store.proofs.KeptFixing.{new-slots}
use Rattle.mp_store.proofs.Runs.{run-same}
use Rattle.mp_turns.specs.Turning.{IsTurning}
use Rattle.mp_turns.specs.Underway.{StaysWithin}
use Rattle.mp_turns.proofs.FixedOne.{fixing-run, costs-among, still-occurs, fewer-occur, fixed-smaller}
use Rattle.mp_turns.proofs.OwnIdle.{own-idle}
use Rattle.mp_turns.proofs.Replacing.{plain-after}
use Rattle.t_failed.specs.Failed.{IsUnfailed, LeavesVariables, failed_literals, probing}
use Rattle.t_failed.specs.Taking.{IsFixed}
use Rattle.t_failed.specs.Propagating.{IsRoot, IsRootBelow, IsProbed, IsFailed, IsGrown, AreKnown}
use Rattle.t_failed.proofs.Occurring.{range-once, listed}
use Rattle.t_failed.proofs.Settling.{contains-part}
use Rattle.t_failed.proofs.Roots.{root-fixed, failed-implied}

leaves-itself : (s : State) → LeavesVariables s s []
leaves-itself s = record { vars = refl; costs = λ p i. i }

leaves-twice : (s t u : State) (x y : List Repair) → LeavesVariables s t x → LeavesVariables t u y → LeavesVariables s u (x ++ y)
leaves-twice s t u x y f g = record { vars = g.vars ∙ f.vars; costs = λ p i. f.costs p (g.costs p i) }

abbrev places : Held → List ℕ
places h = filter (λ p. occurs (p / 2) (live_clauses h.slots)) (range_with_len 2 (2 * h.vars))

waits-or-idle : (h : Held) (i : ℕ) → IsStore h → Contains (places h) i ⊎ probing.IsIdle h i
waits-or-idle h i s =
    elim (cases_Bool (occurs (i / 2) (live_clauses h.slots))) [
      | inl t ↦ inl (listed h i s t)
      | inr f ↦ inr (λ t. absurd (true≢false (sym t ∙ f)))
    ]

-- the literal of a place is on its variable
half : (l : Literal) → place_of l / 2 ≡ l.variable
half l = elim l.negative as (λ b. (2 * l.variable + cond b 1 0) / 2 ≡ l.variable) [ true ↦ omega arith | false ↦ omega arith ]

pub probing-sound : IsTurning probing
probing-sound = record {
  itself = leaves-itself;
  twice = leaves-twice;
  stays_itself = λ h u e. let same : length u.repairs ≡ length h.repairs = ap (λ (x : Held). length x.repairs) e in omega arith;
  stays_twice = λ m n a b c x y. omega arith;
  counted = λ h s. refl;
  distinct = λ h s. range-once (λ p. occurs (p / 2) (live_clauses h.slots)) 2 (2 * h.vars);
  others = λ h i s. waits-or-idle h i s;
  untouched = λ h u i e idle. subst (λ (cs : List (List Literal)). occurs (i / 2) cs ≡ true → IsUnfailed cs (literal_at i)) (sym (ap (λ (x : Held). live_clauses x.slots) e)) idle;
  ended = λ h s n idle l o. subst (IsUnfailed (live_clauses h.slots)) (literal-place l) (idle (place_of l) (ap (λ (v : ℕ). occurs v (live_clauses h.slots)) (half l) ∙ o));
  idle = λ h first rest s e idle.
      own-idle failed_literals (labelled_of h) first rest e (ap no_repeats (sym e) ∙ range-once (λ p. occurs (p / 2) (live_clauses h.slots)) 2 (2 * h.vars)) (λ i m.
      idle i m (filter-from (λ p. occurs (p / 2) (live_clauses h.slots)) (range_with_len 2 (2 * h.vars)) i (subst (λ xs. Contains xs i) (sym e) (Contains-append_left first rest i m))).1);
}

-- what the turns of a budget add
pub repairs-within : (budget : Option ℕ) (h u : Held) → StaysWithin probing budget h u → IfSome budget (λ b. length u.repairs ≤ length h.repairs + b)
repairs-within None h u w = tt
repairs-within (Some b) h u w = let few = w.within in let came = w.stays in omega arith

-- runs
pub untouched-run : (h u : Held) → IsUntouched h u → IsRun LeavesVariables h u
untouched-run h u e = run-same LeavesVariables h u leaves-itself e

pub fixed-run : (h u : Held) (l : Literal) → IsStore h → IsUpTo h.vars l → Implies (live_clauses h.slots) (l ∷ []) → IsUntouched (after (fixing_of (l ∷ []) h) h) u → IsRun LeavesVariables h u
fixed-run h u l s up imp e = fixing-run LeavesVariables h u l s up (Bends-implied (labelled_of h) l imp) e (record { vars = add-zero h.vars; costs = costs-among h l })

-- each turn adds no more than one repair
pub untouched-repairs : (h u : Held) → IsUntouched h u → length u.repairs ≤ length h.repairs + 1
untouched-repairs h u e = let same : length u.repairs ≡ length h.repairs = ap (λ (x : Held). length x.repairs) e in omega arith

pub fixed-repairs : (h u : Held) (l : Literal) → IsUntouched (after (fixing_of (l ∷ []) h) h) u → length u.repairs ≤ length h.repairs + 1
fixed-repairs h u l e =
    let r = fixing_of (l ∷ []) h in
    let more : length (h.repairs ++ set_repair l (l ∷ []) ∷ []) ≡ length h.repairs + 1 = length-append h.repairs (set_repair l (l ∷ []) ∷ []) in
    let parts : (b : Bool) → length (cond b (refuted_by r h) (changed_by r h)).repairs ≡ length h.repairs + 1 =
    λ (t : Bool). elim t as (λ b. length (cond b (refuted_by r h) (changed_by r h)).repairs ≡ length h.repairs + 1) [ true ↦ more | false ↦ more ] in
    let whole : length u.repairs ≡ length h.repairs + 1 = ap (λ (x : Held). length x.repairs) e ∙ parts (has_empty r.added) in
    omega arith

fixed-state : (h u : Held) (l : Literal) → IsUntouched (after (fixing_of (l ∷ []) h) h) u → u.refuted ≡ false → labelled_of u ≡ labelled_of (changed_by (fixing_of (l ∷ []) h) h)
fixed-state h u l e n =
    let first : labelled_of u ≡ labelled_of (after (fixing_of (l ∷ []) h) h) = ap labelled_of e in
    first ∙ ap labelled_of (plain-after (fixing_of (l ∷ []) h) h u e n)

fixed-slots : (h u : Held) (l : Literal) → IsUntouched (after (fixing_of (l ∷ []) h) h) u → u.refuted ≡ false → u.slots ≡ new-slots l h
fixed-slots h u l e n =
    let first : u.slots ≡ (after (fixing_of (l ∷ []) h) h).slots = ap (λ (x : Held). x.slots) e in
    first ∙ ap (λ (x : Held). x.slots) (plain-after (fixing_of (l ∷ []) h) h u e n)

fixed-vars : (h u : Held) (l : Literal) → IsUntouched (after (fixing_of (l ∷ []) h) h) u → u.refuted ≡ false → u.vars ≡ h.vars
fixed-vars h u l e n = ap (λ (s : State). s.vars) (fixed-state h u l e n) ∙ add-zero h.vars

-- what all clauses forced rests before the new clauses
pub fixed-root : (h u : Held) (l : Literal) (p : List Literal) (b : Bool) → IsStore h → IsUpTo h.vars l → Implies (live_clauses h.slots) (l ∷ []) → IsRoot h p b → IsUntouched (after (fixing_of (l ∷ []) h) h) u → u.refuted ≡ false → IsRootBelow u (length h.slots) p b
fixed-root h u l p b s up imp r e n = root-fixed h u l p b LeavesVariables s up imp r (fixed-vars h u l e n) (fixed-slots h u l e n) (fixed-run h u l s up imp e)

-- a change
pub fixed-change : (h u : Held) (l : Literal) → IsUpTo h.vars l → occurs l.variable (live_clauses h.slots) ≡ true → IsUntouched (after (fixing_of (l ∷ []) h) h) u → (u.refuted ≡ true) ⊎ IsFixed h u
fixed-change h u l up there e =
    let change : u.refuted ≡ false → IsFixed h u = λ n.
    let state = fixed-state h u l e n in
    let slots = fixed-slots h u l e n in
    let P : State → Type 0 = λ t. occurring t.vars t.hard < occurring h.vars (live_clauses h.slots) in
    let Q : State → Type 0 = λ t. IsSmaller t (labelled_of h) in
    record {
      occur = λ v o. still-occurs h l v (subst (λ x. occurs v (live_clauses x) ≡ true) slots o);
      falls = subst P (sym state) (fewer-occur h l up there);
      smaller = subst Q (sym state) (fixed-smaller h l up there);
    } in
    let cases : (b : Bool) → u.refuted ≡ b → (u.refuted ≡ true) ⊎ IsFixed h u =
    λ (t : Bool). elim t as (λ b. u.refuted ≡ b → (u.refuted ≡ true) ⊎ IsFixed h u) [ true ↦ λ f. inl f | false ↦ λ f. inr (change f) ] in
    cases u.refuted refl

pub fixed-standing : (h u : Held) → u.refuted ≡ false → (u.refuted ≡ true) ⊎ IsFixed h u → IsFixed h u
fixed-standing h u n w = elim w [ inl t ↦ absurd (true≢false (sym t ∙ n)) | inr f ↦ f ]

-- what a turn answers
abbrev Turned : Held → Held → ℕ → Bool → Type 0
Turned h u item b = MatchBool b ((u.refuted ≡ true) ⊎ IsFixed h u) (IsUntouched h u × probing.IsIdle h item)

pub turned-true : (h u : Held) (item : ℕ) (b : Bool) → b ≡ true → MatchBool b ((u.refuted ≡ true) ⊎ IsFixed h u) (IsUntouched h u × probing.IsIdle h item) → (u.refuted ≡ true) ⊎ IsFixed h u
turned-true h u item b t m = subst (Turned h u item) t m

pub turned-false : (h u : Held) (item : ℕ) (b : Bool) → b ≡ false → MatchBool b ((u.refuted ≡ true) ⊎ IsFixed h u) (IsUntouched h u × probing.IsIdle h item) → IsUntouched h u × probing.IsIdle h item
turned-false h u item b f m = subst (Turned h u item) f m

-- idle turns
pub idle-none : (h : Held) (item : ℕ) → occurs (item / 2) (live_clauses h.slots) ≡ false → probing.IsIdle h item
idle-none h item f t = absurd (true≢false (sym t ∙ f))

pub idle-unfailed : (h : Held) (item : ℕ) (l : Literal) → l ≡ literal_at item → IsUnfailed (live_clauses h.slots) l → probing.IsIdle h item
idle-unfailed h item l e f t = subst (IsUnfailed (live_clauses h.slots)) e f

pub known-unfailed : (cs : List (List Literal)) (known : List Literal) (l : Literal) → AreKnown cs known → has (place_of l) known ≡ true → IsUnfailed cs l
known-unfailed cs known l k t = k l (has-contains known l t)

-- the literals of a probe do not fail
pub probe-known : (h : Held) (old p lits : List Literal) (m n : ℕ) (l : Literal) (known new : List Literal) → IsProbed h old l p → lits ≡ take m (drop n p) → AreKnown (live_clauses h.slots) known → ((q : ℕ) → has q new ≡ (has q known || has q lits)) → AreKnown (live_clauses h.slots) new
probe-known h old p lits m n l known new r same k e x i =
    elim (or_cases (has (place_of x) known) (has (place_of x) lits) (sym (e (place_of x)) ∙ has-by new x i)) [
      | inl a ↦ k x (has-contains known x a)
      | inr b ↦ (p, r.propagated, contains-part m n p x (subst (λ xs. Contains xs x) same (has-contains lits x b)))
    ]

pub none-known : (cs : List (List Literal)) (known : List Literal) → known ≡ [] → AreKnown cs known
none-known cs known e l i = absurd (Contains-none l (subst (λ xs. Contains xs l) e i))

-- what a probe answers
pub holds-true : (cs : List (List Literal)) (l : Literal) (b : Bool) → b ≡ true → MatchBool b (IsUnfailed cs l) (Implies cs (negation l ∷ [])) → IsUnfailed cs l
holds-true cs l b t m = subst (λ x. MatchBool x (IsUnfailed cs l) (Implies cs (negation l ∷ []))) t m

pub holds-false : (cs : List (List Literal)) (l n : Literal) (b : Bool) → n ≡ negation l → b ≡ false → MatchBool b (IsUnfailed cs l) (Implies cs (negation l ∷ [])) → Implies cs (n ∷ [])
holds-false cs l n b e f m =
    let imp : Implies cs (negation l ∷ []) = subst (λ x. MatchBool x (IsUnfailed cs l) (Implies cs (negation l ∷ []))) f m in
    subst (λ x. Implies cs (x ∷ [])) (sym e) imp

pub negated-up : (vars : ℕ) (l n : Literal) → n ≡ negation l → IsUpTo vars l → IsUpTo vars n
negated-up vars l n e u = subst (IsUpTo vars) (sym e) (u.0, u.1)

pub negated-occurs : (cs : List (List Literal)) (l n : Literal) → n ≡ negation l → occurs l.variable cs ≡ true → occurs n.variable cs ≡ true
negated-occurs cs l n e o = ap (λ (x : Literal). occurs x.variable cs) e ∙ o

-- the answer of a probe, over what was there before
pub probe-answer : (h : Held) (old p : List Literal) (l : Literal) (b : Bool) → MatchBool b (IsProbed h old l p) (IsFailed (live_clauses h.slots) l) → MatchBool b (IsUnfailed (live_clauses h.slots) l) (Implies (live_clauses h.slots) (negation l ∷ []))
probe-answer h old p l b m =
    let cs = live_clauses h.slots in
    let cases : (t : Bool) → MatchBool t (IsProbed h old l p) (IsFailed cs l) → MatchBool t (IsUnfailed cs l) (Implies cs (negation l ∷ [])) =
    λ (t : Bool). elim t as (λ x. MatchBool x (IsProbed h old l p) (IsFailed cs l) → MatchBool x (IsUnfailed cs l) (Implies cs (negation l ∷ []))) [ true ↦ λ r. (p, r.propagated, r.own) | false ↦ λ f. failed-implied cs l f ] in
    cases b m

pub probe-true : (h : Held) (old p : List Literal) (l : Literal) (b : Bool) → b ≡ true → MatchBool b (IsProbed h old l p) (IsFailed (live_clauses h.slots) l) → IsProbed h old l p
probe-true h old p l b t m = subst (λ x. MatchBool x (IsProbed h old l p) (IsFailed (live_clauses h.slots) l)) t m

pub probe-false : (h : Held) (old p : List Literal) (l : Literal) (b : Bool) → b ≡ false → MatchBool b (IsProbed h old l p) (IsFailed (live_clauses h.slots) l) → IsFailed (live_clauses h.slots) l
probe-false h old p l b f m = subst (λ x. MatchBool x (IsProbed h old l p) (IsFailed (live_clauses h.slots) l)) f m

-- the trail cut back to what it was
pub cut-back : (old new : List Literal) (n : ℕ) → IsGrown old new → n ≡ length old → (n ≤ length new) × (take n new ≡ old)
cut-back old new n g e =
    let size : length new ≡ length old + length g.0 = ap (λ (xs : List Literal). length xs) g.1 ∙ length-append old g.0 in (
      omega (arith, e, size),
      ap (λ k. take k new) e ∙ (ap (take (length old)) g.1 ∙ take-append_seam old g.0),
    )

pub root-back : (h : Held) (old new q : List Literal) (b now : Bool) (n : ℕ) → IsRoot h old b → IsGrown old new → n ≡ length old → q ≡ take n new → now ≡ b → IsRoot h q now
root-back h old new q b now n r g e f same =
    let back : q ≡ old = f ∙ (cut-back old new n g e).1 in
    subst (λ x. IsRoot h x now) (sym back) (subst (IsRoot h old) (sym same) r)

pub unfailed-by : (h : Held) (old p : List Literal) (l : Literal) → IsProbed h old l p → IsUnfailed (live_clauses h.slots) l
unfailed-by h old p l r = (p, r.propagated, r.own)

pub cut-same : (old new q : List Literal) (n : ℕ) → IsGrown old new → n ≡ length old → q ≡ take n new → q ≡ old
cut-same old new q n g e f = f ∙ (cut-back old new n g e).1
