-- A turn of unit propagation.
use Rattle.std.proofs.Common.{◌≡◌, ◌≢◌, ◌⊎◌, ℕ, ◌+◌, ◌*◌, ◌-◌, ◌<◌, ◌≤◌, Bool, true, false, cond, List, [], ◌∷◌, ◌++◌, length, refl, sym, ◌∙◌, ap, subst, arith, inl, inr, Contains, All, add-zero}
use Rattle.std.specs.Prelude.{Option, Some, None, IfSome}
use Rattle.std.proofs.lemmas.Bool.{cases_eq}
use Rattle.std.proofs.lemmas.List.{length-append}
use Rattle.std.proofs.lemmas.List.Elements.{All-contains, Contains-append_left}
use Rattle.mp_logic.specs.Literal.{Literal, IsUpTo}
use Rattle.mp_logic.specs.EndStates.{NoUnits}
use Rattle.mp_logic.specs.Keeping.{State}
use Rattle.mp_logic.specs.Rewrites.{set_repair}
use Rattle.mp_logic.specs.declared.instances.Repair.{Repair}
use Rattle.mp_logic.proofs.Members.{Contains-none, Contains-first, Contains-cases, satisfied}
use Rattle.mp_logic.proofs.Fixed.{Bends-implied}
use Rattle.mp_clauses.specs.Places.{no_repeats}
use Rattle.mp_store.specs.Held.{Held, labelled_of, IsUntouched}
use Rattle.mp_clauses.specs.Slots.{live_clauses, has_empty}
use Rattle.mp_store.specs.Rewriting.{changed_by, refuted_by, after}
use Rattle.mp_store.specs.Soundness.{IsStore}
use Rattle.mp_store.specs.Fixing.{fixing_of}
use Rattle.mp_store.specs.Measures.{occurs, occurring, IsSmaller}
use Rattle.mp_store.specs.Techniques.{IsRun}
use Rattle.mp_store.proofs.Measured.{occurs-by}
use Rattle.mp_store.proofs.KeptFixing.{new-slots}
use Rattle.mp_store.proofs.Runs.{run-same}
use Rattle.mp_turns.specs.Turning.{IsTurning}
use Rattle.mp_turns.specs.Turned.{IsChangeOf, IsTurn}
use Rattle.mp_turns.specs.Underway.{StaysWithin}
use Rattle.mp_turns.specs.declared.turn.Turned.TheVariants.{Idle, Changed}
use Rattle.mp_turns.proofs.FixedOne.{fixing-run, costs-among, fewer-occur, fixed-smaller}
use Rattle.mp_turns.proofs.OwnIdle.{own-idle}
use Rattle.mp_turns.proofs.Replacing.{plain-after}
use Rattle.t_units.specs.Units.{LeavesVariables, unit_propagation, propagating}
use Rattle.t_units.specs.Waiting.{AreWaiting, OthersAreWaiting, HasNoUnit}
use Rattle.t_units.proofs.UnitsWaiting.{step-waiting, step-length, no-units}

leaves-itself : (s : State) → LeavesVariables s s []
leaves-itself s = record { vars = refl; costs = λ p i. i }

leaves-twice : (s t u : State) (x y : List Repair) → LeavesVariables s t x → LeavesVariables t u y → LeavesVariables s u (x ++ y)
leaves-twice s t u x y f g = record { vars = g.vars ∙ f.vars; costs = λ p i. f.costs p (g.costs p i) }

pub propagating-sound : IsTurning propagating
propagating-sound = record {
  itself = leaves-itself;
  twice = leaves-twice;
  stays_itself = λ h u e. let same : length u.repairs ≡ length h.repairs = ap (λ (x : Held). length x.repairs) e in omega arith;
  stays_twice = λ m n a b c x y. omega arith;
  counted = λ h s. refl;
  distinct = λ h s. refl;
  others = λ h i s. elim (cases_eq i 0) [ inl e ↦ inl (subst (Contains (0 ∷ [])) (sym e) (Contains-first 0 [])) | inr n ↦ inr (λ e. absurd (n e)) ];
  untouched = λ h u i e idle. subst (λ (cs : List (List Literal)). i ≡ 0 → NoUnits cs) (sym (ap (λ (x : Held). live_clauses x.slots) e)) idle;
  ended = λ h s n idle. idle 0 refl;
  idle = λ h first rest s e idle.
      own-idle unit_propagation (labelled_of h) first rest e (ap no_repeats (sym e)) (λ i m.
      elim (Contains-cases 0 [] i (subst (λ (xs : List ℕ). Contains xs i) (sym e) (Contains-append_left first rest i m))) [ inl z ↦ idle i m z | inr n ↦ absurd (Contains-none i n) ]);
}

-- the literal of a unit clause is one of the store's variables
pub unit-within : (h : Held) (l : Literal) → IsStore h → Contains (live_clauses h.slots) (l ∷ []) → IsUpTo h.vars l
unit-within h l s m = All-contains (IsUpTo h.vars) (l ∷ []) l (All-contains (All (IsUpTo h.vars)) (live_clauses h.slots) (l ∷ []) s.labelled.hard_within m) (Contains-first l [])

pub step-run : (h u : Held) (l : Literal) → IsStore h → Contains (live_clauses h.slots) (l ∷ []) → IsUntouched (after (fixing_of (l ∷ []) h) h) u → IsRun LeavesVariables h u
step-run h u l s m e =
    fixing-run LeavesVariables h u l s (unit-within h l s m) (Bends-implied (labelled_of h) l (λ a t. satisfied a (live_clauses h.slots) (l ∷ []) t m)) e (record { vars = add-zero h.vars; costs = costs-among h l })

pub untouched-run : (h u : Held) → IsUntouched h u → IsRun LeavesVariables h u
untouched-run h u e = run-same LeavesVariables h u leaves-itself e

-- each turn adds no more than one repair
pub untouched-repairs : (h u : Held) → IsUntouched h u → length u.repairs ≤ length h.repairs + 1
untouched-repairs h u e = let same : length u.repairs ≡ length h.repairs = ap (λ (x : Held). length x.repairs) e in omega arith

pub step-repairs : (h u : Held) (l : Literal) → IsUntouched (after (fixing_of (l ∷ []) h) h) u → length u.repairs ≤ length h.repairs + 1
step-repairs h u l e =
    let r = fixing_of (l ∷ []) h in
    let more : length (h.repairs ++ set_repair l (l ∷ []) ∷ []) ≡ length h.repairs + 1 = length-append h.repairs (set_repair l (l ∷ []) ∷ []) in
    let parts : (b : Bool) → length (cond b (refuted_by r h) (changed_by r h)).repairs ≡ length h.repairs + 1 =
    λ (t : Bool). elim t as (λ b. length (cond b (refuted_by r h) (changed_by r h)).repairs ≡ length h.repairs + 1) [ true ↦ more | false ↦ more ] in
    let whole : length u.repairs ≡ length h.repairs + 1 = ap (λ (x : Held). length x.repairs) e ∙ parts (has_empty r.added) in
    omega arith

step-state : (h u : Held) (l : Literal) → IsUntouched (after (fixing_of (l ∷ []) h) h) u → u.refuted ≡ false → labelled_of u ≡ labelled_of (changed_by (fixing_of (l ∷ []) h) h)
step-state h u l e n =
    let first : labelled_of u ≡ labelled_of (after (fixing_of (l ∷ []) h) h) = ap labelled_of e in
    first ∙ ap labelled_of (plain-after (fixing_of (l ∷ []) h) h u e n)

step-slots : (h u : Held) (l : Literal) → IsUntouched (after (fixing_of (l ∷ []) h) h) u → u.refuted ≡ false → u.slots ≡ new-slots l h
step-slots h u l e n =
    let first : u.slots ≡ (after (fixing_of (l ∷ []) h) h).slots = ap (λ (x : Held). x.slots) e in
    first ∙ ap (λ (x : Held). x.slots) (plain-after (fixing_of (l ∷ []) h) h u e n)

-- the unit clauses that waited wait
pub step-fits : (h u : Held) (l : Literal) (seen : ℕ) (waiting : List ℕ) → IsUntouched (after (fixing_of (l ∷ []) h) h) u → seen ≤ length h.slots → OthersAreWaiting l h.slots waiting → u.refuted ≡ false → AreWaiting u.slots seen waiting × (seen ≤ length u.slots)
step-fits h u l seen waiting e w o n = rw (step-slots h u l e n) (step-waiting h l seen waiting w o, omega (arith, step-length h l))

-- a change puts the store last again
pub step-turned : (h u : Held) (item : ℕ) (again : List ℕ) (l : Literal) → IsStore h → Contains (live_clauses h.slots) (l ∷ []) → IsUntouched (after (fixing_of (l ∷ []) h) h) u → again ≡ 0 ∷ [] → IsTurn propagating item h u again Changed
step-turned h u item again l s m e a =
    let up = unit-within h l s m in
    let there = occurs-by l.variable (live_clauses h.slots) (l ∷ []) l m (Contains-first l []) refl in
    let change : u.refuted ≡ false → IsChangeOf propagating item h u again = λ n.
    let state = step-state h u l e n in
    let P : State → Type 0 = λ t. occurring t.vars t.hard < occurring h.vars (live_clauses h.slots) in
    let Q : State → Type 0 = λ t. IsSmaller t (labelled_of h) in
    let size : occurring u.vars (live_clauses u.slots) < occurring h.vars (live_clauses h.slots) = subst P (sym state) (fewer-occur h l up there) in
    record {
      kept = λ i q. elim (cases_eq i 0) [ inl z ↦ inl (rw (a, z) (Contains-first 0 [])) | inr o ↦ inr (λ z. absurd (o z)) ];
      own = elim (cases_eq item 0) [ inl z ↦ inl (rw (a, z) (Contains-first 0 [])) | inr o ↦ inr (λ z. absurd (o z)) ];
      falls = omega arith;
      few = rw a (omega arith);
      fewer = omega arith;
      smaller = subst Q (sym state) (fixed-smaller h l up there);
    } in
    let cases : (b : Bool) → u.refuted ≡ b → (u.refuted ≡ true) ⊎ IsChangeOf propagating item h u again =
    λ (t : Bool). elim t as (λ b. u.refuted ≡ b → (u.refuted ≡ true) ⊎ IsChangeOf propagating item h u again) [ true ↦ λ f. inl f | false ↦ λ f. inr (change f) ] in
    cases u.refuted refl

-- where no unit is left
pub done-fits : (h : Held) (seen : ℕ) (waiting : List ℕ) → HasNoUnit h.slots → AreWaiting h.slots seen waiting
done-fits h seen waiting n id l b e = absurd (n id l e)

pub done-turned : (h : Held) (item : ℕ) → IsStore h → h.refuted ≡ false → HasNoUnit h.slots → IsTurn propagating item h h [] Idle
done-turned h item s u n = (refl, refl, λ z. no-units h s u n)

-- what the turns of a budget add
pub repairs-within : (budget : Option ℕ) (h u : Held) → StaysWithin propagating budget h u → IfSome budget (λ b. length u.repairs ≤ length h.repairs + b)
repairs-within None h u w = tt
repairs-within (Some b) h u w = let few = w.within in let came = w.stays in omega arith
