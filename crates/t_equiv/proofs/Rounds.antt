-- Equivalent literals by turns.
use Rattle.std.proofs.Common.{◌≡◌, ◌≢◌, ℕ, ◌+◌, ◌<◌, ◌≤◌, false, List, [], ◌∷◌, length, map, All, Contains, refl, ap, sym, ◌∙◌, subst, arith, inl, inr, add-zero}
use Rattle.std.proofs.lemmas.Bool.{cases_eq, cases_Bool}
use Rattle.std.proofs.lemmas.List.Elements.{Contains-append_left}
use Rattle.mp_logic.specs.Literal.{Literal}
use Rattle.mp_logic.specs.Keeping.{State}
use Rattle.mp_logic.specs.Labelled.{AreApart}
use Rattle.mp_logic.specs.Sets.{IsWith}
use Rattle.mp_logic.proofs.General.{adding_keeps}
use Rattle.mp_logic.proofs.Members.{Contains-first, Contains-none, Contains-cases, Contains-one, All-from_contained}
use Rattle.mp_clauses.specs.Places.{no_repeats}
use Rattle.mp_clauses.specs.Slots.{live_clauses}
use Rattle.mp_clauses.specs.Weighing.{costs_of}
use Rattle.mp_store.specs.Held.{Held, labelled_of, IsUntouched}
use Rattle.mp_store.specs.Rewriting.{after, changed_by, weights_after}
use Rattle.mp_store.specs.Soundness.{IsStore}
use Rattle.mp_store.specs.Measures.{occurring, IsSmaller}
use Rattle.mp_store.specs.Replacing.{replaced}
use Rattle.mp_store.specs.Techniques.{IsRun}
use Rattle.mp_store.proofs.KeptFixing.{live-at, live-id}
use Rattle.mp_store.proofs.Replaced.{replaced_clauses}
use Rattle.mp_store.proofs.Rewritten.{run-after}
use Rattle.mp_store.proofs.Runs.{run-same}
use Rattle.mp_store.proofs.Sound.{after-store}
use Rattle.mp_turns.specs.Clauses.{replacing}
use Rattle.mp_turns.specs.Turning.{IsTurning}
use Rattle.mp_turns.specs.Turned.{IsChangeOf, IsTurn}
use Rattle.mp_turns.specs.declared.turn.Turned.TheVariants.{Idle, Changed}
use Rattle.mp_turns.proofs.OwnIdle.{own-idle}
use Rattle.mp_turns.proofs.Replacing.{replacing-run, plain-after}
use Rattle.t_equiv.specs.Implications.{AreNumbers}
use Rattle.t_equiv.specs.Images.{AreImages, HasOpposite, NoneOpposite, AreReplaced}
use Rattle.t_equiv.specs.Substitutions.{AreSound, AreReplacedIn}
use Rattle.t_equiv.specs.Equivalences.{NoEquivalent, LeavesVariables, equivalent_literals, substituting}
use Rattle.t_equiv.proofs.Classes.{Classes, known, substitution, image-values, image-lower, opposite-refutes, none-replaced}
use Rattle.t_equiv.proofs.ImageClauses.{map-has}
use Rattle.t_equiv.proofs.Kept.{rewrite-keeps, rewrite-valid}
use Rattle.t_equiv.proofs.Shrunk.{Turned, fewer-occur, turned-smaller}

pub substituting-sound : IsTurning substituting
substituting-sound = record {
  itself = λ s. record { vars = refl };
  twice = λ a b c x y f g. record { vars = g.vars ∙ f.vars };
  stays_itself = λ h u e. tt;
  stays_twice = λ m n a b c x y. tt;
  counted = λ h s. refl;
  distinct = λ h s. refl;
  others = λ h i s. elim (cases_eq i 0) [ inl e ↦ inl (subst (Contains (0 ∷ [])) (sym e) (Contains-first 0 [])) | inr n ↦ inr (λ e. absurd (n e)) ];
  untouched = λ h u i e idle. subst (λ (cs : List (List Literal)). i ≡ 0 → NoEquivalent cs) (sym (ap (λ (x : Held). live_clauses x.slots) e)) idle;
  ended = λ h s n idle. idle 0 refl;
  idle = λ h first rest s e idle.
      own-idle equivalent_literals (labelled_of h) first rest e (ap no_repeats (sym e)) (λ i m.
      elim (Contains-cases 0 [] i (subst (λ (xs : List ℕ). Contains xs i) (sym e) (Contains-append_left first rest i m))) [ inl z ↦ idle i m z | inr n ↦ absurd (Contains-none i n) ]);
}

pub untouched-run : (h u : Held) → IsUntouched h u → IsRun LeavesVariables h u
untouched-run h u e = run-same LeavesVariables h u substituting-sound.itself e

-- what the numbers and the images of a turn are
pub made-classes : (h : Held) (ns : List ℕ) (im : List Literal) → IsStore h → AreNumbers h.vars (live_clauses h.slots) ns → AreImages ns im → NoneOpposite h.vars ns → Classes h.vars (live_clauses h.slots) ns im
made-classes h ns im s n i o = record { within = s.labelled.hard_within; numbers = n; images = i; none = o }

pub made-sound : (h : Held) (ns : List ℕ) (im : List Literal) (vs : List ℕ) → Classes h.vars (live_clauses h.slots) ns im → AreReplaced h.vars im vs → AreSound h.vars (live_clauses h.slots) im vs
made-sound h ns im vs c r = record {
  substitution = substitution h.vars (live_clauses h.slots) ns im vs c r;
  known = λ l u. known h.vars (live_clauses h.slots) ns im l c u;
  lower = λ v i. let w = r.only v i in (w.up.1, image-lower h.vars (live_clauses h.slots) ns im v c w.up w.moved);
  values = image-values (labelled_of h) ns im c;
}

-- a turn that refutes
pub refuted-run : (h u : Held) (ns : List ℕ) → AreNumbers h.vars (live_clauses h.slots) ns → HasOpposite h.vars ns → IsUntouched (after (replacing [] ([] ∷ []) []) h) u → IsRun LeavesVariables h u
refuted-run h u ns n o e =
    let all = replaced_clauses [] ([] ∷ []) h.slots in
    let with : IsWith [] (live_clauses h.slots) (live_clauses (replaced [] ([] ∷ []) h.slots)) = record {
      rest = λ c m. let at = live-id h.slots c m in all.kept at.0 c at.1 refl;
      own = all.come [] (Contains-first [] []);
      only = λ c m. elim (all.only c m) [ inl k ↦ inl (live-at h.slots k.0 c k.1) | inr i ↦ inr (Contains-one [] c i) ];
    } in
    let keeps = adding_keeps (labelled_of h) [] (live_clauses (replaced [] ([] ∷ []) h.slots)) with (opposite-refutes h.vars (live_clauses h.slots) ns o.0 n o.1 o.2) in
    replacing-run LeavesVariables [] ([] ∷ []) [] h u e keeps (record { vars = refl })

pub refuted-turned : (h u : Held) (item : ℕ) (again : List ℕ) → IsUntouched (after (replacing [] ([] ∷ []) []) h) u → IsTurn substituting item h u again Changed
refuted-turned h u item again e = inl (ap (λ (x : Held). x.refuted) e)

-- a turn that changes nothing
pub done-turned : (h : Held) (ns : List ℕ) (im : List Literal) (vs again : List ℕ) (item : ℕ) → Classes h.vars (live_clauses h.slots) ns im → AreReplaced h.vars im vs → vs ≡ [] → again ≡ [] → IsTurn substituting item h h again Idle
done-turned h ns im vs again item c r e a = (refl, a, λ z. none-replaced h.vars (live_clauses h.slots) ns im c (subst (AreReplaced h.vars im) e r))

-- a turn that replaces literals
pub replaced-run : (h u : Held) (im : List Literal) (vs : List ℕ) → IsStore h → AreSound h.vars (live_clauses h.slots) im vs → AreReplacedIn im vs h u → IsRun LeavesVariables h u
replaced-run h u im vs s a d =
    let vars : h.vars + d.rewrite.fresh ≡ h.vars = ap (λ n. h.vars + n) d.is.fresh ∙ add-zero h.vars in
    run-after LeavesVariables d.rewrite h u d.applied (rewrite-keeps im vs h d.rewrite s a d.is) (record { vars = vars })

pub replaced-turned : (h u : Held) (ns : List ℕ) (im : List Literal) (vs again : List ℕ) (item : ℕ) → IsStore h → h.refuted ≡ false → Classes h.vars (live_clauses h.slots) ns im → AreReplaced h.vars im vs → vs ≢ [] → AreReplacedIn im vs h u → again ≡ 0 ∷ [] → IsTurn substituting item h u again Changed
replaced-turned h u ns im [] again item s n c r some d a = absurd (some refl)
replaced-turned h u ns im (v ∷ vs) again item s n c r some d a =
    let k = d.rewrite in
    let sound = made-sound h ns im (v ∷ vs) c r in
    let t : Turned h ns im (v ∷ vs) v k = record { store = s; unrefuted = n; classes = c; replaced = r; one = Contains-first v vs; sound = sound; is = d.is } in
    let change : u.refuted ≡ false → IsChangeOf substituting item h u again = λ f.
    let plain = plain-after k h u d.applied f in
    let state : labelled_of u ≡ labelled_of (changed_by k h) = ap labelled_of d.applied ∙ ap labelled_of plain in
    let store : IsStore (changed_by k h) = subst IsStore plain (after-store k h s n (rewrite-valid im (v ∷ vs) h k s sound d.is)) in
    let apart : AreApart (costs_of (weights_after k h)) = store.labelled.costs_apart in
    let P : State → Type 0 = λ t. occurring t.vars t.hard < occurring h.vars (live_clauses h.slots) in
    let Q : State → Type 0 = λ t. IsSmaller t (labelled_of h) in
    let size : occurring u.vars (live_clauses u.slots) < occurring h.vars (live_clauses h.slots) = subst P (sym state) (fewer-occur im h ns (v ∷ vs) v k t) in
    record {
      kept = λ i q. elim (cases_eq i 0) [ inl z ↦ inl (rw (a, z) (Contains-first 0 [])) | inr o ↦ inr (λ z. absurd (o z)) ];
      own = elim (cases_eq item 0) [ inl z ↦ inl (rw (a, z) (Contains-first 0 [])) | inr o ↦ inr (λ z. absurd (o z)) ];
      falls = omega arith;
      few = rw a (omega arith);
      fewer = omega arith;
      smaller = subst Q (sym state) (turned-smaller im h ns (v ∷ vs) v k t apart);
    } in
    elim (cases_Bool u.refuted) [ inl t ↦ inl t | inr f ↦ inr (change f) ]

no-pairs : (ps : List (ℕ × ℕ)) → length ps ≡ 0 → map (λ (p : ℕ × ℕ). p.1) ps ≡ []
no-pairs [] e = refl
no-pairs (p ∷ ps) e = absurd (omega arith)

some-pairs : (ps : List (ℕ × ℕ)) → length ps ≢ 0 → map (λ (p : ℕ × ℕ). p.1) ps ≢ []
some-pairs [] n e = n refl
some-pairs (p ∷ ps) n e = let l : length (p.1 ∷ map (λ (p : ℕ × ℕ). p.1) ps) ≡ 0 = ap length e in absurd (omega arith)

-- what a turn has in hand: its numbers, images and replaced variables, as they were passed on
pub record AtHand (h : Held) (v : ℕ) (ns ns1 ns2 : List ℕ) (im im1 : List Literal) (ps : List (ℕ × ℕ)) : Type 0 where
  pub store : IsStore h
  pub vars : v ≡ h.vars
  pub numbers : AreNumbers h.vars (live_clauses h.slots) ns
  pub first : ns1 ≡ ns
  pub second : ns2 ≡ ns
  pub none : NoneOpposite v ns1
  pub images : AreImages ns2 im
  pub slice : im1 ≡ im
  pub replaced : AreReplaced v im1 (map (λ (p : ℕ × ℕ). p.1) ps)

pub hand-classes : (h : Held) (v : ℕ) (ns ns1 ns2 : List ℕ) (im im1 : List Literal) (ps : List (ℕ × ℕ)) → AtHand h v ns ns1 ns2 im im1 ps → Classes h.vars (live_clauses h.slots) ns im
hand-classes h v ns ns1 ns2 im im1 ps a = made-classes h ns im a.store a.numbers (subst (λ (x : List ℕ). AreImages x im) a.second a.images) (subst (λ (x : List ℕ). NoneOpposite h.vars x) a.first (subst (λ x. NoneOpposite x ns1) a.vars a.none))

pub hand-replaced : (h : Held) (v : ℕ) (ns ns1 ns2 : List ℕ) (im im1 : List Literal) (ps : List (ℕ × ℕ)) → AtHand h v ns ns1 ns2 im im1 ps → AreReplaced h.vars im (map (λ (p : ℕ × ℕ). p.1) ps)
hand-replaced h v ns ns1 ns2 im im1 ps a = subst (λ (x : List Literal). AreReplaced h.vars x (map (λ (p : ℕ × ℕ). p.1) ps)) a.slice (subst (λ x. AreReplaced x im1 (map (λ (p : ℕ × ℕ). p.1) ps)) a.vars a.replaced)

pub hand-sound : (h : Held) (v : ℕ) (ns ns1 ns2 : List ℕ) (im im1 im2 : List Literal) (ps qs : List (ℕ × ℕ)) → im2 ≡ im → qs ≡ ps → AtHand h v ns ns1 ns2 im im1 ps → AreSound h.vars (live_clauses h.slots) im2 (map (λ (p : ℕ × ℕ). p.1) qs)
hand-sound h v ns ns1 ns2 im im1 im2 ps qs e f a = rw (e, f) (made-sound h ns im (map (λ (p : ℕ × ℕ). p.1) ps) (hand-classes h v ns ns1 ns2 im im1 ps a) (hand-replaced h v ns ns1 ns2 im im1 ps a))

pub hand-done : (h : Held) (v : ℕ) (ns ns1 ns2 : List ℕ) (im im1 : List Literal) (ps : List (ℕ × ℕ)) (again : List ℕ) (item : ℕ) → AtHand h v ns ns1 ns2 im im1 ps → length ps ≡ 0 → again ≡ [] → IsTurn substituting item h h again Idle
hand-done h v ns ns1 ns2 im im1 ps again item a n e = done-turned h ns im (map (λ (p : ℕ × ℕ). p.1) ps) again item (hand-classes h v ns ns1 ns2 im im1 ps a) (hand-replaced h v ns ns1 ns2 im im1 ps a) (no-pairs ps n) e

pub hand-turned : (h u : Held) (v : ℕ) (ns ns1 ns2 : List ℕ) (im im1 im2 : List Literal) (ps qs : List (ℕ × ℕ)) (again : List ℕ) (item : ℕ) → h.refuted ≡ false → im2 ≡ im → qs ≡ ps → AtHand h v ns ns1 ns2 im im1 ps → length ps ≢ 0 → AreReplacedIn im2 (map (λ (p : ℕ × ℕ). p.1) qs) h u → again ≡ 0 ∷ [] → IsTurn substituting item h u again Changed
hand-turned h u v ns ns1 ns2 im im1 im2 ps qs again item r e f a n d g =
    let vs = map (λ (p : ℕ × ℕ). p.1) ps in
    let d1 : AreReplacedIn im (map (λ (p : ℕ × ℕ). p.1) qs) h u = subst (λ (x : List Literal). AreReplacedIn x (map (λ (p : ℕ × ℕ). p.1) qs) h u) e d in
    let d2 : AreReplacedIn im vs h u = subst (λ (x : List (ℕ × ℕ)). AreReplacedIn im (map (λ (p : ℕ × ℕ). p.1) x) h u) f d1 in
    replaced-turned h u ns im vs again item a.store r (hand-classes h v ns ns1 ns2 im im1 ps a) (hand-replaced h v ns ns1 ns2 im im1 ps a) (some-pairs ps n) d2 g

pub opposite-here : (v w : ℕ) (ns ms : List ℕ) → w ≡ v → ms ≡ ns → HasOpposite w ms → HasOpposite v ns
opposite-here v w ns ms e f o = subst (λ x. HasOpposite x ns) e (subst (λ (x : List ℕ). HasOpposite w x) f o)

-- the variables of the pairs are from 1
pub pairs-known : (ps : List (ℕ × ℕ)) → ((v : ℕ) → Contains (map (λ (p : ℕ × ℕ). p.1) ps) v → 1 ≤ v) → All (λ (p : ℕ × ℕ). 1 ≤ p.1) ps
pairs-known ps h = All-from_contained (λ (p : ℕ × ℕ). 1 ≤ p.1) ps (λ p i. h p.1 (map-has (λ (p : ℕ × ℕ). p.1) ps p i))
