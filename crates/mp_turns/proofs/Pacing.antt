-- What a turn leaves of a technique under way.
use Rattle.std.proofs.Common.{◌≡◌, ◌⊎◌, ℕ, ◌+◌, ◌*◌, ◌-◌, ◌<◌, ◌≤◌, Bool, true, false, List, [], ◌∷◌, ◌++◌, Contains, get_or, length, length-append, append_assoc, suc, refl, sym, ◌∙◌, ap, subst, arith, inl, inr}
use Rattle.std.specs.Prelude.{Option, Some, None, IfSome}
use Rattle.std.proofs.lemmas.Bool.{true≢false, cases_eq}
use Rattle.std.proofs.lemmas.List.{get_or_default}
use Rattle.std.proofs.lemmas.List.Elements.{Contains-push_cases}
use Rattle.std.proofs.Math.Nat.{mul-add, mul-le-mul_right}
use Rattle.mp_logic.specs.Keeping.{State}
use Rattle.mp_logic.proofs.Members.{Contains-none, Contains-first, Contains-cases}
use Rattle.mp_store.specs.Held.{Held, labelled_of, IsUntouched}
use Rattle.mp_store.specs.Measures.{IsSmaller}
use Rattle.mp_store.specs.Soundness.{IsStore}
use Rattle.mp_store.specs.Techniques.{HasIdle, IsRun, IsAnswer}
use Rattle.mp_store.specs.Turns.{IsBetween, IsLeft, has_turn, one_less}
use Rattle.mp_store.specs.declared.ran.Ending.TheVariants.{Finished, Spent, NoRoom}
use Rattle.mp_store.proofs.Runs.{run-same, run-more, none-empty, between-none, between-more, between-same, between-spent, untouched-twice, untouched-back, left-whole, left-spent}
use Rattle.mp_turns.specs.Turning.{Turning, IsTurning}
use Rattle.mp_turns.specs.Turned.{IsChangeOf}
use Rattle.mp_turns.specs.Waiting.{all_queued}
use Rattle.mp_turns.specs.Underway.{StaysWithin, IsUnderway, AreAwake}
use Rattle.mp_turns.proofs.Queueing.{queued-all-waits, queued-all-own, length-all-queued, queued-all-first}

pub same-state : (s h : Held) → IsUntouched s h → labelled_of h ≡ labelled_of s
same-state s h f = ap (λ (x : Held). labelled_of x) f

waits-fewer : (n m now new rest again queue : ℕ) → m ≤ n → again ≤ m * (now - new) → queue ≤ rest + again → queue + 1 ≤ suc rest + n * (now - new)
waits-fewer n m now new rest again queue fewer few len =
    let wider : m * (now - new) ≤ n * (now - new) = mul-le-mul_right (now - new) fewer in
    omega (arith, wider)

potential-falls : (n m now new rest again queue : ℕ) → m ≤ n → new ≤ now → again ≤ m * (now - new) → queue ≤ rest + again → n * new + queue < n * now + suc rest
potential-falls n m now new rest again queue fewer lower few len =
    let wider : m * (now - new) ≤ n * (now - new) = mul-le-mul_right (now - new) fewer in
    let whole : now ≡ new + (now - new) = omega arith in
    let split : n * now ≡ n * new + n * (now - new) = ap (λ k. n * k) whole ∙ mul-add n new (now - new) in
    omega (arith, wider, split)

left-within : (budget left : Option ℕ) (used : ℕ) → IsLeft budget used left → IfSome budget (λ b. used ≤ b)
left-within None left used e = tt
left-within (Some b) left used e = e.1

-- before the first turn
pub stays-none : (t : Turning) (budget : Option ℕ) (s u : Held) → IsTurning t → IsUntouched s u → StaysWithin t budget s u
stays-none t budget s u T e = record { turns = 0; within = left-within budget budget 0 (left-whole budget); stays = T.stays_itself s u e }

-- between two turns
pub stays-so-far : (t : Turning) (budget left : Option ℕ) (s h : Held) (queue : List ℕ) (changed : Bool) → IsUnderway t budget left s h queue changed → StaysWithin t budget s h
stays-so-far t budget left s h queue changed b = record { turns = b.turns; within = left-within budget left b.turns b.spent; stays = b.stays }

-- after one turn more
pub stays-turned : (t : Turning) (budget left : Option ℕ) (s h u : Held) (queue : List ℕ) (changed : Bool) → IsTurning t → IsUnderway t budget left s h queue changed → has_turn left ≡ true → t.stays 1 h u → StaysWithin t budget s u
stays-turned t budget left s h u queue changed T b sp e = record {
  turns = b.turns + 1;
  within = left-within budget (one_less left) (b.turns + 1) (left-spent budget left b.turns b.spent sp);
  stays = T.stays_twice b.turns 1 s h u b.stays e;
}

pub run-itself : (t : Turning) (s : Held) → IsTurning t → IsRun t.technique.LeavesAlone s s
run-itself t s T = run-same t.technique.LeavesAlone s s T.itself refl

pub run-turned : (t : Turning) (budget left : Option ℕ) (s h u : Held) (queue : List ℕ) (changed : Bool) → IsTurning t → IsStore h → IsUnderway t budget left s h queue changed → IsRun t.technique.LeavesAlone h u → IsRun t.technique.LeavesAlone s u
run-turned t budget left s h u queue changed T sound b r = run-more t.technique.LeavesAlone s h u T.twice (none-empty h sound b.between.unrefuted) b.between.run r

pub underway-begin : (t : Turning) (budget : Option ℕ) (s : Held) (queue : List ℕ) → IsTurning t → IsStore s → s.refuted ≡ false → queue ≡ all_queued [] (t.candidates s) → IsUnderway t budget budget s s queue false
underway-begin t budget s queue T sound n e =
    let whole : queue ≡ t.candidates s = e ∙ queued-all-first (t.candidates s) (T.distinct s sound) in
    let many : length queue ≡ length (t.technique.candidates (labelled_of s)) = ap (λ (q : List ℕ). length q) whole ∙ T.counted s sound in
    let P : ℕ → Type 0 = λ k. (b : IsBetween t.technique budget budget s s false k) × (b.used ≡ 0) in
    let w = subst P (sym many) (between-none t.technique budget s T.itself n) in
    record {
      between = w.0;
      turns = 0;
      spent = left-whole budget;
      stays = T.stays_itself s s refl;
      covers = λ i. elim (T.others s i sound) [ inl m ↦ inl (subst (λ q. Contains q i) (sym whole) m) | inr r ↦ inr r ];
      fewer = omega arith;
      first = λ f n some. ([], sym whole, sym w.1, λ i h. absurd (Contains-none i h));
    }

-- without a budget only those need to wait that are not known to be idle
pub underway-awake : (t : Turning) (s : Held) (queue : List ℕ) → IsTurning t → IsStore s → s.refuted ≡ false → AreAwake t s queue → IsUnderway t None None s s queue false
underway-awake t s queue T sound n a =
    let few = a.few in
    let counted = T.counted s sound in
    let w = between-none t.technique None s T.itself n in
    let bound = w.0.paced.bound in
    record {
      between = record {
        run = w.0.run;
        unrefuted = w.0.unrefuted;
        change = w.0.change;
        used = 0;
        paced = record { left = w.0.paced.left; falls = w.0.paced.falls; bound = omega (arith, bound, w.1, few, counted) };
      };
      turns = 0;
      spent = left-whole None;
      stays = T.stays_itself s s refl;
      covers = λ i. elim (T.others s i sound) [ inl m ↦ a.covers i m | inr r ↦ inr r ];
      fewer = omega arith;
      first = λ f m some. absurd (cc);
    }

-- a turn that changes nothing
pub underway-idle : (t : Turning) (budget left : Option ℕ) (s h u : Held) (item : ℕ) (rest : List ℕ) (changed : Bool) → IsTurning t → IsUnderway t budget left s h (item ∷ rest) changed → IsStore h → has_turn left ≡ true → IsUntouched h u → t.IsIdle h item → t.stays 1 h u → IsUnderway t budget (one_less left) s u rest changed
underway-idle t budget left s h u item rest changed T b sound sp e idle turned =
    let stays : (i : ℕ) → t.IsIdle h i → t.IsIdle u i = λ i r. T.untouched h u i e r in
    let labels : labelled_of u ≡ labelled_of h = same-state h u e in
    let w = between-same t.technique budget left s h u changed (length (item ∷ rest)) (length rest) T.twice T.itself b.between sound sp e (omega arith) in
    record {
      between = w.0;
      turns = b.turns + 1;
      spent = left-spent budget left b.turns b.spent sp;
      stays = T.stays_twice b.turns 1 s h u b.stays turned;
      covers = λ i. elim (b.covers i) [
        | inl m ↦ elim (Contains-cases item rest i m) [ inl g ↦ inr (subst (t.IsIdle u) (sym g) (stays item idle)) | inr v ↦ inl v ]
        | inr r ↦ inr (stays i r)
      ];
      fewer = subst (λ (x : State). length (t.technique.candidates x) ≤ length (t.technique.candidates (labelled_of s))) (sym labels) b.fewer;
      first = λ f n some.
          let was = b.first f n some in
          let own : t.IsIdle s item = T.untouched h s item (untouched-back s h (b.between.change.same f)) idle in
          (was.0 ++ item ∷ [], was.1 ∙ sym (append_assoc was.0 (item ∷ []) rest), length-append was.0 (item ∷ []) ∙ (ap (λ n. n + 1) was.2 ∙ sym w.1), λ i m. elim (Contains-push_cases was.0 item i m) [ inl v ↦ was.3 i v | inr g ↦ subst (t.IsIdle s) g own ]);
    }

-- a turn that changes something
pub underway-change : (t : Turning) (budget left : Option ℕ) (s h u : Held) (item : ℕ) (rest again queue : List ℕ) (changed : Bool) → IsTurning t → IsUnderway t budget left s h (item ∷ rest) changed → IsStore h → has_turn left ≡ true → IsRun t.technique.LeavesAlone h u → u.refuted ≡ false → (u.refuted ≡ true) ⊎ IsChangeOf t item h u again → queue ≡ all_queued rest again → t.stays 1 h u → IsUnderway t budget (one_less left) s u queue true
underway-change t budget left s h u item rest again queue changed T b sound sp r n what e turned =
    let c : IsChangeOf t item h u again = elim what [ inl f ↦ absurd (cc) | inr g ↦ g ] in
    let d : ℕ = t.technique.size (labelled_of h) - t.technique.size (labelled_of u) in
    let len : length queue ≤ length rest + length again = rw e (length-all-queued rest again) in
    let more : length queue + 1 ≤ length (item ∷ rest) + length (t.technique.candidates (labelled_of s)) * d = waits-fewer (length (t.technique.candidates (labelled_of s))) (length (t.technique.candidates (labelled_of h))) (t.technique.size (labelled_of h)) (t.technique.size (labelled_of u)) (length rest) (length again) (length queue) b.fewer c.few len in
    record {
      between = between-more t.technique budget left s h u changed (length (item ∷ rest)) (length queue) d T.twice b.between sound sp r n c.smaller (let falls = c.falls in omega arith) more;
      turns = b.turns + 1;
      spent = left-spent budget left b.turns b.spent sp;
      stays = T.stays_twice b.turns 1 s h u b.stays turned;
      covers = λ i. elim (b.covers i) [
        | inl w ↦ elim (Contains-cases item rest i w) [
          | inl g ↦ elim c.own [ inl a ↦ inl (rw (e, g) (queued-all-own rest again item a)) | inr a ↦ inr (subst (t.IsIdle u) (sym g) a) ]
          | inr v ↦ inl (rw e (queued-all-waits rest again i v))
        ]
        | inr q ↦ elim (c.kept i q) [ inl a ↦ inl (rw e (queued-all-own rest again i a)) | inr a ↦ inr a ]
      ];
      fewer = omega (arith, b.fewer, c.fewer);
      first = λ f. absurd (cc);
    }

pub underway-smaller : (t : Turning) (budget left : Option ℕ) (s h u : Held) (item : ℕ) (rest again queue : List ℕ) (changed : Bool) → IsUnderway t budget left s h (item ∷ rest) changed → u.refuted ≡ false → (u.refuted ≡ true) ⊎ IsChangeOf t item h u again → queue ≡ all_queued rest again → length (t.technique.candidates (labelled_of s)) * t.technique.size (labelled_of u) + length queue < length (t.technique.candidates (labelled_of s)) * t.technique.size (labelled_of h) + length (item ∷ rest)
underway-smaller t budget left s h u item rest again queue changed b n what e =
    let c : IsChangeOf t item h u again = elim what [ inl f ↦ absurd (cc) | inr g ↦ g ] in
    let len : length queue ≤ length rest + length again = rw e (length-all-queued rest again) in
    potential-falls (length (t.technique.candidates (labelled_of s))) (length (t.technique.candidates (labelled_of h))) (t.technique.size (labelled_of h)) (t.technique.size (labelled_of u)) (length rest) (length again) (length queue) b.fewer c.falls c.few len

-- where there is a budget and nothing changed so many candidates are idle
underway-first : (t : Turning) (budget left : Option ℕ) (s h : Held) (queue : List ℕ) (changed : Bool) → IsTurning t → IsStore s → (b : IsUnderway t budget left s h queue changed) → (n : ℕ) → budget ≡ Some n → changed ≡ false → HasIdle t.technique (labelled_of h) b.between.used
underway-first t budget left s h queue changed T start b n some f =
    let was = b.first f n some in
    let first : HasIdle t.technique (labelled_of s) b.between.used = subst (HasIdle t.technique (labelled_of s)) was.2 (T.idle s was.0 queue start was.1 was.3) in
    subst (λ (x : State). HasIdle t.technique x b.between.used) (sym (same-state s h (b.between.change.same f))) first

-- where no turn is left there is a budget
some-budget : (budget left : Option ℕ) (used : ℕ) → IsLeft budget used left → has_turn left ≡ false → (n : ℕ) × (budget ≡ Some n)
some-budget None left used e none = absurd (true≢false (sym (ap has_turn e) ∙ none))
some-budget (Some n) left used e none = (n, refl)

-- the budget is used up, and a candidate waits
pub underway-spent : (t : Turning) (budget left : Option ℕ) (s h : Held) (item : ℕ) (rest : List ℕ) (changed : Bool) → IsTurning t → IsStore s → IsUnderway t budget left s h (item ∷ rest) changed → IsStore h → has_turn left ≡ false → IsAnswer t.technique budget s h (record { ending = Spent; changed = changed })
underway-spent t budget left s h item rest changed T start b sound none =
    let n = some-budget budget left b.turns b.spent none in
    record {
      change = b.between.change;
      ending = between-spent t.technique budget left s h changed (length (item ∷ rest)) b.between sound none (omega arith) (underway-first t budget left s h (item ∷ rest) changed T start b n.0 n.1);
    }

-- no candidate waits
pub underway-done : (t : Turning) (budget left : Option ℕ) (s h : Held) (changed : Bool) → IsTurning t → IsStore h → IsUnderway t budget left s h [] changed → IsAnswer t.technique budget s h (record { ending = Finished; changed = changed })
underway-done t budget left s h changed T sound b = record {
  change = b.between.change;
  ending = inr (T.ended h sound b.between.unrefuted (λ i. elim (b.covers i) [ inl w ↦ absurd (Contains-none i w) | inr r ↦ r ]));
}

-- a clause is empty
pub underway-refuted : (t : Turning) (budget : Option ℕ) (s u : Held) → IsStore u → u.refuted ≡ true → IsAnswer t.technique budget s u (record { ending = Finished; changed = true })
underway-refuted t budget s u sound r = record {
  change = record { same = λ e. absurd (cc); smaller = λ e. inl r };
  ending = inl (rw (sound.alone r).0 (Contains-first [] []));
}

-- there is no room for a variable
pub underway-full : (t : Turning) (budget left : Option ℕ) (s h u : Held) (queue : List ℕ) (changed : Bool) → IsUnderway t budget left s h queue changed → IsUntouched h u → t.technique.WantsRoom (labelled_of u) → u.vars ≡ u.inner → IsAnswer t.technique budget s u (record { ending = NoRoom; changed = changed })
underway-full t budget left s h u queue changed b e wants full =
    let labels : labelled_of u ≡ labelled_of h = same-state h u e in
    record {
      change = record {
        same = λ f. let before = b.between.change.same f in untouched-twice s h u before e;
        smaller = λ f. elim (b.between.change.smaller f) [ inl r ↦ inl (ap (λ (x : Held). x.refuted) e ∙ r) | inr k ↦ inr (subst (λ (x : State). IsSmaller x (labelled_of s)) (sym labels) k) ];
      };
      ending = (wants, full);
    }

-- one candidate more that waits or is idle
pub awake-more : (t : Turning) (h : Held) (first old new : List ℕ) (n item : ℕ) → item ≡ get_or first n 0 → ((k : ℕ) → k < n → Contains old (get_or first k 0) ⊎ t.IsIdle h (get_or first k 0)) → ((i : ℕ) → Contains old i → Contains new i) → Contains new item ⊎ t.IsIdle h item → (k : ℕ) → k < n + 1 → Contains new (get_or first k 0) ⊎ t.IsIdle h (get_or first k 0)
awake-more t h first old new n item at before waits own k lt =
    elim (cases_eq k n) [
      | inl e ↦ subst (λ i. Contains new i ⊎ t.IsIdle h i) (at ∙ ap (λ j. get_or first j 0) (sym e)) own
      | inr other ↦ elim (before k (omega (arith, lt, other))) [ inl m ↦ inl (waits (get_or first k 0) m) | inr r ↦ inr r ]
    ]

pub all-awake : (t : Turning) (h : Held) (first queue : List ℕ) (n : ℕ) → first ≡ t.candidates h → length first ≤ n → n ≤ length first → ((k : ℕ) → k < n → Contains queue (get_or first k 0) ⊎ t.IsIdle h (get_or first k 0)) → length queue ≤ n → AreAwake t h queue
all-awake t h first queue n e low high each few =
    let same : length first ≡ length (t.candidates h) = ap (λ (q : List ℕ). length q) e in
    record {
      covers = λ i m.
          let there : Contains first i = subst (λ q. Contains q i) (sym e) m in
          let lt = there.1 in
          let at : get_or first there.0 0 ≡ i = get_or_default first there.0 0 i there.1 ∙ there.2 in
          subst (λ j. Contains queue j ⊎ t.IsIdle h j) at (each there.0 (omega (arith, lt, low)));
      few = omega (arith, few, high, same);
    }
