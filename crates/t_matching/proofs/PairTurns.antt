-- Techniques on pairs of labels under way: of each pair that is left, one of both waits for its turn.
use Rattle.std.proofs.Common.{◌≡◌, ◌⊎◌, ℕ, ◌+◌, ◌*◌, ◌<◌, ◌≤◌, Bool, true, false, List, [], ◌∷◌, ◌++◌, Contains, length, length-append, append_assoc, suc, refl, sym, ◌∙◌, ap, subst, arith, inl, inr, map}
use Rattle.std.specs.Prelude.{Option}
use Rattle.std.proofs.lemmas.List.Elements.{Contains-push_cases}
use Rattle.std.proofs.Math.Nat.{mul-suc}
use Rattle.mp_logic.specs.Literal.{Literal}
use Rattle.mp_logic.specs.Keeping.{State}
use Rattle.mp_logic.specs.declared.instances.Cost.{Cost}
use Rattle.mp_logic.specs.declared.instances.Repair.{Repair}
use Rattle.mp_logic.proofs.Members.{Contains-none, Contains-cases}
use Rattle.mp_clauses.specs.Places.{place_of, literal_at, no_repeats}
use Rattle.mp_clauses.proofs.Pricing.{literal-place}
use Rattle.mp_store.specs.Held.{Held, labelled_of, IsUntouched}
use Rattle.mp_store.specs.Measures.{IsSmaller}
use Rattle.mp_store.specs.Soundness.{IsStore}
use Rattle.mp_store.specs.Techniques.{HasIdle, IsRun, IsAnswer}
use Rattle.mp_store.specs.Turns.{IsBetween, has_turn, one_less}
use Rattle.mp_store.specs.declared.ran.Ending.TheVariants.{Finished, Spent}
use Rattle.mp_store.proofs.Runs.{run-more, none-empty, between-none, between-more, between-same, between-spent}
use Rattle.mp_turns.proofs.OwnIdle.{own-idle}
use Rattle.t_matching.specs.LabelPairs.{label_places, InNoPair, on_pairs}
use Rattle.t_matching.proofs.LabelPlaces.{label-once, cost-listed}

-- what such pairs owe: both have costs, and they are pairs either way round
pub record ArePairs (P : Literal → Literal → State → Type 0) : Type 0 where
  pub cost : (a b : Literal) (s : State) → P a b s → (w : ℕ) × Contains s.costs (record { lit = a; weight = w })
  pub turned : (a b : Literal) (s : State) → P a b s → P b a s

-- what leaving alone owes
pub record IsLeaving (L : State → State → List Repair → Type 0) : Type 0 where
  pub itself : (s : State) → L s s []
  pub twice : (a b c : State) (x y : List Repair) → L a b x → L b c y → L a c (x ++ y)

-- of each pair one waits
abbrev pub AreCovered : (Literal → Literal → State → Type 0) → List ℕ → State → Type 0
AreCovered P queue s = (a b : Literal) → P a b s → Contains queue (place_of a) ⊎ Contains queue (place_of b)

pub record ArePairsUnderway (P : Literal → Literal → State → Type 0) (L : State → State → List Repair → Type 0) (budget left : Option ℕ) (old now : Held) (queue : List ℕ) (changed : Bool) : Type 0 where
  pub between : IsBetween (on_pairs P L) budget left old now changed (length queue)
  pub covers : AreCovered P queue (labelled_of now)
  pub fewer : length (labelled_of now).costs ≤ length (labelled_of old).costs
  pub first : changed ≡ false → (taken : List ℕ) × (label_places (labelled_of old) ≡ taken ++ queue) × (length taken ≡ between.used) × ((p : ℕ) → Contains taken p → InNoPair P (literal_at p) (labelled_of old))

length-places : (cs : List Cost) → length (map (λ (c : Cost). place_of c.lit) cs) ≡ length cs
length-places [] = refl
length-places (c ∷ cs) = ap suc (length-places cs)

pub many-places : (s : State) → length (label_places s) ≡ length s.costs
many-places s = length-places s.costs

pub pairs-begin : (P : Literal → Literal → State → Type 0) (L : State → State → List Repair → Type 0) (budget : Option ℕ) (s : Held) (queue : List ℕ) → ArePairs P → IsLeaving L → s.refuted ≡ false → queue ≡ label_places (labelled_of s) → ArePairsUnderway P L budget budget s s queue false
pairs-begin P L budget s queue pairs leaving n e =
    let Q : ℕ → Type 0 = λ k. (b : IsBetween (on_pairs P L) budget budget s s false k) × (b.used ≡ 0) in
    let w = subst Q (sym (ap (λ (q : List ℕ). length q) e)) (between-none (on_pairs P L) budget s leaving.itself n) in
    record {
      between = w.0;
      covers = λ a b p. let c = pairs.cost a b (labelled_of s) p in inl (subst (λ (q : List ℕ). Contains q (place_of a)) (sym e) (cost-listed (labelled_of s) (record { lit = a; weight = c.0 }) c.1));
      fewer = omega arith;
      first = λ f. ([], sym e, sym w.1, λ i h. absurd (Contains-none i h));
    }

same-state : (h u : Held) → IsUntouched h u → labelled_of u ≡ labelled_of h
same-state h u e = ap (λ (x : Held). labelled_of x) e

own-literal : (p : ℕ) (a : Literal) → place_of a ≡ p → literal_at p ≡ a
own-literal p a e = ap literal_at (sym e) ∙ literal-place a

-- a turn that changes nothing
pub pairs-idle : (P : Literal → Literal → State → Type 0) (L : State → State → List Repair → Type 0) (budget left : Option ℕ) (s h u : Held) (item : ℕ) (rest : List ℕ) (changed : Bool) → ArePairs P → IsLeaving L → ArePairsUnderway P L budget left s h (item ∷ rest) changed
    → IsStore h → has_turn left ≡ true → IsUntouched h u → InNoPair P (literal_at item) (labelled_of h) → ArePairsUnderway P L budget (one_less left) s u rest changed
pairs-idle P L budget left s h u item rest changed pairs leaving b sound sp e idle =
    let same = same-state h u e in
    let w = between-same (on_pairs P L) budget left s h u changed (length (item ∷ rest)) (length rest) leaving.twice leaving.itself b.between sound sp e (omega arith) in
    let off : (a c : Literal) → P a c (labelled_of h) → place_of a ≡ item → ⊥ = λ a c p f. idle c (subst (λ (x : Literal). P x c (labelled_of h)) (sym (own-literal item a f)) p) in
    let left_over : AreCovered P rest (labelled_of h) = λ a c p. elim (b.covers a c p) [
      | inl m ↦ elim (Contains-cases item rest (place_of a) m) [ inl f ↦ absurd (off a c p f) | inr r ↦ inl r ]
      | inr m ↦ elim (Contains-cases item rest (place_of c) m) [ inl f ↦ absurd (off c a (pairs.turned a c (labelled_of h) p) f) | inr r ↦ inr r ]
    ] in
    record {
      between = w.0;
      covers = subst (AreCovered P rest) (sym same) left_over;
      fewer = subst (λ (x : State). length x.costs ≤ length (labelled_of s).costs) (sym same) b.fewer;
      first = λ f.
          let was = b.first f in
          let begin : labelled_of h ≡ labelled_of s = same-state s h (b.between.change.same f) in
          let own : InNoPair P (literal_at item) (labelled_of s) = subst (InNoPair P (literal_at item)) begin idle in
          (was.0 ++ item ∷ [], was.1 ∙ sym (append_assoc was.0 (item ∷ []) rest), length-append was.0 (item ∷ []) ∙ (ap (λ n. n + 1) was.2 ∙ sym w.1), λ i m. elim (Contains-push_cases was.0 item i m) [ inl v ↦ was.3 i v | inr g ↦ subst (λ (k : ℕ). InNoPair P (literal_at k) (labelled_of s)) g own ]);
    }

-- a turn that changes something
pub pairs-change : (P : Literal → Literal → State → Type 0) (L : State → State → List Repair → Type 0) (budget left : Option ℕ) (s h u : Held) (item : ℕ) (rest queue : List ℕ) (changed : Bool) → IsLeaving L → ArePairsUnderway P L budget left s h (item ∷ rest) changed
    → IsStore h → has_turn left ≡ true → IsRun L h u → u.refuted ≡ false → IsSmaller (labelled_of u) (labelled_of h) → length (labelled_of u).costs + 1 ≡ length (labelled_of h).costs → length queue ≤ length rest + length (labelled_of u).costs → AreCovered P queue (labelled_of u)
    → ArePairsUnderway P L budget (one_less left) s u queue true
pairs-change P L budget left s h u item rest queue changed leaving b sound sp r n smaller size few covers =
    let fewer = b.fewer in
    let most = many-places (labelled_of s) in
    let more : length queue + 1 ≤ length (item ∷ rest) + length (label_places (labelled_of s)) * 1 = omega (arith, most) in
    record {
      between = between-more (on_pairs P L) budget left s h u changed (length (item ∷ rest)) (length queue) 1 leaving.twice b.between sound sp r n smaller (omega arith) more;
      covers = covers;
      fewer = omega arith;
      first = λ f. absurd (cc);
    }

pub pairs-smaller : (P : Literal → Literal → State → Type 0) (L : State → State → List Repair → Type 0) (budget left : Option ℕ) (s h u : Held) (item : ℕ) (rest queue : List ℕ) (changed : Bool) → ArePairsUnderway P L budget left s h (item ∷ rest) changed
    → length (labelled_of u).costs + 1 ≡ length (labelled_of h).costs → length queue ≤ length rest + length (labelled_of u).costs
    → length (labelled_of s).costs * length (labelled_of u).costs + length queue < length (labelled_of s).costs * length (labelled_of h).costs + length (item ∷ rest)
pairs-smaller P L budget left s h u item rest queue changed b size few =
    let fewer = b.fewer in
    let n = length (labelled_of s).costs in
    let k = length (labelled_of u).costs in
    let next : length (labelled_of h).costs ≡ suc k = omega arith in
    let split : n * length (labelled_of h).costs ≡ n * k + n = ap (λ x. n * x) next ∙ mul-suc n k in
    omega (arith, split)

pairs-first : (P : Literal → Literal → State → Type 0) (L : State → State → List Repair → Type 0) (budget left : Option ℕ) (s h : Held) (queue : List ℕ) (changed : Bool) (b : ArePairsUnderway P L budget left s h queue changed) → changed ≡ false → HasIdle (on_pairs P L) (labelled_of h) b.between.used
pairs-first P L budget left s h queue changed b f =
    let was = b.first f in
    let once : no_repeats (was.0 ++ queue) ≡ true = subst (λ (xs : List ℕ). no_repeats xs ≡ true) was.1 (label-once s.weights) in
    let first : HasIdle (on_pairs P L) (labelled_of s) b.between.used = subst (HasIdle (on_pairs P L) (labelled_of s)) was.2 (own-idle (on_pairs P L) (labelled_of s) was.0 queue was.1 once was.3) in
    subst (λ (x : State). HasIdle (on_pairs P L) x b.between.used) (sym (same-state s h (b.between.change.same f))) first

-- the budget is used up, and a label waits
pub pairs-spent : (P : Literal → Literal → State → Type 0) (L : State → State → List Repair → Type 0) (budget left : Option ℕ) (s h : Held) (item : ℕ) (rest : List ℕ) (changed : Bool) → ArePairsUnderway P L budget left s h (item ∷ rest) changed → IsStore h → has_turn left ≡ false → IsAnswer (on_pairs P L) budget s h (record { ending = Spent; changed = changed })
pairs-spent P L budget left s h item rest changed b sound none = record {
  change = b.between.change;
  ending = between-spent (on_pairs P L) budget left s h changed (length (item ∷ rest)) b.between sound none (omega arith) (pairs-first P L budget left s h (item ∷ rest) changed b);
}

-- no label waits
pub pairs-done : (P : Literal → Literal → State → Type 0) (L : State → State → List Repair → Type 0) (budget left : Option ℕ) (s h : Held) (changed : Bool) → ArePairsUnderway P L budget left s h [] changed → IsAnswer (on_pairs P L) budget s h (record { ending = Finished; changed = changed })
pairs-done P L budget left s h changed b = record {
  change = b.between.change;
  ending = inr (λ a c p. elim (b.covers a c p) [ inl m ↦ Contains-none (place_of a) m | inr m ↦ Contains-none (place_of c) m ]);
}

-- a run and a turn more
pub pairs-run : (P : Literal → Literal → State → Type 0) (L : State → State → List Repair → Type 0) (budget left : Option ℕ) (s h u : Held) (queue : List ℕ) (changed : Bool) → IsLeaving L → IsStore h → ArePairsUnderway P L budget left s h queue changed → IsRun L h u → IsRun L s u
pairs-run P L budget left s h u queue changed leaving sound b r = run-more L s h u leaving.twice (none-empty h sound b.between.unrefuted) b.between.run r
