-- Techniques on labels by turns: the labels that are near one that became false are looked at again.
use Rattle.std.proofs.Common.{◌+◌, ◌≡◌, ◌≢◌, ℕ, ◌*◌, ◌-◌, ◌≤◌, List, length, refl, sym, ◌∙◌, ap, subst, arith, inl, inr, Contains}
use Rattle.std.specs.Prelude.{Option, Some, None, IfSome}
use Rattle.std.specs.List.{list_any}
use Rattle.std.proofs.Math.Nat.{mul-le-mul_left}
use Rattle.std.proofs.lemmas.Bool.{cases_Bool, true≢false}
use Rattle.std.proofs.lemmas.List.{length-map}
use Rattle.mp_logic.specs.Literal.{Literal, negation}
use Rattle.mp_logic.specs.Keeping.{State}
use Rattle.mp_logic.specs.Fixing.{IsFixed}
use Rattle.mp_logic.specs.SubsumedLabels.{IsPlain, Covers}
use Rattle.mp_logic.specs.declared.instances.Cost.{Cost}
use Rattle.mp_logic.proofs.Literals.{negation-negation}
use Rattle.mp_clauses.specs.Places.{place_of, has, is_in, no_repeats}
use Rattle.mp_clauses.specs.Slots.{live_clauses}
use Rattle.mp_clauses.specs.Weighing.{costs_of, weight_in}
use Rattle.mp_clauses.proofs.Pricing.{same-place}
use Rattle.mp_clauses.proofs.Found.{any-by, any-found, has-by, has-contains, is_in-by, is_in-contains}
use Rattle.mp_store.specs.Held.{Held, labelled_of}
use Rattle.mp_store.specs.Soundness.{IsStore}
use Rattle.mp_store.specs.Techniques.{Technique}
use Rattle.mp_store.proofs.KeptFixing.{store-fixed}
use Rattle.mp_turns.specs.Turning.{Turning, IsTurning}
use Rattle.mp_turns.specs.Turned.{IsChangeOf, IsTurn}
use Rattle.mp_turns.specs.Underway.{StaysWithin}
use Rattle.mp_turns.specs.declared.turn.Turned.TheVariants.{Changed}
use Rattle.mp_turns.proofs.OwnIdle.{own-idle}
use Rattle.mp_turns.proofs.Subsets.{rising-few}
use Rattle.t_labels.specs.Labels.{label_places, LeavesOffset}
use Rattle.t_labels.specs.Covers.{IsUnused, IsUncovered, covering, cost_in}
use Rattle.t_labels.specs.Lowering.{IsLowered, AreWith, AreNear}
use Rattle.t_labels.proofs.Labels.{cost-some, weight-cost}
use Rattle.t_labels.proofs.LabelPlaces.{labels-once, label-listed}
use Rattle.t_labels.proofs.Lowered.{leaves-itself, leaves-twice, negation-free, AfterLowering, after-lowering, cost-left, one-fewer, lowered-smaller}

-- a technique on labels whose end state is that each is done
abbrev pub on_labels : (Cost → State → Type 0) → Technique
on_labels IsDone = record {
  HasEndState = λ s. (p : Cost) → Contains s.costs p → IsDone p s;
  candidates = label_places;
  size = λ s. length s.costs;
  IsIdle = λ s k. (p : Cost) → Contains s.costs p → place_of p.lit ≡ k → IsDone p s;
  LeavesAlone = LeavesOffset;
  WantsRoom = λ s. ⊥;
}

abbrev pub turning_on : (Cost → State → Type 0) → Turning
turning_on IsDone = record {
  technique = on_labels IsDone;
  candidates = λ h. label_places (labelled_of h);
  IsIdle = λ h k. (p : Cost) → Contains (labelled_of h).costs p → place_of p.lit ≡ k → IsDone p (labelled_of h);
  stays = λ n h k. length k.repairs ≤ length h.repairs + n;
}

pub labels-sound : (IsDone : Cost → State → Type 0) → IsTurning (turning_on IsDone)
labels-sound IsDone = record {
  itself = leaves-itself;
  twice = leaves-twice;
  stays_itself = λ h u e. let same : length u.repairs ≡ length h.repairs = ap (λ (x : Held). length x.repairs) e in omega arith;
  stays_twice = λ m n a b c x y. omega arith;
  counted = λ h s. refl;
  distinct = λ h s. labels-once h;
  others = λ h k s. elim (cases_Bool (is_in k (label_places (labelled_of h)))) [
    | inl t ↦ inl (is_in-contains (label_places (labelled_of h)) k t)
    | inr f ↦ inr (λ p i e. absurd (true≢false (sym (is_in-by (label_places (labelled_of h)) k (subst (Contains (label_places (labelled_of h))) e (label-listed (labelled_of h).costs p i))) ∙ f)))
  ];
  untouched = λ h u k e idle. let P : Held → Type 0 = λ x. (p : Cost) → Contains (labelled_of x).costs p → place_of p.lit ≡ k → IsDone p (labelled_of x) in subst P (sym e) idle;
  ended = λ h s n idle p i. idle (place_of p.lit) p i refl;
  idle = λ h first rest s e own. own-idle (on_labels IsDone) (labelled_of h) first rest e (ap no_repeats (sym e) ∙ labels-once h) own;
}

-- what the turns of a budget add
pub repairs-within : (IsDone : Cost → State → Type 0) (budget : Option ℕ) (h u : Held) → StaysWithin (turning_on IsDone) budget h u → IfSome budget (λ b. length u.repairs ≤ length h.repairs + b)
repairs-within IsDone None h u w = tt
repairs-within IsDone (Some b) h u w = let few = w.within in let came = w.stays in omega arith

-- one label became false: where each label that was done is near it or done still, it is a change
pub labels-change : (IsDone : Cost → State → Type 0) (h u : Held) (l : Literal) (item : ℕ) (gone cut : List Literal) (near : List ℕ) → IsStore h → weight_in h.weights l ≢ 0 → place_of l ≡ item → AfterLowering l h u → AreNear gone cut u near
    → ((p : Cost) → Contains (costs_of u.weights) p → IsDone p (labelled_of h) → (Contains near (place_of p.lit) → ⊥) → IsDone p (labelled_of u)) → IsChangeOf (turning_on IsDone) item h u near
labels-change IsDone h u l item gone cut near s n at a named stays =
    let fewer = one-fewer h u l s n a in
    let was : length (label_places (labelled_of h)) ≡ length (costs_of h.weights) = length-map (costs_of h.weights) (λ (p : Cost). place_of p.lit) in
    let now : length (label_places (labelled_of u)) ≡ length (costs_of u.weights) = length-map (costs_of u.weights) (λ (p : Cost). place_of p.lit) in
    let all : ℕ = length (label_places (labelled_of h)) in
    let fall : ℕ = length (costs_of h.weights) - length (costs_of u.weights) in
    let one : 1 ≤ fall = omega (arith, fewer) in
    let wide : all * 1 ≤ all * fall = mul-le-mul_left {m = 1} {n = fall} all one in
    let most : length near ≤ all = rising-few near (label_places (labelled_of h)) named.rising (λ i m.
    let w = named.only i m in
    let there = (cost-left h u l (cost_in u.weights w.0) a (weight-cost u.weights w.0 w.2)).0 in
    subst (Contains (label_places (labelled_of h))) (sym w.1) (label-listed (costs_of h.weights) (cost_in u.weights w.0) there)) in
    record {
      kept = λ i idle. elim (cases_Bool (is_in i near)) [
        | inl t ↦ inl (is_in-contains near i t)
        | inr f ↦ inr (λ p m e. stays p m (idle p (cost-left h u l p a m).0 e) (λ c. true≢false (sym (is_in-by near i (subst (Contains near) e c)) ∙ f)))
      ];
      own = inr (λ p m e. absurd ((cost-left h u l p a m).1 (same-place p.lit l (e ∙ sym at))));
      falls = omega (arith, fewer);
      few = omega (arith, wide, most);
      fewer = omega (arith, was, now, fewer);
      smaller = lowered-smaller h u l s n a;
    }

-- what clauses lose when the negation of a label is fixed
unused-back : (l k : Literal) (cs ds : List (List Literal)) → IsFixed (negation l) cs ds → k ≢ l → ((c : List Literal) → Contains cs c → Contains c k → Contains c (negation l) → ⊥) → IsUnused k ds → IsUnused k cs
unused-back l k cs ds fixed other far un c i j =
    let d = fixed.kept c i (far c i j) in
    elim (d.2.rest k j) [ inl a ↦ un d.0 d.1 a | inr e ↦ other (e ∙ negation-negation l) ]

covers-back : (l b k : Literal) (cs ds : List (List Literal)) → IsFixed (negation l) cs ds → k ≢ l → ((c : List Literal) → Contains cs c → Contains c k → Contains c (negation l) → ⊥) → Covers b k ds → Covers b k cs
covers-back l b k cs ds fixed other far cov c i j =
    let d = fixed.kept c i (far c i j) in
    elim (d.2.rest k j) [ inl a ↦ (d.2.only b (cov d.0 d.1 a)).0 | inr e ↦ absurd (other (e ∙ negation-negation l)) ]

pub plain-back : (l b : Literal) (cs ds : List (List Literal)) → IsFixed (negation l) cs ds → b ≢ negation l → ((c : List Literal) → Contains cs c → Contains c (negation b) → Contains c (negation l) → ⊥) → IsPlain b ds → IsPlain b cs
plain-back l b cs ds fixed other kept plain c i k j z =
    let d = fixed.kept c i (kept c i (subst (Contains c) z j)) in
    elim (d.2.rest k j) [
      | inl a ↦ plain d.0 d.1 k a z
      | inr e ↦ other (sym (negation-negation b) ∙ ap negation (sym z ∙ (e ∙ negation-negation l)))
    ]

-- a label that no other covered, and that is not near, is not covered still
uncovered-stays : (h u : Held) (l : Literal) (gone cut : List Literal) (near : List ℕ) (p : Cost) → IsStore h → weight_in h.weights l ≢ 0 → AfterLowering l h u → AreWith (negation l) (live_clauses h.slots) gone → AreNear gone cut u near
    → Contains (costs_of u.weights) p → IsUncovered p (labelled_of h) → (Contains near (place_of p.lit) → ⊥) → IsUncovered p (labelled_of u)
uncovered-stays h u l gone cut near p s n a beside named i idle far c =
    let fixed : IsFixed (negation l) (live_clauses h.slots) (live_clauses u.slots) = rw a.slots (store-fixed (negation l) h) in
    let weighs = cost-some u.weights p i in
    let other = (cost-left h u l p a i).1 in
    let kept : (x : List Literal) → Contains (live_clauses h.slots) x → Contains x p.lit → Contains x (negation l) → ⊥ = λ x j k g. far (named.each p.lit weighs (inl (beside.each p.lit (x, j, g, k)))) in
    let unused : IsUnused p.lit (live_clauses u.slots) → ⊥ = λ un. idle (inl (unused-back l p.lit (live_clauses h.slots) (live_clauses u.slots) fixed other kept un)) in
    elim c [
      | inl un ↦ unused un
      | inr q ↦
          let by = q.1 in
          let was = cost-left h u l q.0 a by.cost in
          let held : (x : List Literal) → Contains (live_clauses u.slots) x → Contains x p.lit → (y : List Literal) → Contains (live_clauses h.slots) y → Contains y (negation q.0.lit) → Contains y (negation l) → ⊥ = λ x j k y m v g.
          far (named.each p.lit weighs (inr (inr (q.0.lit, record { label = cost-some u.weights q.0 by.cost; was = beside.each (negation q.0.lit) (y, m, g, v); plain = by.plain }, (x, j, by.covers x j k, k))))) in
          let away : q.0.lit ≢ negation l = λ e. cost-some h.weights q.0 was.0 (ap (weight_in h.weights) e ∙ negation-free h l s n) in
          elim (cases_Bool (list_any (has (place_of p.lit)) (live_clauses u.slots))) [
            | inr f ↦ unused (λ x j k. true≢false (sym (any-by (has (place_of p.lit)) (live_clauses u.slots) x j (has-by x p.lit k)) ∙ f))
            | inl t ↦
                let x = any-found (has (place_of p.lit)) (live_clauses u.slots) t in
                idle (inr (
                  q.0,
                  record {
                    cost = was.0;
                    other = by.other;
                    plain = plain-back l q.0.lit (live_clauses h.slots) (live_clauses u.slots) fixed away (held x.0 x.1 (has-contains x.0 p.lit x.2)) by.plain;
                    weight = by.weight;
                    covers = covers-back l q.0.lit p.lit (live_clauses h.slots) (live_clauses u.slots) fixed other kept by.covers;
                  },
                ))
          ]
    ]

pub covering-sound : IsTurning covering
covering-sound = labels-sound IsUncovered

pub covered-turned : (h u : Held) (l : Literal) (item : ℕ) (gone cut : List Literal) (near again : List ℕ) → IsStore h → weight_in h.weights l ≢ 0 → place_of l ≡ item → IsLowered l h u → AreWith (negation l) (live_clauses h.slots) gone → AreNear gone cut u near → again ≡ near → IsTurn covering item h u again Changed
covered-turned h u l item gone cut near again s n at e beside named put =
    elim (cases_Bool u.refuted) [
      | inl t ↦ inl t
      | inr f ↦
          let a = after-lowering h u l s n e f in
          inr (subst (IsChangeOf covering item h u) (sym put) (labels-change IsUncovered h u l item gone cut near s n at a named (λ p i idle far. uncovered-stays h u l gone cut near p s n a beside named i idle far)))
    ]
