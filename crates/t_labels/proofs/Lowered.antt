-- Making a label false in a store: it keeps models and costs where others cover the label, and what it leaves of costs.
use Rattle.std.proofs.Common.{◌≡◌, ◌≢◌, ℕ, ◌+◌, ◌<◌, ◌≤◌, Bool, true, false, cond, List, [], ◌∷◌, ◌++◌, length, set, refl, sym, ◌∙◌, ap, subst, arith, inl, inr, Contains, All, sum, sum_by, add-zero, get_or-set_other}
use Rattle.std.specs.Prelude.{◌==◌}
use Rattle.std.proofs.lemmas.Bool.{eq-eqb, ne_eqb}
use Rattle.std.proofs.lemmas.List.{length-append}
use Rattle.std.proofs.lemmas.List.Sums.{sum_by-cons}
use Rattle.mp_logic.specs.Literal.{Literal, negation, IsUpTo}
use Rattle.mp_logic.specs.Keeping.{State}
use Rattle.mp_logic.specs.Fixing.{Bends}
use Rattle.mp_logic.specs.Rewrites.{set_repair}
use Rattle.mp_logic.specs.declared.instances.Cost.{Cost}
use Rattle.mp_logic.specs.declared.instances.Repair.{Repair}
use Rattle.mp_logic.proofs.Literals.{negation-negation}
use Rattle.mp_logic.proofs.Members.{All-from_contained}
use Rattle.std.proofs.lemmas.List.Elements.{All-contains}
use Rattle.mp_logic.proofs.Covered.{subsumed_label_bends, unused_label_bends}
use Rattle.mp_clauses.specs.Places.{place_of}
use Rattle.mp_clauses.specs.Slots.{live_clauses, has_empty}
use Rattle.mp_clauses.specs.Weighing.{costs_of, weight_in, weighted}
use Rattle.mp_clauses.proofs.Pricing.{sum-costs, count-set, same-place}
use Rattle.mp_store.specs.Held.{Held, labelled_of, IsUntouched}
use Rattle.mp_store.specs.Rewriting.{changed_by, refuted_by}
use Rattle.mp_store.specs.Soundness.{IsStore}
use Rattle.mp_store.specs.Fixing.{paid_off_one, fixing_of}
use Rattle.mp_store.specs.Measures.{IsSmaller}
use Rattle.mp_store.specs.Techniques.{IsRun}
use Rattle.mp_store.proofs.Fixes.{set-zero, sum-set-zero}
use Rattle.mp_store.proofs.KeptFixing.{new-slots, fixed-weights, table-fixed, store-variables, variable_pair}
use Rattle.mp_store.proofs.Runs.{run-same}
use Rattle.mp_turns.proofs.FixedOne.{fixing-run, costs-among}
use Rattle.mp_turns.proofs.Replacing.{plain-after}
use Rattle.t_labels.specs.Labels.{LeavesOffset}
use Rattle.t_labels.specs.Covers.{IsCovered, cost_in}
use Rattle.t_labels.specs.Lowering.{IsLowered, AreWith}
use Rattle.t_labels.proofs.Labels.{cost-some, cost-is, weight-cost, label-within, other-variable, live-within}

-- a label that others cover may be made false
pub covered-bends : (h : Held) (l : Literal) → IsStore h → weight_in h.weights l ≢ 0 → IsCovered (cost_in h.weights l) (labelled_of h) → Bends (labelled_of h) (negation l)
covered-bends h l s n c = elim c [
  | inl un ↦ unused_label_bends (labelled_of h) (cost_in h.weights l) (store-variables h s) s.labelled.costs_apart (weight-cost h.weights l n) un
  | inr q ↦
      let by = q.1 in
      subsumed_label_bends (labelled_of h) (cost_in h.weights l) q.0 (store-variables h s) s.labelled.costs_apart (weight-cost h.weights l n) by.cost (other-variable h (cost_in h.weights l) q.0 s (weight-cost h.weights l n) by.cost by.other) by.weight by.plain by.covers
]

pub leaves-itself : (s : State) → LeavesOffset s s []
leaves-itself s = record { vars = refl; offset = refl; costs = λ p i. i }

pub leaves-twice : (s t u : State) (x y : List Repair) → LeavesOffset s t x → LeavesOffset t u y → LeavesOffset s u (x ++ y)
leaves-twice s t u x y f g = record { vars = g.vars ∙ f.vars; offset = g.offset ∙ f.offset; costs = λ p i. f.costs p (g.costs p i) }

-- of a label's negation there is no cost
pub negation-free : (h : Held) (l : Literal) → IsStore h → weight_in h.weights l ≢ 0 → weight_in h.weights (negation l) ≡ 0
negation-free h l s n = variable_pair l h.weights s.weights.one_each n

-- the label costs nothing then, and all else what it did
lowered-table : (h : Held) (l : Literal) → IsStore h → weight_in h.weights l ≢ 0 → fixed-weights (negation l) h ≡ set h.weights (place_of l) 0
lowered-table h l s n =
    let free = negation-free h l s n in
    let own : weight_in h.weights (negation (negation l)) ≢ 0 = subst (λ (k : Literal). weight_in h.weights k ≢ 0) (sym (negation-negation l)) n in
    let a : (weight_in h.weights (negation l) == 0) ≡ true = eq-eqb (weight_in h.weights (negation l)) 0 free in
    let b : (weight_in h.weights (negation (negation l)) == 0) ≡ false = ne_eqb (weight_in h.weights (negation (negation l))) 0 own in
    let one : paid_off_one h.weights (negation l) ≡ record { lit = negation (negation l); weight = 0 } ∷ [] = rw (a, b) refl in
    table-fixed (negation l) h ∙ (ap (λ cs. weighted cs h.weights) one ∙ ap (λ (k : Literal). set h.weights (place_of k) 0) (negation-negation l))

shift-none : (h : Held) (l : Literal) → IsStore h → weight_in h.weights l ≢ 0 → sum_by (weight_in h.weights) (negation l ∷ []) ≡ 0
shift-none h l s n = sum_by-cons (weight_in h.weights) (negation l) [] ∙ (add-zero (weight_in h.weights (negation l)) ∙ negation-free h l s n)

-- models and costs are kept
pub lowered-run : (h u : Held) (l : Literal) → IsStore h → weight_in h.weights l ≢ 0 → Bends (labelled_of h) (negation l) → IsLowered l h u → IsRun LeavesOffset h u
lowered-run h u l s n bends e =
    let shift = shift-none h l s n in
    fixing-run LeavesOffset h u (negation l) s (label-within h l s n) bends e (record { vars = add-zero h.vars; offset = ap (λ (k : ℕ). h.offset + k) shift ∙ add-zero h.offset; costs = costs-among h (negation l) })

pub untouched-run : (h u : Held) → IsUntouched h u → IsRun LeavesOffset h u
untouched-run h u e = run-same LeavesOffset h u leaves-itself e

-- what a store is once a label is false
pub record AfterLowering (l : Literal) (h u : Held) : Type 0 where
  pub vars : u.vars ≡ h.vars
  pub slots : u.slots ≡ new-slots (negation l) h
  pub table : u.weights ≡ set h.weights (place_of l) 0

pub after-lowering : (h u : Held) (l : Literal) → IsStore h → weight_in h.weights l ≢ 0 → IsLowered l h u → u.refuted ≡ false → AfterLowering l h u
after-lowering h u l s n e standing =
    let plain = plain-after (fixing_of (negation l ∷ []) h) h u e standing in
    record {
      vars = ap (λ (x : Held). x.vars) e ∙ (ap (λ (x : Held). x.vars) plain ∙ add-zero h.vars);
      slots = ap (λ (x : Held). x.slots) e ∙ ap (λ (x : Held). x.slots) plain;
      table = ap (λ (x : Held). x.weights) e ∙ (ap (λ (x : Held). x.weights) plain ∙ lowered-table h l s n);
    }

pub lost : (h u : Held) (l : Literal) → AfterLowering l h u → weight_in u.weights l ≡ 0
lost h u l a = ap (λ w. weight_in w l) a.table ∙ set-zero h.weights (place_of l)

pub weight-left : (h u : Held) (l k : Literal) → AfterLowering l h u → k ≢ l → weight_in u.weights k ≡ weight_in h.weights k
weight-left h u l k a n = ap (λ w. weight_in w k) a.table ∙ get_or-set_other h.weights (place_of l) (place_of k) 0 0 (λ e. n (same-place k l e))

-- a cost that is left is one that there was, of another literal
pub cost-left : (h u : Held) (l : Literal) (p : Cost) → AfterLowering l h u → Contains (costs_of u.weights) p → Contains (costs_of h.weights) p × (p.lit ≢ l)
cost-left h u l p a i =
    let other : p.lit ≢ l = λ e. cost-some u.weights p i (ap (weight_in u.weights) e ∙ lost h u l a) in
    let same = weight-left h u l p.lit a other in
    let weighs : weight_in h.weights p.lit ≢ 0 = λ z. cost-some u.weights p i (same ∙ z) in
    let own : p ≡ record { lit = p.lit; weight = weight_in h.weights p.lit } = cost-is u.weights p i ∙ ap (λ (n : ℕ). record { lit = p.lit; weight = n }) same in
    (subst (Contains (costs_of h.weights)) (sym own) (weight-cost h.weights p.lit weighs), other)

pub cost-stays : (h u : Held) (l : Literal) (p : Cost) → AfterLowering l h u → Contains (costs_of h.weights) p → p.lit ≢ l → Contains (costs_of u.weights) p
cost-stays h u l p a i other =
    let same = weight-left h u l p.lit a other in
    let weighs : weight_in u.weights p.lit ≢ 0 = λ z. cost-some h.weights p i (sym same ∙ z) in
    let own : p ≡ record { lit = p.lit; weight = weight_in u.weights p.lit } = cost-is h.weights p i ∙ ap (λ (n : ℕ). record { lit = p.lit; weight = n }) (sym same) in
    subst (Contains (costs_of u.weights)) (sym own) (weight-cost u.weights p.lit weighs)

-- one cost fewer, and the state is smaller
lowered-place : (h : Held) (l : Literal) → IsStore h → weight_in h.weights l ≢ 0 → place_of l < length h.weights
lowered-place h l s n =
    let up = label-within h l s n in
    let len = s.weights.len in
    let sign : cond l.negative 1 0 ≤ 1 = elim l.negative as (λ b. cond b 1 0 ≤ 1) [ true ↦ omega arith | false ↦ omega arith ] in
    omega (arith, up.1, len, sign)

pub one-fewer : (h u : Held) (l : Literal) → IsStore h → weight_in h.weights l ≢ 0 → AfterLowering l h u → length (costs_of u.weights) + 1 ≡ length (costs_of h.weights)
one-fewer h u l s n a =
    let counted = count-set 0 (place_of l) 0 h.weights (lowered-place h l s n) in
    let was : cond {A = ℕ} (weight_in h.weights l == 0) 0 1 ≡ 1 = ap (λ b. cond {A = ℕ} b 0 1) (ne_eqb (weight_in h.weights l) 0 n) in
    rw a.table (omega (arith, counted, was))

pub lowered-smaller : (h u : Held) (l : Literal) → IsStore h → weight_in h.weights l ≢ 0 → AfterLowering l h u → IsSmaller (labelled_of u) (labelled_of h)
lowered-smaller h u l s n a =
    let now : sum_by (λ (c : Cost). c.weight) (costs_of u.weights) ≡ sum (set h.weights (place_of l) 0) = sum-costs 0 u.weights ∙ ap sum a.table in
    let was = sum-costs 0 h.weights in
    let fall = sum-set-zero h.weights (place_of l) in
    inl (omega (arith, now, was, fall, n))

-- no more than one repair comes
pub untouched-repairs : (h u : Held) → IsUntouched h u → length u.repairs ≤ length h.repairs + 1
untouched-repairs h u e = let same : length u.repairs ≡ length h.repairs = ap (λ (x : Held). length x.repairs) e in omega arith

pub lowered-repairs : (h u : Held) (l : Literal) → IsLowered l h u → length u.repairs ≤ length h.repairs + 1
lowered-repairs h u l e =
    let r = fixing_of (negation l ∷ []) h in
    let more : length (h.repairs ++ set_repair (negation l) (negation l ∷ []) ∷ []) ≡ length h.repairs + 1 = length-append h.repairs (set_repair (negation l) (negation l ∷ []) ∷ []) in
    let parts : (b : Bool) → length (cond b (refuted_by r h) (changed_by r h)).repairs ≡ length h.repairs + 1 =
    λ (t : Bool). elim t as (λ b. length (cond b (refuted_by r h) (changed_by r h)).repairs ≡ length h.repairs + 1) [ true ↦ more | false ↦ more ] in
    let whole : length u.repairs ≡ length h.repairs + 1 = ap (λ (x : Held). length x.repairs) e ∙ parts (has_empty r.added) in
    omega arith

-- variables stay
lowered-vars : (h u : Held) (l : Literal) → IsLowered l h u → u.vars ≡ h.vars
lowered-vars h u l e =
    let r = fixing_of (negation l ∷ []) h in
    let parts : (b : Bool) → (cond b (refuted_by r h) (changed_by r h)).vars ≡ h.vars =
    λ (t : Bool). elim t as (λ b. (cond b (refuted_by r h) (changed_by r h)).vars ≡ h.vars) [ true ↦ add-zero h.vars | false ↦ add-zero h.vars ] in
    ap (λ (x : Held). x.vars) e ∙ parts (has_empty r.added)

-- the literals of clauses that were there are within them
pub with-within : (h u : Held) (l m : Literal) (ks given : List Literal) → IsStore h → IsLowered l h u → AreWith m (live_clauses h.slots) ks → given ≡ ks → All (IsUpTo u.vars) given
with-within h u l m ks given s e w f = rw (f, lowered-vars h u l e) (All-from_contained (IsUpTo h.vars) ks (λ k i.
    let c = w.only k i in
    All-contains (IsUpTo h.vars) c.0 k (live-within h c.0 s c.1) c.3))
