-- The label view shows the models and costs of its instance.
use Rattle.std.proofs.Common.{◌≡◌, ◌≤◌, ◌+◌, ◌&&◌, ℕ, Bool, true, false, not, cond, IsTrue, List, [], ◌∷◌, ◌++◌, All, Contains, length, map, filter, sum_by, refl, ap, sym, ◌∙◌, subst, arith, inl, inr}
use Rattle.std.specs.Prelude.{nat_eq, nat_le, nat_lt}
use Rattle.std.specs.List.{range_with_len}
use Rattle.std.proofs.Math.Bool.{or-false}
use Rattle.std.proofs.lemmas.Bool.{cases_Bool, ltb-false, le-leb, ne_eqb, and_cases, cond_both}
use Rattle.std.proofs.lemmas.List.Elements.{All-contains, All-append, Contains-append_left, Contains-append_right}
use Rattle.std.proofs.lemmas.List.Sums.{sum_by-append}
use Rattle.mp_logic.specs.Literal.{Literal, IsUpTo}
use Rattle.mp_logic.specs.Formula.{Formula, IsFormula}
use Rattle.mp_logic.specs.Normal.{rises}
use Rattle.mp_logic.specs.Truth.{value_of, literal_value, clause_value, IsSatisfied, paid, cost_of, weights_of}
use Rattle.mp_logic.specs.Keeping.{charged, full_cost, total_of}
use Rattle.mp_logic.specs.Carrying.{IsLabelView}
use Rattle.mp_logic.specs.declared.instances.Cost.{Cost}
use Rattle.mp_logic.specs.declared.instances.Soft.{Soft}
use Rattle.mp_logic.proofs.Members.{satisfied, IsSatisfied-from, sum_by_le}
use Rattle.mp_labels.specs.LabelView.{normal_form, normal_clauses, normal_soft, payable, long_softs, label_clauses, label_costs, empty_weight, net_costs, charge_on, label_view}
use Rattle.mp_labels.proofs.Lists.{Contains-map, Contains-from_map, Contains-filter, Contains-from_filter, Contains-from_range, sum_by-map, sum_by_agree, sum_by_add, sum_by-filter}
use Rattle.mp_labels.proofs.NormalForms.{from_normal_form, clause_value-normal_form, tautology_true}
use Rattle.mp_labels.proofs.Charging.{IsIn, unit_paid, true_at, charges_are_paid, charged_net, weighed_net, dearer}
use Rattle.mp_labels.proofs.LabelClauses.{clause_value-agree, labels_paid, labels_satisfied, labels_charged, label_weights, extended, AreLabels-extended, value_of-extended}

-- the variables of all soft clauses are from 1 to n
abbrev pub SoftsIn : ℕ → List Soft → Type 0
SoftsIn n ss = (s : Soft) → Contains ss s → IsIn n s.clause

pub payable_in : (n : ℕ) (ss : List Soft) → SoftsIn n ss → SoftsIn n (payable ss)
payable_in n ss h s i l j =
    let k = Contains-from_map normal_soft ss s (Contains-from_filter (λ s. nat_lt 0 s.weight && rises 0 s.clause) (map normal_soft ss) s i).0 in
    let e : s.clause ≡ normal_form k.0.clause = ap (λ (t : Soft). t.clause) k.2 in
    h k.0 k.1 l (from_normal_form k.0.clause l (subst (λ (c : List Literal). Contains c l) e j))

zero_paid : (x : Bool) (w : ℕ) → w ≤ 0 → cond x 0 w ≡ 0
zero_paid true w h = refl
zero_paid false w h = omega arith

-- a soft clause costs what its normal form costs, which is nothing where it is left out
one_payable : (a : List Bool) (s : Soft) → ((l : Literal) → Contains s.clause l → 1 ≤ l.variable)
    → paid a s ≡ cond (nat_lt 0 s.weight && rises 0 (normal_form s.clause)) (paid a (normal_soft s)) 0
one_payable a s h =
    let b = nat_lt 0 s.weight && rises 0 (normal_form s.clause) in
    let same : paid a s ≡ paid a (normal_soft s) = ap (λ x. cond x 0 s.weight) (sym (clause_value-normal_form a s.clause)) in
    cond_both b (paid a (normal_soft s)) 0 (λ (y : ℕ). paid a s ≡ y)
    (λ t. same)
    (λ f. elim (and_cases (nat_lt 0 s.weight) (rises 0 (normal_form s.clause)) f) [
      | inl light ↦ zero_paid (clause_value a s.clause) s.weight (ltb-false 0 s.weight light)
      | inr broken ↦ ap (λ x. cond x 0 s.weight) (tautology_true a s.clause h broken)
    ])

pub paid_payable : (a : List Bool) (n : ℕ) (ss : List Soft) → SoftsIn n ss → sum_by (paid a) ss ≡ sum_by (paid a) (payable ss)
paid_payable a n ss h =
    let test : Soft → Bool = λ s. nat_lt 0 s.weight && rises 0 s.clause in
    sum_by_agree (paid a) (λ s. cond (test (normal_soft s)) (paid a (normal_soft s)) 0) ss (λ s i. one_payable a s (λ l j. (h s i l j).0))
    ∙ (sym (sum_by-map (λ s. cond (test s) (paid a s) 0) normal_soft ss) ∙ sym (sum_by-filter (paid a) test (map normal_soft ss)))

abbrev pub weight_of : Soft → ℕ
weight_of s = s.weight

pub cond_le : (b : Bool) (w : ℕ) → cond b w 0 ≤ w
cond_le true w = omega arith
cond_le false w = omega arith

pub payable_weights : (ss : List Soft) → sum_by weight_of (payable ss) ≤ sum_by weight_of ss
payable_weights ss =
    let test : Soft → Bool = λ s. nat_lt 0 s.weight && rises 0 s.clause in
    let e = sum_by-filter weight_of test (map normal_soft ss) ∙ sum_by-map (λ s. cond (test s) s.weight 0) normal_soft ss in
    let l = sum_by_le (λ s. cond (test (normal_soft s)) s.weight 0) weight_of ss (λ s i. cond_le (test (normal_soft s)) s.weight) in
    omega (arith, e, l)

-- a soft clause is empty, a unit clause or long
shape : (a : List Bool) (c : List Literal) (w : ℕ)
    → cond (clause_value a c) 0 w ≡ cond (nat_eq (length c) 0) w 0 + unit_paid (value_of a) c w + cond (nat_le 2 (length c)) (cond (clause_value a c) 0 w) 0
shape a [] w = omega arith
shape a (k ∷ []) w = ap (λ x. cond x 0 w) (or-false (literal_value a k)) ∙ omega arith
shape a (k ∷ (j ∷ c)) w =
    let n = length (k ∷ (j ∷ c)) in
    let x = cond (clause_value a (k ∷ (j ∷ c))) 0 w in
    let some : cond (nat_eq n 0) w 0 ≡ 0 = ap (λ b. cond b w 0) (ne_eqb n 0 (λ e. absurd (omega arith))) in
    let long : cond (nat_le 2 n) x 0 ≡ x = ap (λ b. cond b x 0) (le-leb 2 n (omega arith)) in
    omega (arith, some, long)

one_of : (x : Bool) (w : ℕ) → 0 + cond x 0 w + 0 ≤ w
one_of true w = omega arith
one_of false w = omega arith

shape_weight : (g : ℕ → Bool) (c : List Literal) (w : ℕ) → cond (nat_eq (length c) 0) w 0 + unit_paid g c w + cond (nat_le 2 (length c)) w 0 ≤ w
shape_weight g [] w = omega arith
shape_weight g (k ∷ []) w = one_of (cond k.negative (not (g k.variable)) (g k.variable)) w
shape_weight g (k ∷ (j ∷ c)) w =
    let n = length (k ∷ (j ∷ c)) in
    let some : cond (nat_eq n 0) w 0 ≡ 0 = ap (λ b. cond b w 0) (ne_eqb n 0 (λ e. absurd (omega arith))) in
    let long = cond_le (nat_le 2 n) w in
    omega (arith, some, long)

abbrev empty_part : Soft → ℕ
empty_part s = cond (nat_eq (length s.clause) 0) s.weight 0

abbrev unit_part : (ℕ → Bool) → Soft → ℕ
unit_part g s = unit_paid g s.clause s.weight

abbrev is_long : Soft → Bool
is_long s = nat_le 2 (length s.clause)

split_paid : (a : List Bool) (ps : List Soft) → sum_by (paid a) ps ≡ sum_by empty_part ps + sum_by (unit_part (value_of a)) ps + sum_by (paid a) (filter is_long ps)
split_paid a ps =
    let long : Soft → ℕ = λ s. cond (is_long s) (paid a s) 0 in
    let all = sum_by_agree (paid a) (λ s. empty_part s + unit_part (value_of a) s + long s) ps (λ s i. shape a s.clause s.weight) in
    let first = sum_by_add (λ s. empty_part s + unit_part (value_of a) s) long ps in
    let second = sum_by_add empty_part (unit_part (value_of a)) ps in
    omega (arith, all, first, second, sum_by-filter (paid a) is_long ps)

split_weights : (g : ℕ → Bool) (ps : List Soft) → sum_by empty_part ps + sum_by (unit_part g) ps + sum_by weight_of (filter is_long ps) ≤ sum_by weight_of ps
split_weights g ps =
    let long : Soft → ℕ = λ s. cond (is_long s) s.weight 0 in
    let all = sum_by_le (λ s. empty_part s + unit_part g s + long s) weight_of ps (λ s i. shape_weight g s.clause s.weight) in
    let first = sum_by_add (λ s. empty_part s + unit_part g s) long ps in
    let second = sum_by_add empty_part (unit_part g) ps in
    omega (arith, all, first, second, sum_by-filter weight_of is_long ps)

pub in_formula : (f : Formula) → IsFormula f.vars f.hard f.soft → SoftsIn f.vars f.soft
in_formula f h s i l j = All-contains (IsUpTo f.vars) s.clause l (All-contains (λ (s : Soft). All (IsUpTo f.vars) s.clause) f.soft s h.soft_within i) j

hard_in : (f : Formula) → IsFormula f.vars f.hard f.soft → (c : List Literal) → Contains f.hard c → IsIn f.vars c
hard_in f h c i l j = All-contains (IsUpTo f.vars) c l (All-contains (All (IsUpTo f.vars)) f.hard c h.hard_within i) j

-- a hard clause is true where its normal form is, or is a tautology
from_normal_clauses : (a : List Bool) (cs : List (List Literal)) → ((c : List Literal) → Contains cs c → (l : Literal) → Contains c l → 1 ≤ l.variable) → IsSatisfied a (normal_clauses cs) → IsSatisfied a cs
from_normal_clauses a cs h m =
    IsSatisfied-from a cs (λ c i.
    let n = normal_form c in
    elim (cases_Bool (rises 0 n)) [
      | inl t ↦ sym (clause_value-normal_form a c) ∙ satisfied a (normal_clauses cs) n m (Contains-filter (rises 0) (map normal_form cs) n (Contains-map normal_form cs c i) t)
      | inr f ↦ tautology_true a c (h c i) f
    ])

to_normal_clauses : (a b : List Bool) (cs : List (List Literal)) → ((c : List Literal) → Contains cs c → clause_value a c ≡ clause_value b c) → IsSatisfied a cs → IsSatisfied b (normal_clauses cs)
to_normal_clauses a b cs h m =
    IsSatisfied-from b (normal_clauses cs) (λ d i.
    let k = Contains-from_map normal_form cs d (Contains-from_filter (rises 0) (map normal_form cs) d i).0 in
    ap (clause_value b) k.2 ∙ (clause_value-normal_form b k.0 ∙ (sym (h k.0 k.1) ∙ satisfied a cs k.0 m k.1)))

-- what the view costs: the empty clauses, what is charged on true literals, and the labels
view_cost : (f : Formula) (a : List Bool) → full_cost (label_view f) a
    ≡ empty_weight f.soft + sum_by (λ v. charge_on f.soft (true_at (value_of a) v)) (range_with_len 1 f.vars) + sum_by (charged a) (label_costs f.vars (long_softs f.soft))
view_cost f a =
    let net = charged_net a f.soft f.vars in
    let parts = sum_by-append (charged a) (net_costs f.soft f.vars) (label_costs f.vars (long_softs f.soft)) in
    omega (arith, net, parts)

-- and the instance
instance_cost : (f : Formula) (a : List Bool) → IsFormula f.vars f.hard f.soft
    → cost_of f a ≡ empty_weight f.soft + sum_by (λ v. charge_on f.soft (true_at (value_of a) v)) (range_with_len 1 f.vars) + sum_by (paid a) (long_softs f.soft)
instance_cost f a h =
    let ins = in_formula f h in
    let all = paid_payable a f.vars f.soft ins in
    let parts = split_paid a (payable f.soft) in
    let units = charges_are_paid (value_of a) f.vars (payable f.soft) (payable_in f.vars f.soft ins) in
    omega (arith, all, parts, units)

pub view_total : (f : Formula) → IsFormula f.vars f.hard f.soft → total_of (label_view f) ≤ weights_of f.soft
view_total f h =
    let ins = in_formula f h in
    let g = dearer f.soft in
    let net = weighed_net f.soft f.vars in
    let units = charges_are_paid g f.vars (payable f.soft) (payable_in f.vars f.soft ins) in
    let parts = sum_by-append (λ (p : Cost). p.weight) (net_costs f.soft f.vars) (label_costs f.vars (long_softs f.soft)) in
    let labels = label_weights f.vars (long_softs f.soft) in
    let split = split_weights g (payable f.soft) in
    let weights = payable_weights f.soft in
    omega (arith, net, units, parts, labels, split, weights)

pub label_view_shows : (f : Formula) → IsFormula f.vars f.hard f.soft → IsLabelView f (label_view f)
label_view_shows f h =
    let n = f.vars in
    let ls = long_softs f.soft in
    let hard = normal_clauses f.hard in
    let labels = label_clauses n ls in
    let ins = payable_in n f.soft (in_formula f h) in
    record {
      down = λ a m.
          let first : IsSatisfied a hard = IsSatisfied-from a hard (λ c i. satisfied a (hard ++ labels) c m (Contains-append_left hard labels c i)) in
          let second : IsSatisfied a labels = IsSatisfied-from a labels (λ c i. satisfied a (hard ++ labels) c m (Contains-append_right hard labels c i)) in
          (from_normal_clauses a f.hard (λ c i l j. (hard_in f h c i l j).0) first, omega (arith, view_cost f a, instance_cost f a h, labels_paid a n ls second));
      up = λ a m.
          let b : List Bool = extended n a ls in
          let same : (l : Literal) → 1 ≤ l.variable → l.variable ≤ n → literal_value a l ≡ literal_value b l =
          λ (l : Literal) p q. ap (λ x. cond l.negative (not x) x) (sym (value_of-extended n a ls l.variable p q)) in
          let hard_same : (c : List Literal) → Contains f.hard c → clause_value a c ≡ clause_value b c =
          λ (c : List Literal) i. clause_value-agree a b c (λ l j. let r = hard_in f h c i l j in same l r.0 r.1) in
          let soft_same : (s : Soft) → Contains ls s → clause_value b s.clause ≡ clause_value a s.clause =
          λ (s : Soft) i.
          let k = (Contains-from_filter is_long (payable f.soft) s i).0 in
          sym (clause_value-agree a b s.clause (λ l j. let r = ins s k l j in same l r.0 r.1)) in
          let are = AreLabels-extended a n ls in
          let charges : sum_by (λ v. charge_on f.soft (true_at (value_of b) v)) (range_with_len 1 n) ≡ sum_by (λ v. charge_on f.soft (true_at (value_of a) v)) (range_with_len 1 n) =
          sum_by_agree (λ v. charge_on f.soft (true_at (value_of b) v)) (λ v. charge_on f.soft (true_at (value_of a) v)) (range_with_len 1 n) (λ v i.
          let r = Contains-from_range 1 n v i in
          ap (λ (x : Bool). charge_on f.soft (record { variable = v; negative = not x })) (value_of-extended n a ls v r.0 (omega (arith, r.1)))) in (
            b,
            All-append (λ (c : List Literal). IsTrue (clause_value b c)) hard labels (to_normal_clauses a b f.hard hard_same m) (labels_satisfied a b n ls are soft_same),
            omega (arith, view_cost f b, instance_cost f a h, charges, labels_charged a b n ls are),
          );
      total = view_total f h;
    }
