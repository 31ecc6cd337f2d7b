-- The label view meets the conditions of a labelled state.
use Rattle.std.proofs.Common.{◌≡◌, ◌≢◌, ◌<◌, ◌≤◌, ◌+◌, ◌-◌, ◌&&◌, ℕ, zero, suc, Bool, true, false, cond, IsTrue, List, [], ◌∷◌, ◌++◌, All, Contains, length, map, refl, ap, subst, arith, inl, inr}
use Rattle.std.specs.Prelude.{nat_lt, nat_le}
use Rattle.std.specs.List.{flat_map, range_with_len}
use Rattle.std.proofs.lemmas.Bool.{and_parts, and_from, ltb-true, lt-ltb}
use Rattle.std.proofs.lemmas.List.Elements.{All-nil, All-cons, All-append, All-contains, Contains-append_cases}
use Rattle.mp_logic.specs.Literal.{Literal, IsUpTo, negation}
use Rattle.mp_logic.specs.Formula.{Formula, IsFormula}
use Rattle.mp_logic.specs.Normal.{rises}
use Rattle.mp_logic.specs.Truth.{weights_of}
use Rattle.mp_logic.specs.Weights.{weight_bound}
use Rattle.mp_logic.specs.Labelled.{AreApart, IsLabelled}
use Rattle.mp_logic.specs.declared.instances.Cost.{Cost}
use Rattle.mp_logic.specs.declared.instances.Soft.{Soft}
use Rattle.mp_logic.proofs.Members.{Contains-none, Contains-first, Contains-later, Contains-cases, Contains-one, All-from_contained}
use Rattle.mp_labels.specs.LabelView.{positive, normal_form, normal_clauses, normal_soft, payable, long_softs, label_clauses, label_costs, charge_on, net_cost, net_costs, label_view}
use Rattle.mp_labels.proofs.Lists.{Contains-from_map, Contains-from_filter, Contains-from_range}
use Rattle.mp_labels.proofs.NormalForms.{from_normal_form}
use Rattle.mp_labels.proofs.Charging.{IsIn}
use Rattle.mp_labels.proofs.View.{payable_in, in_formula, view_total}

rises-push : (m : ℕ) (c : List Literal) (l : Literal) → rises m c ≡ true → ((k : Literal) → Contains c k → k.variable < l.variable) → m < l.variable → rises m (c ++ l ∷ []) ≡ true
rises-push m [] l h up lt = and_from (nat_lt m l.variable) true (lt-ltb m l.variable lt) refl
rises-push m (k ∷ c) l h up lt =
    let parts = and_parts (nat_lt m k.variable) (rises k.variable c) h in
    and_from (nat_lt m k.variable) (rises k.variable (c ++ l ∷ [])) parts.0 (rises-push k.variable c l parts.1 (λ j i. up j (Contains-later k c j i)) (up k (Contains-first k c)))

-- what holds of each long soft clause, over the first m variables
record IsLong (m : ℕ) (s : Soft) : Type 0 where
  within : IsIn m s.clause
  normal : rises 0 s.clause ≡ true
  weight : 1 ≤ s.weight

long_in : (f : Formula) → IsFormula f.vars f.hard f.soft → (s : Soft) → Contains (long_softs f.soft) s → IsLong f.vars s
long_in f h s i =
    let j = (Contains-from_filter (λ (s : Soft). nat_le 2 (length s.clause)) (payable f.soft) s i).0 in
    let k = and_parts (nat_lt 0 s.weight) (rises 0 s.clause) (Contains-from_filter (λ (s : Soft). nat_lt 0 s.weight && rises 0 s.clause) (map normal_soft f.soft) s j).1 in
    record { within = payable_in f.vars f.soft (in_formula f h) s j; normal = k.1; weight = ltb-true 0 s.weight k.0 }

labels_within : (m n top : ℕ) (ls : List Soft) → m ≤ n → n + length ls ≤ top → ((s : Soft) → Contains ls s → IsLong m s) → All (All (IsUpTo top)) (label_clauses n ls)
labels_within m n top [] a b h = All-nil (All (IsUpTo top))
labels_within m n top (s ∷ ls) a b h =
    let own : All (IsUpTo top) (s.clause ++ positive (n + 1) ∷ []) =
    All-append (IsUpTo top) s.clause (positive (n + 1) ∷ [])
    (All-from_contained (IsUpTo top) s.clause (λ l i. let w = (h s (Contains-first s ls)).within l i in (omega (arith, w.0), omega (arith, w.1))))
    (All-cons (IsUpTo top) (positive (n + 1)) [] (omega arith, omega arith) (All-nil (IsUpTo top))) in
    All-cons (All (IsUpTo top)) (s.clause ++ positive (n + 1) ∷ []) (label_clauses (n + 1) ls) own (labels_within m (n + 1) top ls (omega arith) (omega arith) (λ t i. h t (Contains-later s ls t i)))

labels_normal : (m n : ℕ) (ls : List Soft) → m ≤ n → ((s : Soft) → Contains ls s → IsLong m s) → All (λ c. IsTrue (rises 0 c)) (label_clauses n ls)
labels_normal m n [] a h = All-nil (λ (c : List Literal). IsTrue (rises 0 c))
labels_normal m n (s ∷ ls) a h =
    let it = h s (Contains-first s ls) in
    All-cons (λ (c : List Literal). IsTrue (rises 0 c)) (s.clause ++ positive (n + 1) ∷ []) (label_clauses (n + 1) ls)
    (rises-push 0 s.clause (positive (n + 1)) it.normal (λ l i. let w = it.within l i in omega (arith, w.1)) (omega arith))
    (labels_normal m (n + 1) ls (omega arith) (λ t i. h t (Contains-later s ls t i)))

-- what holds of a label's cost
record IsLabelCost (n top : ℕ) (p : Cost) : Type 0 where
  above : n < p.lit.variable
  within : p.lit.variable ≤ top
  weight : 1 ≤ p.weight

label_cost : (m n top : ℕ) (ls : List Soft) → n + length ls ≤ top → ((s : Soft) → Contains ls s → IsLong m s) → (p : Cost) → Contains (label_costs n ls) p → IsLabelCost n top p
label_cost m n top [] b h p i = absurd (Contains-none p i)
label_cost m n top (s ∷ ls) b h p i =
    let own : Cost = record { lit = positive (n + 1); weight = s.weight } in
    elim (Contains-cases own (label_costs (n + 1) ls) p i) [
      | inl e ↦
          let heavy = (h s (Contains-first s ls)).weight in
          let v = ap (λ (q : Cost). q.lit.variable) e in
          let w = ap (λ (q : Cost). q.weight) e in
          record { above = omega arith; within = omega arith; weight = omega arith }
      | inr j ↦
          let r = label_cost m (n + 1) top ls (omega arith) (λ t i. h t (Contains-later s ls t i)) p j in
          record { above = omega (arith, r.above); within = r.within; weight = r.weight }
    ]

labels_apart : (m n : ℕ) (ls : List Soft) → ((s : Soft) → Contains ls s → IsLong m s) → AreApart (label_costs n ls)
labels_apart m n [] h = tt
labels_apart m n (s ∷ ls) h =
    let own : Cost = record { lit = positive (n + 1); weight = s.weight } in (
      All-from_contained (λ (q : Cost). q.lit.variable ≢ n + 1) (label_costs (n + 1) ls)
          (λ q i e. let r = label_cost m (n + 1) (n + 1 + length ls) ls (omega arith) (λ t i. h t (Contains-later s ls t i)) q i in absurd (omega (arith, r.above))),
      labels_apart m (n + 1) ls (λ t i. h t (Contains-later s ls t i)),
    )

apart-append : (ps qs : List Cost) → AreApart ps → AreApart qs → ((p : Cost) → Contains ps p → (q : Cost) → Contains qs q → q.lit.variable ≢ p.lit.variable) → AreApart (ps ++ qs)
apart-append [] qs a b h = b
apart-append (p ∷ ps) qs a b h = (
  All-append (λ (q : Cost). q.lit.variable ≢ p.lit.variable) ps qs a.0 (All-from_contained (λ (q : Cost). q.lit.variable ≢ p.lit.variable) qs (λ q i. h p (Contains-first p ps) q i)),
  apart-append ps qs a.1 b (λ r i q j. h r (Contains-later p ps r i) q j),
)

-- what holds of a net cost of the variable v
record IsNetCost (v : ℕ) (p : Cost) : Type 0 where
  variable : p.lit.variable ≡ v
  weight : 1 ≤ p.weight

in_one : (t : Bool) (c p : Cost) → Contains (cond t (c ∷ []) []) p → (t ≡ true) × (p ≡ c)
in_one true c p i = (refl, Contains-one c p i)
in_one false c p i = absurd (Contains-none p i)

net_one : (ss : List Soft) (l : Literal) (p : Cost) → Contains (net_cost ss l) p → IsNetCost l.variable p
net_one ss l p i =
    let c : Cost = record { lit = l; weight = charge_on ss l - charge_on ss (negation l) } in
    let w = in_one (nat_lt (charge_on ss (negation l)) (charge_on ss l)) c p i in
    let more = ltb-true (charge_on ss (negation l)) (charge_on ss l) w.0 in
    let weight = ap (λ (q : Cost). q.weight) w.1 in
    record { variable = ap (λ (q : Cost). q.lit.variable) w.1; weight = omega arith }

abbrev nets : List Soft → ℕ → List Cost
nets ss v = net_cost ss (positive v) ++ net_cost ss (negation (positive v))

net_at : (ss : List Soft) (v : ℕ) (p : Cost) → Contains (nets ss v) p → IsNetCost v p
net_at ss v p i =
    elim (Contains-append_cases (net_cost ss (positive v)) (net_cost ss (negation (positive v))) p i) [
      | inl j ↦ net_one ss (positive v) p j
      | inr j ↦ net_one ss (negation (positive v)) p j
    ]

not_both : (p q : ℕ) → nat_lt q p ≡ true → nat_lt p q ≡ true → ⊥
not_both p q h k = let a = ltb-true q p h in let b = ltb-true p q k in absurd (omega arith)

one_apart : (x y : Bool) (c d : Cost) → (x ≡ true → y ≡ true → ⊥) → AreApart (cond x (c ∷ []) [] ++ cond y (d ∷ []) [])
one_apart true true c d h = absurd (h refl refl)
one_apart true false c d h = (All-nil (λ (q : Cost). q.lit.variable ≢ c.lit.variable), tt)
one_apart false true c d h = (All-nil (λ (q : Cost). q.lit.variable ≢ d.lit.variable), tt)
one_apart false false c d h = tt

in_flat_map : {X Y : Type 0} (F : X → List Y) (xs : List X) (y : Y) → Contains (flat_map F xs) y → (x : X) × Contains xs x × Contains (F x) y
in_flat_map F [] y h = absurd (Contains-none y h)
in_flat_map F (x ∷ xs) y h =
    elim (Contains-append_cases (F x) (flat_map F xs) y h) [
      | inl i ↦ (x, Contains-first x xs, i)
      | inr i ↦ let w = in_flat_map F xs y i in (w.0, Contains-later x xs w.0 w.1, w.2)
    ]

nets_apart : (ss : List Soft) (a n : ℕ) → AreApart (flat_map (nets ss) (range_with_len a n))
nets_apart ss a zero = tt
nets_apart ss a (suc n) =
    let p = charge_on ss (positive a) in
    let q = charge_on ss (negation (positive a)) in
    apart-append (nets ss a) (flat_map (nets ss) (range_with_len (a + 1) n))
    (one_apart (nat_lt q p) (nat_lt p q) (record { lit = positive a; weight = p - q }) (record { lit = negation (positive a); weight = q - p }) (not_both p q))
    (nets_apart ss (a + 1) n)
    (λ c i d j e.
    let w = in_flat_map (nets ss) (range_with_len (a + 1) n) d j in
    let r = Contains-from_range (a + 1) n w.0 w.1 in
    let x = (net_at ss a c i).variable in
    let y = (net_at ss w.0 d w.2).variable in
    absurd (omega (arith, r.0)))

net_in : (ss : List Soft) (n : ℕ) (p : Cost) → Contains (net_costs ss n) p → IsUpTo n p.lit × (1 ≤ p.weight)
net_in ss n p i =
    let w = in_flat_map (nets ss) (range_with_len 1 n) p i in
    let r = Contains-from_range 1 n w.0 w.1 in
    let c = net_at ss w.0 p w.2 in
    ((omega (arith, r.0, c.variable), omega (arith, r.1, c.variable)), c.weight)

pub is_labelled_view : (f : Formula) → IsFormula f.vars f.hard f.soft → weights_of f.soft < weight_bound → IsLabelled (label_view f).vars (label_view f).hard (label_view f).costs (label_view f).offset
is_labelled_view f h light =
    let n = f.vars in
    let ls = long_softs f.soft in
    let top = n + length ls in
    let longs = long_in f h in
    let costs = label_cost n n top ls (omega arith) longs in
    let normals = normal_clauses f.hard in
    let total = view_total f h in
    record {
      hard_within = All-append (All (IsUpTo top)) normals (label_clauses n ls)
          (All-from_contained (All (IsUpTo top)) normals (λ c i.
          let k = Contains-from_map normal_form f.hard c (Contains-from_filter (rises 0) (map normal_form f.hard) c i).0 in
          All-from_contained (IsUpTo top) c (λ l j.
          let w = All-contains (IsUpTo n) k.0 l (All-contains (All (IsUpTo n)) f.hard k.0 h.hard_within k.1) (from_normal_form k.0 l (subst (λ (d : List Literal). Contains d l) k.2 j)) in
          (omega (arith, w.0), omega (arith, w.1)))))
          (labels_within n n top ls (omega arith) (omega arith) longs);
      hard_normal = All-append (λ (c : List Literal). IsTrue (rises 0 c)) normals (label_clauses n ls)
          (All-from_contained (λ (c : List Literal). IsTrue (rises 0 c)) normals (λ c i. (Contains-from_filter (rises 0) (map normal_form f.hard) c i).1))
          (labels_normal n n ls (omega arith) longs);
      costs_within = All-append (λ (p : Cost). IsUpTo top p.lit) (net_costs f.soft n) (label_costs n ls)
          (All-from_contained (λ (p : Cost). IsUpTo top p.lit) (net_costs f.soft n) (λ p i. let w = (net_in f.soft n p i).0 in (omega (arith, w.0), omega (arith, w.1))))
          (All-from_contained (λ (p : Cost). IsUpTo top p.lit) (label_costs n ls) (λ p i. let w = costs p i in (omega (arith, w.above), w.within)));
      costs_weigh = All-append (λ (p : Cost). 1 ≤ p.weight) (net_costs f.soft n) (label_costs n ls)
          (All-from_contained (λ (p : Cost). 1 ≤ p.weight) (net_costs f.soft n) (λ p i. (net_in f.soft n p i).1))
          (All-from_contained (λ (p : Cost). 1 ≤ p.weight) (label_costs n ls) (λ p i. (costs p i).weight));
      costs_apart = apart-append (net_costs f.soft n) (label_costs n ls) (nets_apart f.soft 1 n) (labels_apart n n ls longs)
          (λ p i q j e. let w = (net_in f.soft n p i).0 in let r = costs q j in absurd (omega (arith, w.1, r.above)));
      below = omega (arith, total);
    }
