-- What unit soft clauses cost, literal by literal.
use Rattle.std.proofs.Common.{◌≡◌, ◌<◌, ◌≤◌, ◌+◌, ◌-◌, ℕ, Bool, true, false, not, cond, List, [], ◌∷◌, ◌++◌, Contains, min, sum_by, refl, ap, sym, ◌∙◌, arith, inl, inr}
use Rattle.std.specs.Prelude.{nat_eq, nat_lt}
use Rattle.std.specs.List.{range_with_len}
use Rattle.std.specs.Ordering.{is_eq}
use Rattle.std.proofs.lemmas.Bool.{cases_Bool, cases_eq, cases_lt, lt-ltb, le-ltb, eq-eqb, ne_eqb, cond-true, cond-false, false_from_ne_true, true≢false, false≢true}
use Rattle.std.proofs.lemmas.List.Sums.{sum_by-cons}
use Rattle.mp_logic.specs.Literal.{Literal, negation}
use Rattle.mp_logic.specs.Normal.{lit_cmp}
use Rattle.mp_logic.specs.Truth.{value_of}
use Rattle.mp_logic.specs.Keeping.{charged}
use Rattle.mp_logic.specs.declared.instances.Cost.{Cost}
use Rattle.mp_logic.specs.declared.instances.Soft.{Soft}
use Rattle.mp_logic.proofs.Members.{Contains-first, Contains-later}
use Rattle.mp_labels.specs.LabelView.{positive, is_unit_of, charge_on, net_cost, net_costs, cancelled}
use Rattle.mp_labels.proofs.Lists.{not_cond, sum_by_add, sum_by_none, sum_by_agree, sum_by-flat_map, sum_by_one}
use Rattle.mp_labels.proofs.NormalForms.{same_from_tie, tie_itself}

-- the value of a literal, where g gives the values of variables
abbrev pub valued : (ℕ → Bool) → Literal → Bool
valued g l = cond l.negative (not (g l.variable)) (g l.variable)

-- the literals of a variable that g makes true and false
abbrev pub true_at : (ℕ → Bool) → ℕ → Literal
true_at g v = record { variable = v; negative = not (g v) }

abbrev pub false_at : (ℕ → Bool) → ℕ → Literal
false_at g v = record { variable = v; negative = not (not (g v)) }

-- what a clause costs, if it is a unit clause
abbrev pub unit_paid : (ℕ → Bool) → List Literal → ℕ → ℕ
unit_paid g [] w = 0
unit_paid g (k ∷ []) w = cond (valued g k) 0 w
unit_paid g (k ∷ (j ∷ c)) w = 0

sign_of_false : (x n : Bool) → cond n (not x) x ≡ false → n ≡ not (not x)
sign_of_false true true h = refl
sign_of_false true false h = absurd (true≢false h)
sign_of_false false true h = absurd (true≢false h)
sign_of_false false false h = refl

value_of_sign : (x n : Bool) → n ≡ not (not x) → cond n (not x) x ≡ false
value_of_sign true true h = refl
value_of_sign true false h = absurd (false≢true h)
value_of_sign false true h = absurd (true≢false h)
value_of_sign false false h = refl

same_parts : (k : Literal) (v : ℕ) (n : Bool) → k.variable ≡ v → k.negative ≡ n → k ≡ record { variable = v; negative = n }
same_parts k v n e f =
    let first : k ≡ record { variable = v; negative = k.negative } = ap (λ (u : ℕ). record { variable = u; negative = k.negative }) e in
    first ∙ ap (λ (m : Bool). record { variable = v; negative = m }) f

-- a literal is the false one of its variable exactly where it is false
tie-false_at : (g : ℕ → Bool) (k : Literal) → is_eq (lit_cmp k (false_at g k.variable)) ≡ not (valued g k)
tie-false_at g k =
    elim (cases_Bool (valued g k)) [
      | inl t ↦
          false_from_ne_true (is_eq (lit_cmp k (false_at g k.variable)))
          (λ e. true≢false (sym t ∙ value_of_sign (g k.variable) k.negative (ap (λ (l : Literal). l.negative) (same_from_tie k (false_at g k.variable) e))))
          ∙ ap not (sym t)
      | inr f ↦
          let same : k ≡ false_at g k.variable = same_parts k k.variable (not (not (g k.variable))) refl (sign_of_false (g k.variable) k.negative f) in
          ap (λ (l : Literal). is_eq (lit_cmp k l)) (sym same) ∙ (tie_itself k ∙ ap not (sym f))
    ]

at_variable : (g : ℕ → Bool) (k : Literal) (w v : ℕ) → cond (is_eq (lit_cmp k (false_at g v))) w 0 ≡ cond (nat_eq k.variable v) (cond (valued g k) 0 w) 0
at_variable g k w v =
    elim (cases_eq k.variable v) [
      | inl e ↦
          ap (λ (u : ℕ). cond (is_eq (lit_cmp k (false_at g u))) w 0) (sym e)
          ∙ (ap (λ b. cond b w 0) (tie-false_at g k) ∙ (not_cond (valued g k) w ∙ sym (cond-true (nat_eq k.variable v) (cond (valued g k) 0 w) 0 (eq-eqb k.variable v e))))
      | inr n ↦
          let apart : is_eq (lit_cmp k (false_at g v)) ≡ false = false_from_ne_true (is_eq (lit_cmp k (false_at g v))) (λ e. n (ap (λ (l : Literal). l.variable) (same_from_tie k (false_at g v) e))) in
          cond-false (is_eq (lit_cmp k (false_at g v))) w 0 apart ∙ sym (cond-false (nat_eq k.variable v) (cond (valued g k) 0 w) 0 (ne_eqb k.variable v n))
    ]

-- the variables of the clause are from 1 to n
abbrev pub IsIn : ℕ → List Literal → Type 0
IsIn n c = (l : Literal) → Contains c l → (1 ≤ l.variable) × (l.variable ≤ n)

-- one clause, over all variables
one_clause : (g : ℕ → Bool) (n : ℕ) (c : List Literal) (w : ℕ) → IsIn n c → sum_by (λ v. cond (is_unit_of (false_at g v) c) w 0) (range_with_len 1 n) ≡ unit_paid g c w
one_clause g n [] w h = sum_by_none (range_with_len 1 n)
one_clause g n (k ∷ []) w h =
    let b = h k (Contains-first k []) in
    sum_by_agree (λ v. cond (is_eq (lit_cmp k (false_at g v))) w 0) (λ v. cond (nat_eq k.variable v) (cond (valued g k) 0 w) 0) (range_with_len 1 n) (λ v i. at_variable g k w v)
    ∙ sum_by_one 1 n k.variable (cond (valued g k) 0 w) b.0 (omega (arith, b.1))
one_clause g n (k ∷ (j ∷ c)) w h = sum_by_none (range_with_len 1 n)

-- what is charged on a literal by these clauses
abbrev pub charges : List Soft → Literal → ℕ
charges ps l = sum_by (λ s. cond (is_unit_of (negation l) s.clause) s.weight 0) ps

-- what is charged on the true literals is what the unit clauses cost
pub charges_are_paid : (g : ℕ → Bool) (n : ℕ) (ps : List Soft) → ((s : Soft) → Contains ps s → IsIn n s.clause)
    → sum_by (λ v. charges ps (true_at g v)) (range_with_len 1 n) ≡ sum_by (λ s. unit_paid g s.clause s.weight) ps
charges_are_paid g n [] h = sum_by_none (range_with_len 1 n)
charges_are_paid g n (s ∷ ps) h =
    let own : ℕ → ℕ = λ v. cond (is_unit_of (false_at g v) s.clause) s.weight 0 in
    let rest : ℕ → ℕ = λ v. charges ps (true_at g v) in
    let split : sum_by (λ v. charges (s ∷ ps) (true_at g v)) (range_with_len 1 n) ≡ sum_by (λ v. own v + rest v) (range_with_len 1 n) =
    sum_by_agree (λ v. charges (s ∷ ps) (true_at g v)) (λ v. own v + rest v) (range_with_len 1 n) (λ v i. sum_by-cons (λ (t : Soft). cond (is_unit_of (false_at g v) t.clause) t.weight 0) s ps) in
    let parts = sum_by_add own rest (range_with_len 1 n) in
    let first = one_clause g n s.clause s.weight (h s (Contains-first s ps)) in
    let more = charges_are_paid g n ps (λ t i. h t (Contains-later s ps t i)) in
    let all = sum_by-cons (λ (t : Soft). unit_paid g t.clause t.weight) s ps in
    omega (arith, split, parts, first, more, all)

pair_sum : (h : Cost → ℕ) (x y : Bool) (c d : Cost) → sum_by h (cond x (c ∷ []) [] ++ cond y (d ∷ []) []) ≡ cond x (h c) 0 + cond y (h d) 0
pair_sum h true true c d = omega (arith, sum_by-cons h c (d ∷ []), sum_by-cons h d [])
pair_sum h true false c d = omega (arith, sum_by-cons h c [])
pair_sum h false true c d = omega (arith, sum_by-cons h d [])
pair_sum h false false c d = omega arith

settled_less : (p q : ℕ) (b : Bool) → p < q → 0 + cond (not b) (q - p) 0 + min p q ≡ cond b p q
settled_less p q true h = omega arith
settled_less p q false h = omega arith

settled_high : (p q : ℕ) (b : Bool) → q < p → cond b (p - q) 0 + 0 + min p q ≡ cond b p q
settled_high p q true h = omega arith
settled_high p q false h = omega arith

settled_even : (p q : ℕ) (b : Bool) → p ≡ q → 0 + 0 + min p q ≡ cond b p q
settled_even p q true h = omega arith
settled_even p q false h = omega arith

settled_more : (p q : ℕ) (b : Bool) → q ≤ p → cond (nat_lt q p) (cond b (p - q) 0) 0 + 0 + min p q ≡ cond b p q
settled_more p q b h =
    elim (cases_lt q p) [
      | inl l ↦ rw (lt-ltb q p l) (settled_high p q b l)
      | inr l ↦ rw (le-ltb q p l) (settled_even p q b (omega arith))
    ]

-- what two opposite charges cost, once the lower is taken from both
settled : (p q : ℕ) (b : Bool) → cond (nat_lt q p) (cond b (p - q) 0) 0 + cond (nat_lt p q) (cond (not b) (q - p) 0) 0 + min p q ≡ cond b p q
settled p q b =
    elim (cases_lt p q) [
      | inl h ↦ rw (lt-ltb p q h, le-ltb q p (omega arith)) (settled_less p q b h)
      | inr h ↦ rw (le-ltb p q h) (settled_more p q b h)
    ]

-- the two charges of a variable
abbrev on_true : List Soft → ℕ → ℕ
on_true ss v = charge_on ss (positive v)

abbrev on_false : List Soft → ℕ → ℕ
on_false ss v = charge_on ss (negation (positive v))

abbrev cost_true : List Soft → ℕ → Cost
cost_true ss v = record { lit = positive v; weight = on_true ss v - on_false ss v }

abbrev cost_false : List Soft → ℕ → Cost
cost_false ss v = record { lit = negation (positive v); weight = on_false ss v - on_true ss v }

-- a sum over the net costs, variable by variable
net_sum : (h : Cost → ℕ) (ss : List Soft) (n : ℕ) → sum_by h (net_costs ss n)
    ≡ sum_by (λ v. cond (nat_lt (on_false ss v) (on_true ss v)) (h (cost_true ss v)) 0 + cond (nat_lt (on_true ss v) (on_false ss v)) (h (cost_false ss v)) 0) (range_with_len 1 n)
net_sum h ss n =
    sum_by-flat_map h (λ v. net_cost ss (positive v) ++ net_cost ss (negation (positive v))) (range_with_len 1 n)
    ∙ sum_by_agree (λ v. sum_by h (net_cost ss (positive v) ++ net_cost ss (negation (positive v))))
    (λ v. cond (nat_lt (on_false ss v) (on_true ss v)) (h (cost_true ss v)) 0 + cond (nat_lt (on_true ss v) (on_false ss v)) (h (cost_false ss v)) 0) (range_with_len 1 n)
    (λ v i. pair_sum h (nat_lt (on_false ss v) (on_true ss v)) (nat_lt (on_true ss v) (on_false ss v)) (cost_true ss v) (cost_false ss v))

chosen : (ss : List Soft) (v : ℕ) (b : Bool) → cond b (on_true ss v) (on_false ss v) ≡ charge_on ss (record { variable = v; negative = not b })
chosen ss v true = refl
chosen ss v false = refl

-- with what is cancelled, each variable costs what is charged on one of its literals
net_and_cancelled : (h : Cost → ℕ) (g : ℕ → Bool) (ss : List Soft) (n : ℕ)
    → ((v : ℕ) → Contains (range_with_len 1 n) v → cond (nat_lt (on_false ss v) (on_true ss v)) (h (cost_true ss v)) 0 + cond (nat_lt (on_true ss v) (on_false ss v)) (h (cost_false ss v)) 0 + min (on_true ss v) (on_false ss v) ≡ cond (g v) (on_true ss v) (on_false ss v))
    → sum_by h (net_costs ss n) + cancelled ss n ≡ sum_by (λ v. charge_on ss (true_at g v)) (range_with_len 1 n)
net_and_cancelled h g ss n each =
    let nets : ℕ → ℕ = λ v. cond (nat_lt (on_false ss v) (on_true ss v)) (h (cost_true ss v)) 0 + cond (nat_lt (on_true ss v) (on_false ss v)) (h (cost_false ss v)) 0 in
    let least : ℕ → ℕ = λ v. min (on_true ss v) (on_false ss v) in
    let sum = net_sum h ss n in
    let parts = sum_by_add nets least (range_with_len 1 n) in
    let all = sum_by_agree (λ v. nets v + least v) (λ v. charge_on ss (true_at g v)) (range_with_len 1 n) (λ v i. each v i ∙ chosen ss v (g v)) in
    omega (arith, sum, parts, all)

-- under an assignment
pub charged_net : (a : List Bool) (ss : List Soft) (n : ℕ) → sum_by (charged a) (net_costs ss n) + cancelled ss n ≡ sum_by (λ v. charge_on ss (true_at (value_of a) v)) (range_with_len 1 n)
charged_net a ss n = net_and_cancelled (charged a) (value_of a) ss n (λ v i. settled (on_true ss v) (on_false ss v) (value_of a v))

-- the greater charge of each variable
abbrev pub dearer : List Soft → ℕ → Bool
dearer ss v = nat_lt (charge_on ss (negation (positive v))) (charge_on ss (positive v))

greatest_rest : (p q : ℕ) → p ≤ q → 0 + cond (nat_lt p q) (q - p) 0 + min p q ≡ q
greatest_rest p q h =
    elim (cases_lt p q) [
      | inl l ↦ rw (lt-ltb p q l) (omega arith)
      | inr l ↦ rw (le-ltb p q l) (omega arith)
    ]

greatest : (p q : ℕ) → cond (nat_lt q p) (p - q) 0 + cond (nat_lt p q) (q - p) 0 + min p q ≡ cond (nat_lt q p) p q
greatest p q =
    elim (cases_lt q p) [
      | inl h ↦ rw (lt-ltb q p h, le-ltb p q (omega arith)) (omega arith)
      | inr h ↦ rw (le-ltb q p h) (greatest_rest p q h)
    ]

pub weighed_net : (ss : List Soft) (n : ℕ) → sum_by (λ (p : Cost). p.weight) (net_costs ss n) + cancelled ss n ≡ sum_by (λ v. charge_on ss (true_at (dearer ss) v)) (range_with_len 1 n)
weighed_net ss n = net_and_cancelled (λ (p : Cost). p.weight) (dearer ss) ss n (λ v i. greatest (on_true ss v) (on_false ss v))
