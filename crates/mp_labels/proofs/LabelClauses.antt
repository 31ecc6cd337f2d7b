-- Soft clauses with labels: what their models pay, and how a model gets the labels' values.
use Rattle.std.proofs.Common.{◌≡◌, ◌≤◌, ◌+◌, ◌-◌, ◌||◌, ℕ, Bool, true, false, not, cond, IsTrue, List, [], ◌∷◌, ◌++◌, Contains, get_or, length, map, sum_by, refl, ap, sym, ◌∙◌, subst, arith}
use Rattle.std.specs.List.{range_with_len}
use Rattle.std.proofs.Math.Bool.{or-false, or-not_self}
use Rattle.std.proofs.lemmas.Bool.{false≢true}
use Rattle.std.proofs.lemmas.List.{append_assoc, get_or_at, get_or_append_left, length_push}
use Rattle.std.proofs.lemmas.List.FromFn.{get_or-map-range_with_len, length-map-range_with_len}
use Rattle.std.proofs.lemmas.List.Folds.{list_any-append}
use Rattle.std.proofs.lemmas.List.Elements.{All-head, All-tail, All-cons, All-nil}
use Rattle.std.proofs.lemmas.List.Sums.{sum_by-cons}
use Rattle.mp_logic.specs.Literal.{Literal}
use Rattle.mp_logic.specs.Truth.{value_of, literal_value, clause_value, IsSatisfied, paid}
use Rattle.mp_logic.specs.Keeping.{charged}
use Rattle.mp_logic.specs.declared.instances.Cost.{Cost}
use Rattle.mp_logic.specs.declared.instances.Soft.{Soft}
use Rattle.mp_logic.proofs.Members.{Contains-first, Contains-later}
use Rattle.mp_labels.specs.LabelView.{positive, label_clauses, label_costs}
use Rattle.mp_labels.proofs.Lists.{not_cond}

pub clause_value-push : (a : List Bool) (c : List Literal) (l : Literal) → clause_value a (c ++ l ∷ []) ≡ (clause_value a c || literal_value a l)
clause_value-push a c l = list_any-append (literal_value a) c (l ∷ []) ∙ ap (λ b. clause_value a c || b) (or-false (literal_value a l))

pub clause_value-agree : (a b : List Bool) (c : List Literal) → ((l : Literal) → Contains c l → literal_value a l ≡ literal_value b l) → clause_value a c ≡ clause_value b c
clause_value-agree a b [] h = refl
clause_value-agree a b (l ∷ c) h =
    ap (λ x. x || clause_value a c) (h l (Contains-first l c)) ∙ ap (λ x. literal_value b l || x) (clause_value-agree a b c (λ k i. h k (Contains-later l c k i)))

one_paid : (x y : Bool) (w : ℕ) → (x || y) ≡ true → cond x 0 w ≤ cond y w 0
one_paid true true w h = omega arith
one_paid true false w h = omega arith
one_paid false true w h = omega arith
one_paid false false w h = absurd (false≢true h)

-- a model of the clauses pays a false soft clause by its label
pub labels_paid : (a : List Bool) (n : ℕ) (ls : List Soft) → IsSatisfied a (label_clauses n ls) → sum_by (paid a) ls ≤ sum_by (charged a) (label_costs n ls)
labels_paid a n [] m = omega arith
labels_paid a n (s ∷ ls) m =
    let P : List Literal → Type 0 = λ c. IsTrue (clause_value a c) in
    let label = positive (n + 1) in
    let cost : Cost = record { lit = label; weight = s.weight } in
    let c = s.clause ++ label ∷ [] in
    let own = one_paid (clause_value a s.clause) (literal_value a label) s.weight (sym (clause_value-push a s.clause label) ∙ All-head P c (label_clauses (n + 1) ls) m) in
    let rest = labels_paid a (n + 1) ls (All-tail P c (label_clauses (n + 1) ls) m) in
    omega (arith, own, rest, sum_by-cons (paid a) s ls, sum_by-cons (charged a) cost (label_costs (n + 1) ls))

-- in b the label of a soft clause is true exactly where the clause is false in a
abbrev pub AreLabels : List Bool → List Bool → ℕ → List Soft → Type 0
AreLabels a b n [] = Unit {0}
AreLabels a b n (s ∷ ls) = (value_of b (n + 1) ≡ not (clause_value a s.clause)) × AreLabels a b (n + 1) ls

pub labels_satisfied : (a b : List Bool) (n : ℕ) (ls : List Soft) → AreLabels a b n ls → ((s : Soft) → Contains ls s → clause_value b s.clause ≡ clause_value a s.clause) → IsSatisfied b (label_clauses n ls)
labels_satisfied a b n [] h same = All-nil (λ (c : List Literal). IsTrue (clause_value b c))
labels_satisfied a b n (s ∷ ls) h same =
    let P : List Literal → Type 0 = λ c. IsTrue (clause_value b c) in
    let label = positive (n + 1) in
    let x = clause_value a s.clause in
    let own : clause_value b (s.clause ++ label ∷ []) ≡ true =
    clause_value-push b s.clause label ∙ (ap (λ y. y || literal_value b label) (same s (Contains-first s ls)) ∙ (ap (λ y. x || y) h.0 ∙ or-not_self x)) in
    All-cons P (s.clause ++ label ∷ []) (label_clauses (n + 1) ls) own (labels_satisfied a b (n + 1) ls h.1 (λ t i. same t (Contains-later s ls t i)))

pub labels_charged : (a b : List Bool) (n : ℕ) (ls : List Soft) → AreLabels a b n ls → sum_by (charged b) (label_costs n ls) ≡ sum_by (paid a) ls
labels_charged a b n [] h = refl
labels_charged a b n (s ∷ ls) h =
    let label = positive (n + 1) in
    let cost : Cost = record { lit = label; weight = s.weight } in
    let own : charged b cost ≡ paid a s = ap (λ y. cond y s.weight 0) h.0 ∙ not_cond (clause_value a s.clause) s.weight in
    let rest = labels_charged a b (n + 1) ls h.1 in
    omega (arith, own, rest, sum_by-cons (paid a) s ls, sum_by-cons (charged b) cost (label_costs (n + 1) ls))

pub label_weights : (n : ℕ) (ls : List Soft) → sum_by (λ (p : Cost). p.weight) (label_costs n ls) ≡ sum_by (λ (s : Soft). s.weight) ls
label_weights n [] = refl
label_weights n (s ∷ ls) =
    let cost : Cost = record { lit = positive (n + 1); weight = s.weight } in
    omega (arith, label_weights (n + 1) ls, sum_by-cons (λ (s : Soft). s.weight) s ls, sum_by-cons (λ (p : Cost). p.weight) cost (label_costs (n + 1) ls))

-- the values of the first n variables, and then the labels'
abbrev pub extended : ℕ → List Bool → List Soft → List Bool
extended n a ls = map (value_of a) (range_with_len 1 n) ++ map (λ s. not (clause_value a s.clause)) ls

AreLabels-after : (a front : List Bool) (n : ℕ) (ls : List Soft) → length front ≡ n → AreLabels a (front ++ map (λ s. not (clause_value a s.clause)) ls) n ls
AreLabels-after a front n [] e = tt
AreLabels-after a front n (s ∷ ls) e =
    let x = not (clause_value a s.clause) in
    let rest = map (λ (t : Soft). not (clause_value a t.clause)) ls in
    let own : value_of (front ++ x ∷ rest) (n + 1) ≡ x = ap (λ k. get_or (front ++ x ∷ rest) k false) (omega arith) ∙ get_or_at front x rest false n e in
    let longer : length (front ++ x ∷ []) ≡ n + 1 = length_push front x ∙ omega arith in
    (own, subst (λ (b : List Bool). AreLabels a b (n + 1) ls) (append_assoc front (x ∷ []) rest) (AreLabels-after a (front ++ x ∷ []) (n + 1) ls longer))

pub AreLabels-extended : (a : List Bool) (n : ℕ) (ls : List Soft) → AreLabels a (extended n a ls) n ls
AreLabels-extended a n ls = AreLabels-after a (map (value_of a) (range_with_len 1 n)) n ls (length-map-range_with_len (value_of a) 1 n)

pub value_of-extended : (n : ℕ) (a : List Bool) (ls : List Soft) (v : ℕ) → 1 ≤ v → v ≤ n → value_of (extended n a ls) v ≡ value_of a v
value_of-extended n a ls v h l =
    let front = map (value_of a) (range_with_len 1 n) in
    get_or_append_left front (map (λ (s : Soft). not (clause_value a s.clause)) ls) false (v - 1) (omega (arith, length-map-range_with_len (value_of a) 1 n))
    ∙ get_or-map-range_with_len (value_of a) 1 n (v - 1) v false (omega arith) (omega arith)
