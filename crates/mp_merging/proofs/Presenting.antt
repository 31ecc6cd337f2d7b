-- Models and costs of the instance that merging makes over the state's own variables.
use Rattle.std.proofs.Common.{◌≡◌, ◌≢◌, ◌≤◌, ◌+◌, ◌||◌, ℕ, Bool, true, false, not, cond, List, [], ◌∷◌, All, Contains, length, map, refl, ap, sym, ◌∙◌, subst, arith, inl, inr}
use Rattle.std.specs.Prelude.{nat_eq}
use Rattle.std.specs.List.{list_any, AllByRecursion, IsDistinct}
use Rattle.std.specs.List.Sorted.{IsPermutation}
use Rattle.std.proofs.lemmas.Bool.{or_cases, cases_eq, cases_Bool, eq-eqb, eqb-true, ne_eqb, true≢false}
use Rattle.std.proofs.lemmas.List.Elements.{All-contains}
use Rattle.std.proofs.lemmas.List.Sorted.{IsPermutation-sym, Contains-permutation, sum_by-IsPermutation}
use Rattle.std.proofs.lemmas.Map.Keys.{IsDistinct-IsPermutation}
use Rattle.mp_logic.specs.Literal.{Literal, IsUpTo, negation}
use Rattle.mp_logic.specs.Formula.{Formula}
use Rattle.mp_logic.specs.Truth.{literal_value, clause_value, IsHardModel, paid, cost_of}
use Rattle.mp_logic.specs.Keeping.{State, IsModel, charged, full_cost}
use Rattle.mp_logic.specs.Labelled.{AreApart, IsLabelled}
use Rattle.mp_logic.specs.declared.instances.Cost.{Cost}
use Rattle.mp_logic.specs.declared.instances.Soft.{Soft}
use Rattle.mp_logic.proofs.Charges.{AreApart-same}
use Rattle.mp_logic.proofs.Literals.{cases_literal, literal_value-negation}
use Rattle.mp_logic.proofs.Members.{Contains-none, Contains-first, Contains-later, Contains-one, Contains-cases, All-from_contained, satisfied, IsSatisfied-from, any_found, witness, true_by, sum_by_le, sum_by_same}
use Rattle.mp_labels.specs.UnitForm.{has_variable}
use Rattle.mp_labels.proofs.Lists.{Contains-from_map, sum_by-map, Contains-filter, Contains-from_filter}
use Rattle.mp_merging.specs.MergedForm.{merged_in, kept_clauses, home_of, without, soft_clause, merged_soft, merged_instance, stands_in}
use Rattle.mp_merging.proofs.Tests.{without-by, without-from}
use Rattle.mp_merging.proofs.Merged.{list_cases, IsMergedInto, merged_cases, cost_for, home_into, home_is, own_variable, IsPlain, plain_literal, plain_cost, soft_at}
use Rattle.mp_merging.proofs.Restoring.{IsRestored, value_same}

abbrev same_variable : Cost → Cost → Bool
same_variable p q = nat_eq p.lit.variable q.lit.variable

flips : (p q : Cost) → same_variable p q ≡ same_variable q p
flips p q =
    elim (cases_eq p.lit.variable q.lit.variable) [
      | inl e ↦ eq-eqb p.lit.variable q.lit.variable e ∙ sym (eq-eqb q.lit.variable p.lit.variable (sym e))
      | inr n ↦ ne_eqb p.lit.variable q.lit.variable n ∙ sym (ne_eqb q.lit.variable p.lit.variable (λ e. n (sym e)))
    ]

each_by : {X : Type 0} (P : X → Type 0) (xs : List X) → ((x : X) → Contains xs x → P x) → AllByRecursion P xs
each_by P [] f = tt
each_by P (x ∷ xs) f = (f x (Contains-first x xs), each_by P xs (λ y i. f y (Contains-later x xs y i)))

each_from : {X : Type 0} (P : X → Type 0) (xs : List X) → AllByRecursion P xs → (x : X) → Contains xs x → P x
each_from P [] h x i = absurd (Contains-none x i)
each_from P (y ∷ xs) h x i = elim (Contains-cases y xs x i) [ inl e ↦ subst P (sym e) h.0 | inr j ↦ each_from P xs h.1 x j ]

distinct_from : (ps : List Cost) → AreApart ps → IsDistinct same_variable ps
unfolding IsDistinct
distinct_from [] h = tt
distinct_from (p ∷ ps) h =
    (each_by (λ (q : Cost). same_variable p q ≡ false) ps (λ q i. ne_eqb p.lit.variable q.lit.variable (λ e. All-contains (λ (q : Cost). q.lit.variable ≢ p.lit.variable) ps q h.0 i (sym e))), distinct_from ps h.1)

apart_from : (ps : List Cost) → IsDistinct same_variable ps → AreApart ps
unfolding IsDistinct
apart_from [] h = tt
apart_from (p ∷ ps) h =
    (All-from_contained (λ (q : Cost). q.lit.variable ≢ p.lit.variable) ps (λ q i e. true≢false (sym (eq-eqb p.lit.variable q.lit.variable (sym e)) ∙ each_from (λ (q : Cost). same_variable p q ≡ false) ps h.0 q i)), apart_from ps h.1)

-- costs in another order are apart
pub apart_moved : (ps qs : List Cost) → IsPermutation ps qs → AreApart ps → AreApart qs
apart_moved ps qs m h = apart_from qs (IsDistinct-IsPermutation same_variable flips ps qs m (distinct_from ps h))

-- the state with its costs in another order
pub record IsOrdered (s : State) (ps : List Cost) : Type 0 where
  pub labelled : IsLabelled s.vars s.hard s.costs s.offset
  pub moved : IsPermutation s.costs ps

pub there : (s : State) (ps : List Cost) (p : Cost) → IsOrdered s ps → Contains ps p → Contains s.costs p
there s ps p o i = Contains-permutation ps s.costs p (IsPermutation-sym s.costs ps o.moved) i

-- the variable of a merged label stands in no clause of the instance
pub not_standing : (s : State) (ps : List Cost) (b : Literal) (c : List Literal) → IsOrdered s ps → IsMergedInto s b c → stands_in (merged_instance s ps) b.variable ≡ true → ⊥
not_standing s ps b c o m t =
    let v = b.variable in
    let f : Formula = merged_instance s ps in
    elim (or_cases (list_any (has_variable v) f.hard) (list_any (λ (u : Soft). has_variable v u.clause) f.soft) t) [
      | inl h ↦
          let d = any_found (has_variable v) (kept_clauses s) h in
          let l = any_found (λ (k : Literal). nat_eq k.variable v) d.0 d.2 in
          let i = Contains-from_filter (λ (e : List Literal). nat_eq (length (merged_in s e)) 0) s.hard d.0 d.1 in
          let own = own_variable s b l.0 c d.0 m i.0 l.1 (eqb-true l.0.variable v l.2) in
          let none = eqb-true (length (merged_in s d.0)) 0 i.1 in
          let one : length (merged_in s d.0) ≡ 1 = ap (λ e. length (merged_in s e)) own.1 ∙ ap length m.is in
          omega (arith, none, one)
      | inr h ↦
          let u = any_found (λ (u : Soft). has_variable v u.clause) (map (merged_soft s) ps) h in
          let w = Contains-from_map (merged_soft s) ps u.0 u.1 in
          let p : Cost = w.0 in
          let l = any_found (λ (k : Literal). nat_eq k.variable v) u.0.clause u.2 in
          let e : l.0.variable ≡ v = eqb-true l.0.variable v l.2 in
          let j : Contains (soft_clause p.lit (home_of s p.lit)) l.0 = subst (λ (ls : List Literal). Contains ls l.0) (ap (λ (x : Soft). x.clause) w.2) l.1 in
          let i = there s ps p o w.1 in
          elim (list_cases (home_of s p.lit)) [
            | inl none ↦
                let k : l.0 ≡ negation p.lit = Contains-one (negation p.lit) l.0 (subst (λ hs. Contains (soft_clause p.lit hs) l.0) none j) in
                let q = cost_for s b c m in
                let same : q.0 ≡ p = AreApart-same s.costs q.0 p o.labelled.costs_apart q.1 i (ap (λ (x : Literal). x.variable) q.2 ∙ (sym e ∙ ap (λ (x : Literal). x.variable) k)) in
                let lit : b ≡ p.lit = sym q.2 ∙ ap (λ (x : Cost). x.lit) same in
                Contains-none c (subst (λ hs. Contains hs c) (sym (home_is s b c m) ∙ (ap (home_of s) lit ∙ none)) (Contains-first c []))
            | inr x ↦
                let d : List Literal = x.0 in
                let n = home_into s p.lit d (subst (λ hs. Contains hs d) (sym x.2) (Contains-first d x.1)) in
                let k = without-from p.lit l.0 d (subst (λ hs. Contains (soft_clause p.lit hs) l.0) (home_is s p.lit d n) j) in
                let own = own_variable s b l.0 c d m n.hard k.0 e in
                let lits : p.lit ∷ [] ≡ b ∷ [] = sym n.is ∙ (ap (merged_in s) own.1 ∙ m.is) in
                k.1 (own.0 ∙ sym (cc lits))
          ]
    ]

flipped : (x : Bool) (w : ℕ) → cond (not x || false) 0 w ≡ cond x w 0
flipped true w = refl
flipped false w = refl

turned : (x : Bool) (w : ℕ) → cond (not x) w 0 ≡ cond x 0 w
turned true w = refl
turned false w = refl

-- the unit soft clause costs what the cost literal does
unit_paid : (a : List Bool) (p : Cost) → paid a (soft_at p []) ≡ charged a p
unit_paid a p = ap (λ x. cond (x || false) 0 p.weight) (literal_value-negation a p.lit) ∙ flipped (literal_value a p.lit) p.weight

-- a model of the instance with its merged labels brought back
pub record IsDown (s : State) (ps : List Cost) (x y : List Bool) : Type 0 where
  pub ordered : IsOrdered s ps
  pub model : IsHardModel (merged_instance s ps) x
  pub back : IsRestored s ps x y

plain_value : (s : State) (ps : List Cost) (x y : List Bool) (k : Literal) → IsDown s ps x y → 1 ≤ k.variable → IsPlain s k.variable → literal_value y k ≡ literal_value x k
plain_value s ps x y k d q n = d.back.others k q (λ p i e. n p (there s ps p d.ordered i) e)

literal_from_one : (s : State) (c : List Literal) (k : Literal) → IsLabelled s.vars s.hard s.costs s.offset → Contains s.hard c → Contains c k → 1 ≤ k.variable
literal_from_one s c k h i j = (All-contains (IsUpTo s.vars) c k (All-contains (All (IsUpTo s.vars)) s.hard c h.hard_within i) j).0

clause_holds : (s : State) (ps : List Cost) (x y : List Bool) (c : List Literal) → IsDown s ps x y → Contains s.hard c → clause_value y c ≡ true
clause_holds s ps x y c d i =
    let h = d.ordered.labelled in
    let plain : (k : Literal) → Contains c k → (merged_in s c ≡ k ∷ [] → ⊥) → literal_value y k ≡ literal_value x k =
    λ (k : Literal) (j : Contains c k) (n : merged_in s c ≡ k ∷ [] → ⊥). plain_value s ps x y k d (literal_from_one s c k h i j) (plain_literal s c k i j n) in
    elim (merged_cases s c i) [
      | inl none ↦
          let kept = Contains-filter (λ (e : List Literal). nat_eq (length (merged_in s e)) 0) s.hard c i (ap (λ ls. nat_eq (length ls) 0) none) in
          value_same x y c (λ k j. plain k j (λ e. absurd (cc (sym none ∙ e)))) ∙ satisfied x (kept_clauses s) c d.model kept
      | inr w ↦
          let b : Literal = w.0 in
          let m = w.1 in
          let q = cost_for s b c m in
          let p : Cost = q.0 in
          let rest = without b c in
          elim (cases_Bool (clause_value x rest)) [
            | inl holds ↦
                let k = witness x rest holds in
                let o = without-from b k.0 c k.1 in
                true_by y c k.0 o.0 (plain k.0 o.0 (λ e. let lits : b ∷ [] ≡ k.0 ∷ [] = sym m.is ∙ e in o.1 (sym (cc lits))) ∙ k.2)
            | inr fails ↦
                let own = d.back.own p (Contains-permutation s.costs ps p d.ordered.moved q.1) c (subst (λ l. IsMergedInto s l c) (sym q.2) m) in
                let made : literal_value y b ≡ not (clause_value x rest) = subst (λ l. literal_value y l ≡ not (clause_value x (without l c))) q.2 own in
                true_by y c b m.own (made ∙ ap not fails)
          ]
    ]

pub down_model : (s : State) (ps : List Cost) (x y : List Bool) → IsDown s ps x y → IsModel s y
down_model s ps x y d = IsSatisfied-from y s.hard (λ c i. clause_holds s ps x y c d i)

cost_back : (s : State) (ps : List Cost) (x y : List Bool) (p : Cost) → IsDown s ps x y → Contains ps p → charged y p ≡ paid x (merged_soft s p)
cost_back s ps x y p d i =
    let h = d.ordered.labelled in
    let j = there s ps p d.ordered i in
    let goal : List (List Literal) → Type 0 = λ hs. charged y p ≡ paid x (soft_at p hs) in
    elim (list_cases (home_of s p.lit)) [
      | inl none ↦
          let up = All-contains (λ (q : Cost). IsUpTo s.vars q.lit) s.costs p h.costs_within j in
          let same = plain_value s ps x y p.lit d up.0 (plain_cost s p h.costs_apart j none) in
          subst goal (sym none) (ap (λ t. cond t p.weight 0) same ∙ sym (unit_paid x p))
      | inr w ↦
          let c : List Literal = w.0 in
          let m = home_into s p.lit c (subst (λ hs. Contains hs c) (sym w.2) (Contains-first c w.1)) in
          subst goal (sym (home_is s p.lit c m)) (ap (λ t. cond t p.weight 0) (d.back.own p i c m) ∙ turned (clause_value x (without p.lit c)) p.weight)
    ]

pub down_cost : (s : State) (ps : List Cost) (x y : List Bool) → IsDown s ps x y → full_cost s y ≡ cost_of (merged_instance s ps) x + s.offset
down_cost s ps x y d =
    let moved = sum_by-IsPermutation (charged y) s.costs ps d.ordered.moved in
    let each = sum_by_same (charged y) (λ p. paid x (merged_soft s p)) ps (λ p i. cost_back s ps x y p d i) in
    let mapped = sum_by-map (paid x) (merged_soft s) ps in
    omega (arith, moved, each, mapped)

up_paid : (s : State) (ps : List Cost) (a : List Bool) (p : Cost) → IsOrdered s ps → IsModel s a → Contains ps p → paid a (merged_soft s p) ≤ charged a p
up_paid s ps a p o model i =
    let goal : List (List Literal) → Type 0 = λ hs. paid a (soft_at p hs) ≤ charged a p in
    elim (list_cases (home_of s p.lit)) [
      | inl none ↦ subst goal (sym none) (omega (arith, unit_paid a p))
      | inr w ↦
          let c : List Literal = w.0 in
          let m = home_into s p.lit c (subst (λ hs. Contains hs c) (sym w.2) (Contains-first c w.1)) in
          let rest = without p.lit c in
          let step : (t : Bool) → clause_value a rest ≡ t → cond t 0 p.weight ≤ charged a p =
          λ (t : Bool). elim t as (λ t. clause_value a rest ≡ t → cond t 0 p.weight ≤ charged a p) [
            | true ↦ λ e. omega arith
            | false ↦ λ e.
                let k = witness a c (satisfied a s.hard c model m.hard) in
                let own : literal_value a p.lit ≡ true =
                elim (cases_literal k.0 p.lit) [
                  | inl f ↦ ap (literal_value a) (sym f) ∙ k.2
                  | inr n ↦ absurd (true≢false (sym (true_by a rest k.0 (without-by p.lit k.0 c k.1 n) k.2) ∙ e))
                ] in
                let all : charged a p ≡ p.weight = ap (λ t. cond t p.weight 0) own in
                omega (arith, all)
          ] in
          subst goal (sym (home_is s p.lit c m)) (step (clause_value a rest) refl)
    ]

pub up_cost : (s : State) (ps : List Cost) (a : List Bool) → IsOrdered s ps → IsModel s a → cost_of (merged_instance s ps) a + s.offset ≤ full_cost s a
up_cost s ps a o model =
    let moved = sum_by-IsPermutation (charged a) s.costs ps o.moved in
    let each = sum_by_le (λ p. paid a (merged_soft s p)) (charged a) ps (λ p i. up_paid s ps a p o model i) in
    let mapped = sum_by-map (paid a) (merged_soft s) ps in
    omega (arith, moved, each, mapped)

pub up_model : (s : State) (ps : List Cost) (a : List Bool) → IsModel s a → IsHardModel (merged_instance s ps) a
up_model s ps a model = IsSatisfied-from a (kept_clauses s) (λ c i. satisfied a s.hard c model (Contains-from_filter _ s.hard c i).0)
