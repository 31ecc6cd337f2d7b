-- The form with unit soft clauses presents the state, and what else holds of it.
use Rattle.std.proofs.Common.{◌≡◌, ◌<◌, ◌≤◌, ◌+◌, ◌-◌, ◌||◌, ℕ, Bool, true, false, not, IsTrue, List, [], ◌∷◌, All, Contains, get_or, length, map, max, replicate, sum_by, refl, ap, sym, ◌∙◌, subst, arith, inl, inr}
use Rattle.std.specs.Prelude.{nat_eq}
use Rattle.std.specs.List.{list_any, range_with_len}
use Rattle.std.proofs.lemmas.Bool.{or_left, or_right, or_cases, eq-eqb, eqb-true, true≢false, false≢true}
use Rattle.std.proofs.lemmas.List.{length-map, length-replicate, nil_from_length}
use Rattle.std.proofs.lemmas.List.Folds.{Any-from_list_any, list_any_at}
use Rattle.std.proofs.lemmas.List.Elements.{All-contains, Contains-get_or}
use Rattle.std.proofs.lemmas.List.Sorted.{IsPermutation-sym, Contains-permutation, sum_by-IsPermutation}
use Rattle.mp_logic.specs.Literal.{Literal, IsUpTo, negation}
use Rattle.mp_logic.specs.Formula.{Formula, IsFormula}
use Rattle.mp_logic.specs.Truth.{value_of, paid, weights_of, cost_of}
use Rattle.mp_logic.specs.Keeping.{State, IsModel, full_cost, total_of}
use Rattle.mp_logic.specs.Carrying.{WrittenForm, Presents, named, restored}
use Rattle.mp_logic.specs.Labelled.{IsLabelled, names_rise}
use Rattle.mp_logic.specs.EndStates.{NoUnits}
use Rattle.mp_logic.specs.declared.instances.Cost.{Cost}
use Rattle.mp_logic.specs.declared.instances.Soft.{Soft}
use Rattle.mp_logic.proofs.Members.{Contains-first, Contains-later, Contains-one, All-from_contained, satisfied}
use Rattle.mp_labels.specs.UnitForm.{has_variable, has_cost, is_used, names_of, number_of, renamed, soft_of, IsUnitForm, IsPlainForm, Occurs, refuted_form}
use Rattle.mp_labels.proofs.Lists.{Contains-map, Contains-from_map, sum_by-map, Contains-filter, Contains-from_filter, Contains-range}
use Rattle.mp_labels.proofs.Numbers.{filter-range_rises, named_at, number_bounds, number_at_place}
use Rattle.mp_labels.proofs.Renaming.{AgreesUnder, AreNamed, AgreesUnder-values, satisfied-renamed, satisfied-from_renamed, costs-renamed}

any_by : {X : Type 0} (p : X → Bool) (xs : List X) (x : X) → Contains xs x → p x ≡ true → list_any p xs ≡ true
any_by p xs x h t = list_any_at p xs h.0 x h.1 (ap p h.2 ∙ t)

any_from : {X : Type 0} (p : X → Bool) (xs : List X) → list_any p xs ≡ true → (x : X) × Contains xs x × (p x ≡ true)
any_from p xs h = let w = Any-from_list_any p xs h in (w.1, (w.0, w.2, w.3), w.4)

pub names_rising : (s : State) → IsTrue (names_rise 0 s.vars (names_of s))
names_rising s = filter-range_rises (is_used s) 1 s.vars 0 s.vars (omega arith) (omega arith)

is_name : (s : State) (v : ℕ) → 1 ≤ v → v ≤ s.vars → is_used s v ≡ true → Contains (names_of s) v
is_name s v a b u = Contains-filter (is_used s) (range_with_len 1 s.vars) v (Contains-range 1 s.vars v a (omega arith)) u

-- the variables of a state are its names
pub all_named : (s : State) → IsLabelled s.vars s.hard s.costs s.offset → AreNamed (names_of s) s.hard s.costs
all_named s h = record {
  hard = λ c i l j.
      let up = All-contains (IsUpTo s.vars) c l (All-contains (All (IsUpTo s.vars)) s.hard c h.hard_within i) j in
      let own : has_variable l.variable c ≡ true = any_by (λ k. nat_eq k.variable l.variable) c l j (eq-eqb l.variable l.variable refl) in
      is_name s l.variable up.0 up.1 (or_left (list_any (has_variable l.variable) s.hard) (has_cost l.variable s.costs) (any_by (has_variable l.variable) s.hard c i own));
  costs = λ p i.
      let up = All-contains (λ (q : Cost). IsUpTo s.vars q.lit) s.costs p h.costs_within i in
      let own : has_cost p.lit.variable s.costs ≡ true = any_by (λ q. nat_eq q.lit.variable p.lit.variable) s.costs p i (eq-eqb p.lit.variable p.lit.variable refl) in
      is_name s p.lit.variable up.0 up.1 (or_right (list_any (has_variable p.lit.variable) s.hard) (has_cost p.lit.variable s.costs) own);
}

-- the values of the names put back agree with those of the numbers
AgreesUnder-named : (s : State) (a : List Bool) → AgreesUnder (names_of s) (named (names_of s) a (replicate s.vars false)) a
AgreesUnder-named s a = record {
  at = λ v i. named_at (names_of s) 0 s.vars v a (replicate s.vars false) (names_rising s) (omega (arith, length-replicate s.vars false)) i;
}

abbrev pub formula_of : WrittenForm → Formula
formula_of w = w.«instance»

pub presents_units : (s : State) (w : WrittenForm) → IsLabelled s.vars s.hard s.costs s.offset → IsUnitForm s w → Presents s w
presents_units s w h u =
    let names = names_of s in
    let f = formula_of w in
    let are = all_named s h in
    let costs : (a b : List Bool) → AgreesUnder names a b → full_cost s a ≡ cost_of f b + w.offset =
    λ (a : List Bool) (b : List Bool) (g : AgreesUnder names a b).
    let e = costs-renamed names a b s.hard s.costs u.costs g are u.costs_moved in
    let k : cost_of f b ≡ sum_by (paid b) (map (soft_of names) u.costs) = ap (sum_by (paid b)) u.soft in
    omega (arith, e, k, u.offset) in
    record {
      down = λ a m.
          let b : List Bool = named names a (replicate s.vars false) in
          let e : b ≡ restored w.names w.inner w.repairs a =
          ap (λ ns. restored ns s.vars [] a) (sym u.names) ∙ (ap (λ n. restored w.names n [] a) (sym u.inner) ∙ ap (λ rs. restored w.names w.inner rs a) (sym u.repairs)) in
          let g = AgreesUnder-named s a in
          let cost : full_cost s b ≤ cost_of f a + w.offset = omega (arith, costs b a g) in
          subst (λ (x : List Bool). IsModel s x × (full_cost s x ≤ cost_of f a + w.offset)) e (satisfied-from_renamed names b a s.hard f.hard s.costs g are u.hard m, cost);
      up = λ a m.
          let b : List Bool = map (value_of a) names in
          let g = AgreesUnder-values names a in
          (b, satisfied-renamed names a b s.hard f.hard s.costs g are u.hard m, omega (arith, costs a b g));
    }

unsatisfied : (x : Bool) → (x || false) ≡ true → (not x || false) ≡ true → ⊥
unsatisfied true p q = false≢true q
unsatisfied false p q = false≢true p

-- where a hard clause is empty, neither has a model
pub presents_refuted : (s : State) → Contains s.hard [] → Presents s (refuted_form s.vars)
presents_refuted s i = record {
  down = λ a m.
      let hard = (formula_of (refuted_form s.vars)).hard in
      let yes : List Literal = record { variable = 1; negative = false } ∷ [] in
      let no : List Literal = record { variable = 1; negative = true } ∷ [] in
      absurd (unsatisfied (value_of a 1) (satisfied a hard yes m (Contains-first yes (no ∷ []))) (satisfied a hard no m (Contains-later yes (no ∷ []) no (Contains-first no []))));
  up = λ a m. absurd (false≢true (satisfied a s.hard [] m i));
}

pub total_units : (s : State) (w : WrittenForm) → IsUnitForm s w → w.offset + weights_of (formula_of w).soft ≡ total_of s
total_units s w u =
    let e : weights_of (formula_of w).soft ≡ sum_by (λ (p : Cost). p.weight) s.costs =
    ap weights_of u.soft ∙ (sum_by-map (λ (t : Soft). t.weight) (soft_of (names_of s)) u.costs ∙ sum_by-IsPermutation (λ (p : Cost). p.weight) s.costs u.costs u.costs_moved) in
    omega (arith, e, u.offset)

-- a hard clause of the form is one of the state under its numbers
pub hard_origin : (s : State) (w : WrittenForm) → IsUnitForm s w → (d : List Literal) → Contains (formula_of w).hard d → (c : List Literal) × Contains s.hard c × (d ≡ map (renamed (names_of s)) c)
hard_origin s w u d i =
    let f = map (renamed (names_of s)) in
    Contains-from_map f s.hard d (Contains-permutation (formula_of w).hard (map f s.hard) d (IsPermutation-sym (map f s.hard) (formula_of w).hard u.hard) i)

pub soft_origin : (s : State) (w : WrittenForm) → IsUnitForm s w → (t : Soft) → Contains (formula_of w).soft t → (p : Cost) × Contains s.costs p × (t ≡ soft_of (names_of s) p)
soft_origin s w u t i =
    let k = Contains-from_map (soft_of (names_of s)) u.costs t (subst (λ (ts : List Soft). Contains ts t) u.soft i) in
    (k.0, Contains-permutation u.costs s.costs k.0 (IsPermutation-sym s.costs u.costs u.costs_moved) k.1, k.2)

pub no_units_units : (s : State) (w : WrittenForm) → IsUnitForm s w → NoUnits s.hard → NoUnits (formula_of w).hard
no_units_units s w u h =
    All-from_contained (λ (c : List Literal). 2 ≤ length c) (formula_of w).hard (λ d i.
    let k = hard_origin s w u d i in
    let long : 2 ≤ length k.0 = All-contains (λ (c : List Literal). 2 ≤ length c) s.hard k.0 h k.1 in
    omega (arith, long, ap length k.2, length-map k.0 (renamed (names_of s))))

pub weighed_units : (s : State) (w : WrittenForm) → IsLabelled s.vars s.hard s.costs s.offset → IsUnitForm s w → All (λ t. 1 ≤ t.weight) (formula_of w).soft
weighed_units s w h u =
    All-from_contained (λ (t : Soft). 1 ≤ t.weight) (formula_of w).soft (λ t i.
    let k = soft_origin s w u t i in
    let heavy : 1 ≤ k.0.weight = All-contains (λ (p : Cost). 1 ≤ p.weight) s.costs k.0 h.costs_weigh k.1 in
    omega (arith, heavy, ap (λ (t : Soft). t.weight) k.2))

pub formula_units : (s : State) (w : WrittenForm) → IsLabelled s.vars s.hard s.costs s.offset → IsUnitForm s w → IsFormula (formula_of w).vars (formula_of w).hard (formula_of w).soft
formula_units s w h u =
    let names = names_of s in
    let n = (formula_of w).vars in
    let vars = u.vars in
    let are = all_named s h in
    record {
      hard_within = All-from_contained (All (IsUpTo n)) (formula_of w).hard (λ d i.
          let k = hard_origin s w u d i in
          All-from_contained (IsUpTo n) d (λ l j.
          let m = Contains-from_map (renamed names) k.0 l (subst (λ (c : List Literal). Contains c l) k.2 j) in
          let b = number_bounds names m.0.variable (are.hard k.0 k.1 m.0 m.1) in
          let e = ap (λ (l : Literal). l.variable) m.2 in
          (omega (arith, b.0, e), omega (arith, b.1, e))));
      soft_within = All-from_contained (λ (t : Soft). All (IsUpTo n) t.clause) (formula_of w).soft (λ t i.
          let k = soft_origin s w u t i in
          All-from_contained (IsUpTo n) t.clause (λ l j.
          let x : l ≡ negation (renamed names k.0.lit) = Contains-one (negation (renamed names k.0.lit)) l (subst (λ (c : List Literal). Contains c l) (ap (λ (t : Soft). t.clause) k.2) j) in
          let b = number_bounds names k.0.lit.variable (are.costs k.0 k.1) in
          let e = ap (λ (l : Literal). l.variable) x in
          (omega (arith, b.0, e), omega (arith, b.1, e))));
    }

pub all_occur_units : (s : State) (w : WrittenForm) → IsUnitForm s w → (v : ℕ) → 1 ≤ v → v ≤ (formula_of w).vars → Occurs (formula_of w) v
all_occur_units s w u v a b =
    let names = names_of s in
    let place : v - 1 < length names = omega (arith, u.vars) in
    let name = get_or names (v - 1) 0 in
    let number : number_of names name ≡ v = number_at_place names 0 s.vars (v - 1) 0 (names_rising s) place ∙ omega arith in
    let used = (Contains-from_filter (is_used s) (range_with_len 1 s.vars) name (Contains-get_or names (v - 1) 0 place)).1 in
    elim (or_cases (list_any (has_variable name) s.hard) (has_cost name s.costs) used) [
      | inl t ↦
          let c = any_from (has_variable name) s.hard t in
          let l = any_from (λ (k : Literal). nat_eq k.variable name) c.0 c.2 in
          let f = map (renamed names) in
          inl (
            f c.0,
            Contains-permutation (map f s.hard) (formula_of w).hard (f c.0) u.hard (Contains-map f s.hard c.0 c.1),
            (renamed names l.0, Contains-map (renamed names) c.0 l.0 l.1, ap (number_of names) (eqb-true l.0.variable name l.2) ∙ number),
          )
      | inr t ↦
          let p = any_from (λ (q : Cost). nat_eq q.lit.variable name) s.costs t in
          let k = soft_of names p.0 in
          let i : Contains (formula_of w).soft k = subst (λ (ts : List Soft). Contains ts k) (sym u.soft) (Contains-map (soft_of names) u.costs p.0 (Contains-permutation s.costs u.costs p.0 u.costs_moved p.1)) in
          inr (k, i, (negation (renamed names p.0.lit), Contains-first _ [], ap (number_of names) (eqb-true p.0.lit.variable name p.2) ∙ number))
    ]

has_empty : (cs : List (List Literal)) → list_any (λ c. nat_eq (length c) 0) cs ≡ true → Contains cs []
has_empty cs h =
    let w = any_from (λ (c : List Literal). nat_eq (length c) 0) cs h in
    subst (λ (c : List Literal). Contains cs c) (nil_from_length w.0 (eqb-true (length w.0) 0 w.2)) w.1

has_no_empty : (cs : List (List Literal)) → list_any (λ c. nat_eq (length c) 0) cs ≡ false → Contains cs [] → ⊥
has_no_empty cs h i = true≢false (sym (any_by (λ (c : List Literal). nat_eq (length c) 0) cs [] i refl) ∙ h)

-- what the call promises of its answer, besides the form
pub record IsPresented (s : State) (w : WrittenForm) : Type 0 where
  pub form : IsPlainForm s w
  pub presents : Presents s w
  pub total : w.offset + weights_of (formula_of w).soft ≤ total_of s
  pub inner_from : s.vars ≤ w.inner
  pub inner_to : w.inner ≤ max 1 s.vars
  pub no_units : NoUnits s.hard → NoUnits (formula_of w).hard
  pub all_occur : (v : ℕ) → 1 ≤ v → v ≤ (formula_of w).vars → Occurs (formula_of w) v
  pub weighed : All (λ t. 1 ≤ t.weight) (formula_of w).soft

pub IsPresented-units : (s : State) (w : WrittenForm) → IsLabelled s.vars s.hard s.costs s.offset → list_any (λ c. nat_eq (length c) 0) s.hard ≡ false → IsUnitForm s w → IsPresented s w
IsPresented-units s w h e u =
    let total = total_units s w u in
    let inner = u.inner in
    record {
      form = record { refuted = λ i. absurd (has_no_empty s.hard e i); otherwise = λ n. u };
      presents = presents_units s w h u;
      total = omega arith;
      inner_from = omega arith;
      inner_to = omega arith;
      no_units = no_units_units s w u;
      all_occur = all_occur_units s w u;
      weighed = weighed_units s w h u;
    }

pub IsPresented-refuted : (s : State) → list_any (λ c. nat_eq (length c) 0) s.hard ≡ true → IsPresented s (refuted_form s.vars)
IsPresented-refuted s e =
    let i = has_empty s.hard e in
    record {
      form = record { refuted = λ j. refl; otherwise = λ n. absurd (n i) };
      presents = presents_refuted s i;
      total = omega arith;
      inner_from = omega arith;
      inner_to = omega arith;
      no_units = λ h. let short : 2 ≤ length {A = Literal} [] = All-contains (λ (c : List Literal). 2 ≤ length c) s.hard [] h i in absurd (omega arith);
      all_occur = λ v a b.
          let one : Literal = record { variable = 1; negative = false } in
          inl (one ∷ [], Contains-first (one ∷ []) ((negation one ∷ []) ∷ []), (one, Contains-first one [], omega arith));
      weighed = λ k d l. absurd (omega arith);
    }
