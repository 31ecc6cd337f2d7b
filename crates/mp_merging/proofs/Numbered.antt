-- An instance under the numbers of its variables: its names, its models and its costs.
use Rattle.std.proofs.Common.{◌≡◌, ◌≢◌, ◌<◌, ◌≤◌, ◌-◌, ◌||◌, ℕ, zero, suc, Bool, true, false, cond, IsTrue, List, [], ◌∷◌, All, Contains, get_or, set, length, map, drop, filter, replicate, sum_by, refl, ap, sym, ◌∙◌, subst, arith, inl, inr}
use Rattle.std.specs.Prelude.{nat_eq}
use Rattle.std.specs.List.{list_any, range_with_len}
use Rattle.std.specs.List.Sorted.{IsPermutation, IsSorted}
use Rattle.std.specs.Cmp.Lexicographic.{slice_cmp}
use Rattle.std.proofs.lemmas.Bool.{or_left, or_right, or_cases, eq-eqb, eqb-true}
use Rattle.std.proofs.lemmas.List.{get_or-set_other}
use Rattle.std.proofs.lemmas.List.Elements.{All-contains, Contains-get_or}
use Rattle.std.proofs.lemmas.List.Sorted.{IsPermutation-sym, Contains-permutation}
use Rattle.mp_logic.specs.Literal.{Literal, IsUpTo}
use Rattle.mp_logic.specs.Formula.{Formula, IsFormula}
use Rattle.mp_logic.specs.Truth.{value_of, paid, IsHardModel, cost_of, weights_of}
use Rattle.mp_logic.specs.Carrying.{named}
use Rattle.mp_logic.specs.Labelled.{names_rise}
use Rattle.mp_logic.specs.Normal.{lit_cmp}
use Rattle.mp_logic.specs.declared.instances.Soft.{Soft}
use Rattle.mp_logic.proofs.Members.{Contains-none, Contains-first, Contains-later, any_found, any_by, All-from_contained}
use Rattle.mp_labels.specs.UnitForm.{has_variable, number_of, renamed, Occurs}
use Rattle.mp_labels.specs.Tables.{IsNumbering, HasNumber, by_number}
use Rattle.mp_labels.proofs.Lists.{Contains-map, Contains-from_map, sum_by-map, sum_by_agree, map_agree_at, filter_agree_at, Contains-filter, Contains-from_filter, Contains-range, Contains-from_range}
use Rattle.mp_labels.proofs.Numbers.{filter-range_rises, number_bounds, number_at_place}
use Rattle.mp_labels.proofs.Renaming.{AgreesUnder, AreNamed, clause_value-renamed, satisfied-renamed, satisfied-from_renamed}
use Rattle.mp_merging.specs.MergedForm.{stands_in, variables_of, renamed_soft, IsRenumbered}
use Rattle.mp_merging.specs.Tables.{soft_by_number}

pub variables_rising : (f : Formula) → IsTrue (names_rise 0 f.vars (variables_of f))
variables_rising f = filter-range_rises (stands_in f) 1 f.vars 0 f.vars (omega arith) (omega arith)

-- the variables of all clauses are names
pub record AreVariables (f : Formula) : Type 0 where
  pub hard : (c : List Literal) → Contains f.hard c → (l : Literal) → Contains c l → Contains (variables_of f) l.variable
  pub soft : (t : Soft) → Contains f.soft t → (l : Literal) → Contains t.clause l → Contains (variables_of f) l.variable

is_variable : (f : Formula) (v : ℕ) → 1 ≤ v → v ≤ f.vars → stands_in f v ≡ true → Contains (variables_of f) v
is_variable f v a b u = Contains-filter (stands_in f) (range_with_len 1 f.vars) v (Contains-range 1 f.vars v a (omega arith)) u

has_own : (l : Literal) (c : List Literal) → Contains c l → has_variable l.variable c ≡ true
has_own l c i = any_by (λ k. nat_eq k.variable l.variable) c l i (eq-eqb l.variable l.variable refl)

pub all_stand : (f : Formula) → IsFormula f.vars f.hard f.soft → AreVariables f
all_stand f h = record {
  hard = λ c i l j.
      let up = All-contains (IsUpTo f.vars) c l (All-contains (All (IsUpTo f.vars)) f.hard c h.hard_within i) j in
      is_variable f l.variable up.0 up.1 (or_left (list_any (has_variable l.variable) f.hard) _ (any_by (has_variable l.variable) f.hard c i (has_own l c j)));
  soft = λ t i l j.
      let up = All-contains (IsUpTo f.vars) t.clause l (All-contains (λ (u : Soft). All (IsUpTo f.vars) u.clause) f.soft t h.soft_within i) j in
      is_variable f l.variable up.0 up.1 (or_right (list_any (has_variable l.variable) f.hard) _ (any_by (λ (u : Soft). has_variable l.variable u.clause) f.soft t i (has_own l t.clause j)));
}

pub none_there : (n i : ℕ) → get_or (replicate n false) i false ≡ false
none_there zero i = refl
none_there (suc n) zero = refl
none_there (suc n) (suc i) = none_there n i

-- the marked variables are the names
pub variables_from_marks : (f : Formula) (used : List Bool) → length used ≡ f.vars → ((v : ℕ) → 1 ≤ v → value_of used v ≡ (value_of (replicate f.vars false) v || stands_in f v))
    → filter (value_of used) (range_with_len 1 (length used)) ≡ variables_of f
variables_from_marks f used e h =
    let agree : (v : ℕ) → Contains (range_with_len 1 (length used)) v → value_of used v ≡ stands_in f v =
    λ v i. h v (Contains-from_range 1 (length used) v i).0 ∙ ap (λ b. b || stands_in f v) (none_there f.vars (v - 1)) in
    filter_agree_at (value_of used) (stands_in f) (range_with_len 1 (length used)) agree ∙ ap (λ n. filter (stands_in f) (range_with_len 1 n)) e

has_number : (names numbers : List ℕ) (l : Literal) → IsNumbering names numbers → Contains names l.variable → HasNumber numbers l
has_number names numbers l n i =
    let w = n.within l.variable i in
    let b = number_bounds names l.variable i in
    record { «from» = w.0; within = w.1; number = omega (arith, b.0, n.at l.variable i) }

pub hard_have : (f : Formula) (numbers : List ℕ) → AreVariables f → IsNumbering (variables_of f) numbers → All (All (HasNumber numbers)) f.hard
hard_have f numbers are n =
    All-from_contained (All (HasNumber numbers)) f.hard (λ c i. All-from_contained (HasNumber numbers) c (λ l j. has_number (variables_of f) numbers l n (are.hard c i l j)))

pub soft_have : (f : Formula) (numbers : List ℕ) → AreVariables f → IsNumbering (variables_of f) numbers → All (λ t. All (HasNumber numbers) t.clause) f.soft
soft_have f numbers are n =
    All-from_contained (λ (t : Soft). All (HasNumber numbers) t.clause) f.soft (λ t i. All-from_contained (HasNumber numbers) t.clause (λ l j. has_number (variables_of f) numbers l n (are.soft t i l j)))

by_number_renamed : (names numbers : List ℕ) (l : Literal) → IsNumbering names numbers → Contains names l.variable → by_number numbers l ≡ renamed names l
by_number_renamed names numbers l n i = ap (λ (v : ℕ). let r : Literal = record { variable = v; negative = l.negative } in r) (n.at l.variable i)

pub IsRenumbered-from : (f g : Formula) (ns table hards softs : List ℕ) → AreVariables f → IsNumbering (variables_of f) table → hards ≡ table → softs ≡ table → ns ≡ variables_of f → g.vars ≡ length ns
    → IsPermutation (map (map (by_number hards)) f.hard) g.hard → IsSorted (slice_cmp lit_cmp) g.hard → g.soft ≡ map (soft_by_number softs) f.soft → IsRenumbered f ns g
IsRenumbered-from f g ns table hards softs are n hards_are softs_are names vars moved sorted soft =
    let vs = variables_of f in
    let each : map (map (by_number hards)) f.hard ≡ map (map (renamed vs)) f.hard =
    map_agree_at (map (by_number hards)) (map (renamed vs)) f.hard (λ c i.
    map_agree_at (by_number hards) (renamed vs) c (λ l j. ap (λ (t : List ℕ). by_number t l) hards_are ∙ by_number_renamed vs table l n (are.hard c i l j))) in
    let own : map (soft_by_number softs) f.soft ≡ map (renamed_soft vs) f.soft =
    map_agree_at (soft_by_number softs) (renamed_soft vs) f.soft (λ t i.
    ap (λ (c : List Literal). let u : Soft = record { weight = t.weight; clause = c } in u)
    (map_agree_at (by_number softs) (renamed vs) t.clause (λ l j. ap (λ (m : List ℕ). by_number m l) softs_are ∙ by_number_renamed vs table l n (are.soft t i l j)))) in
    record {
      names = names;
      vars = vars ∙ ap length names;
      hard = subst (λ (cs : List (List Literal)). IsPermutation cs g.hard) each moved;
      hard_sorted = sorted;
      soft = soft ∙ own;
    }

pub hard_origin : (f g : Formula) (ns : List ℕ) → IsRenumbered f ns g → (d : List Literal) → Contains g.hard d → (c : List Literal) × Contains f.hard c × (d ≡ map (renamed (variables_of f)) c)
hard_origin f g ns r d i =
    let rename = map (renamed (variables_of f)) in
    Contains-from_map rename f.hard d (Contains-permutation g.hard (map rename f.hard) d (IsPermutation-sym (map rename f.hard) g.hard r.hard) i)

pub soft_origin : (f g : Formula) (ns : List ℕ) → IsRenumbered f ns g → (t : Soft) → Contains g.soft t → (u : Soft) × Contains f.soft u × (t ≡ renamed_soft (variables_of f) u)
soft_origin f g ns r t i = Contains-from_map (renamed_soft (variables_of f)) f.soft t (subst (λ (ts : List Soft). Contains ts t) r.soft i)

renamed_up : (f : Formula) (c : List Literal) (k : Literal) → ((l : Literal) → Contains c l → Contains (variables_of f) l.variable) → Contains (map (renamed (variables_of f)) c) k → IsUpTo (length (variables_of f)) k
renamed_up f c k named i =
    let w = Contains-from_map (renamed (variables_of f)) c k i in
    let e = ap (λ (l : Literal). l.variable) w.2 in
    let b = number_bounds (variables_of f) w.0.variable (named w.0 w.1) in
    (omega (arith, b.0, e), omega (arith, b.1, e))

pub IsFormula-renumbered : (f g : Formula) (ns : List ℕ) → AreVariables f → IsRenumbered f ns g → IsFormula g.vars g.hard g.soft
IsFormula-renumbered f g ns are r =
    let made : IsFormula (length (variables_of f)) g.hard g.soft = record {
      hard_within = All-from_contained _ g.hard (λ d i.
          let w = hard_origin f g ns r d i in
          All-from_contained _ d (λ k j. renamed_up f w.0 k (are.hard w.0 w.1) (subst (λ (ls : List Literal). Contains ls k) w.2 j)));
      soft_within = All-from_contained _ g.soft (λ t i.
          let w = soft_origin f g ns r t i in
          All-from_contained _ t.clause (λ k j. renamed_up f w.0.clause k (are.soft w.0 w.1) (subst (λ (ls : List Literal). Contains ls k) (ap (λ (u : Soft). u.clause) w.2) j)));
    } in
    subst (λ (n : ℕ). IsFormula n g.hard g.soft) (sym r.vars) made

are_named : (f : Formula) → AreVariables f → AreNamed (variables_of f) f.hard []
are_named f are = record { hard = are.hard; costs = λ p i. absurd (Contains-none p i) }

pub model_down : (f g : Formula) (ns : List ℕ) (a b : List Bool) → AreVariables f → IsRenumbered f ns g → AgreesUnder (variables_of f) a b → IsHardModel g b → IsHardModel f a
model_down f g ns a b are r h m = satisfied-from_renamed (variables_of f) a b f.hard g.hard [] h (are_named f are) r.hard m

pub model_up : (f g : Formula) (ns : List ℕ) (a b : List Bool) → AreVariables f → IsRenumbered f ns g → AgreesUnder (variables_of f) a b → IsHardModel f a → IsHardModel g b
model_up f g ns a b are r h m = satisfied-renamed (variables_of f) a b f.hard g.hard [] h (are_named f are) r.hard m

pub cost_same : (f g : Formula) (ns : List ℕ) (a b : List Bool) → AreVariables f → IsRenumbered f ns g → AgreesUnder (variables_of f) a b → cost_of g b ≡ cost_of f a
cost_same f g ns a b are r h =
    ap (sum_by (paid b)) r.soft
    ∙ (sum_by-map (paid b) (renamed_soft (variables_of f)) f.soft
    ∙ sum_by_agree (λ t. paid b (renamed_soft (variables_of f) t)) (paid a) f.soft (λ t i. ap (λ x. cond x 0 t.weight) (sym (clause_value-renamed (variables_of f) a b t.clause h (are.soft t i)))))

pub weights_same : (f g : Formula) (ns : List ℕ) → IsRenumbered f ns g → weights_of g.soft ≡ weights_of f.soft
weights_same f g ns r = ap weights_of r.soft ∙ sum_by-map (λ (t : Soft). t.weight) (renamed_soft (variables_of f)) f.soft

-- each number is that of a variable in a clause
pub all_occur : (f g : Formula) (ns : List ℕ) → IsRenumbered f ns g → (v : ℕ) → 1 ≤ v → v ≤ g.vars → Occurs g v
all_occur f g ns r v a b =
    let names = variables_of f in
    let place : v - 1 < length names = omega (arith, r.vars) in
    let name = get_or names (v - 1) 0 in
    let number : number_of names name ≡ v = number_at_place names 0 f.vars (v - 1) 0 (variables_rising f) place ∙ omega arith in
    let used = (Contains-from_filter (stands_in f) (range_with_len 1 f.vars) name (Contains-get_or names (v - 1) 0 place)).1 in
    let at : (l : Literal) → nat_eq l.variable name ≡ true → (renamed names l).variable ≡ v = λ (l : Literal) (e : nat_eq l.variable name ≡ true). ap (number_of names) (eqb-true l.variable name e) ∙ number in
    elim (or_cases (list_any (has_variable name) f.hard) (list_any (λ (t : Soft). has_variable name t.clause) f.soft) used) [
      | inl t ↦
          let c = any_found (has_variable name) f.hard t in
          let l = any_found (λ (k : Literal). nat_eq k.variable name) c.0 c.2 in
          let rename = map (renamed names) in
          inl (rename c.0, Contains-permutation (map rename f.hard) g.hard (rename c.0) r.hard (Contains-map rename f.hard c.0 c.1), (renamed names l.0, Contains-map (renamed names) c.0 l.0 l.1, at l.0 l.2))
      | inr t ↦
          let u = any_found (λ (t : Soft). has_variable name t.clause) f.soft t in
          let l = any_found (λ (k : Literal). nat_eq k.variable name) u.0.clause u.2 in
          let k = renamed_soft names u.0 in
          inr (k, subst (λ (ts : List Soft). Contains ts k) (sym r.soft) (Contains-map (renamed_soft names) f.soft u.0 u.1), (renamed names l.0, Contains-map (renamed names) u.0.clause l.0 l.1, at l.0 l.2))
    ]

-- a variable that is no name keeps its value
pub named_outside : (names : List ℕ) (v : ℕ) (values a : List Bool) → ((m : ℕ) → Contains names m → 1 ≤ m) → 1 ≤ v → (Contains names v → ⊥) → value_of (named names values a) v ≡ value_of a v
named_outside [] v values a h p n = refl
named_outside (m ∷ ms) v values a h p n =
    let own = h m (Contains-first m ms) in
    let other : m ≢ v = λ e. n (subst (λ u. Contains (m ∷ ms) u) e (Contains-first m ms)) in
    named_outside ms v (drop 1 values) (set a (m - 1) (value_of values 1)) (λ u i. h u (Contains-later m ms u i)) p (λ i. n (Contains-later m ms v i))
    ∙ get_or-set_other a (m - 1) (v - 1) (value_of values 1) false (λ e. other (omega arith))
