-- From a table of numbers to the form.
use Rattle.std.proofs.Common.{◌≡◌, ℕ, List, [], ◌∷◌, All, Contains, length, map, ap, ◌∙◌, subst, arith}
use Rattle.std.specs.List.Sorted.{IsPermutation, IsSorted}
use Rattle.std.specs.Cmp.Lexicographic.{slice_cmp}
use Rattle.std.proofs.lemmas.List.Sorted.{IsPermutation-sym, Contains-permutation}
use Rattle.mp_logic.specs.Literal.{Literal, negation}
use Rattle.mp_logic.specs.Normal.{lit_cmp}
use Rattle.mp_logic.specs.Keeping.{State}
use Rattle.mp_logic.specs.Carrying.{WrittenForm}
use Rattle.mp_logic.specs.Labelled.{IsLabelled}
use Rattle.mp_logic.specs.declared.instances.Cost.{Cost}
use Rattle.mp_logic.specs.declared.instances.Soft.{Soft}
use Rattle.mp_logic.proofs.Members.{All-from_contained}
use Rattle.mp_labels.specs.UnitForm.{names_of, renamed, soft_of, IsUnitForm}
use Rattle.mp_labels.specs.Tables.{IsNumbering, HasNumber, by_number, soft_by_number, AreSofts}
use Rattle.mp_labels.proofs.Lists.{map_agree_at}
use Rattle.mp_labels.proofs.Numbers.{number_bounds}
use Rattle.mp_labels.proofs.Presented.{all_named, formula_of}

has_number : (names numbers : List ℕ) (l : Literal) → IsNumbering names numbers → Contains names l.variable → HasNumber numbers l
has_number names numbers l n i =
    let w = n.within l.variable i in
    let b = number_bounds names l.variable i in
    record { «from» = w.0; within = w.1; number = omega (arith, b.0, n.at l.variable i) }

pub hard_numbers : (s : State) (numbers : List ℕ) → IsLabelled s.vars s.hard s.costs s.offset → IsNumbering (names_of s) numbers → All (All (HasNumber numbers)) s.hard
hard_numbers s numbers h n =
    let are = all_named s h in
    All-from_contained (All (HasNumber numbers)) s.hard (λ c i. All-from_contained (HasNumber numbers) c (λ l j. has_number (names_of s) numbers l n (are.hard c i l j)))

pub cost_numbers : (s : State) (numbers : List ℕ) → IsLabelled s.vars s.hard s.costs s.offset → IsNumbering (names_of s) numbers → All (λ p. HasNumber numbers p.lit) s.costs
cost_numbers s numbers h n =
    let are = all_named s h in
    All-from_contained (λ (p : Cost). HasNumber numbers p.lit) s.costs (λ p i. has_number (names_of s) numbers p.lit n (are.costs p i))

by_number_renamed : (names numbers : List ℕ) (l : Literal) → IsNumbering names numbers → Contains names l.variable → by_number numbers l ≡ renamed names l
by_number_renamed names numbers l n i = ap (λ (v : ℕ). let r : Literal = record { variable = v; negative = l.negative } in r) (n.at l.variable i)

pub units_from_tables : (s : State) (w : WrittenForm) (table hards costs : List ℕ) → IsLabelled s.vars s.hard s.costs s.offset → IsNumbering (names_of s) table → hards ≡ table → costs ≡ table
    → w.names ≡ names_of s → (formula_of w).vars ≡ length w.names → IsPermutation (map (map (by_number hards)) s.hard) (formula_of w).hard → IsSorted (slice_cmp lit_cmp) (formula_of w).hard
    → AreSofts costs s.costs (formula_of w).soft → w.inner ≡ s.vars → w.offset ≡ s.offset → w.repairs ≡ [] → IsUnitForm s w
units_from_tables s w table hards costs h n hards_are costs_are names vars moved sorted softs inner offset repairs =
    let are = all_named s h in
    let ns = names_of s in
    let each : map (map (by_number hards)) s.hard ≡ map (map (renamed ns)) s.hard =
    map_agree_at (map (by_number hards)) (map (renamed ns)) s.hard (λ c i.
    map_agree_at (by_number hards) (renamed ns) c (λ l j. ap (λ (t : List ℕ). by_number t l) hards_are ∙ by_number_renamed ns table l n (are.hard c i l j))) in
    let own : map (soft_by_number costs) softs.ordered ≡ map (soft_of ns) softs.ordered =
    map_agree_at (soft_by_number costs) (soft_of ns) softs.ordered (λ p i.
    let j = Contains-permutation softs.ordered s.costs p (IsPermutation-sym s.costs softs.ordered softs.moved) i in
    ap (λ (l : Literal). let t : Soft = record { weight = p.weight; clause = negation l ∷ [] } in t) (ap (λ (t : List ℕ). by_number t p.lit) costs_are ∙ by_number_renamed ns table p.lit n (are.costs p j))) in
    record {
      names = names;
      vars = vars ∙ ap length names;
      hard = subst (λ (cs : List (List Literal)). IsPermutation cs (formula_of w).hard) each moved;
      hard_sorted = sorted;
      costs = softs.ordered;
      costs_moved = softs.moved;
      costs_in_order = softs.in_order;
      soft = softs.each ∙ own;
      inner = inner;
      offset = offset;
      repairs = repairs;
    }
