use Rattle.std.proofs.Common.{◌≡◌, ◌∙◌, ℕ, List, [], All, IsTrue, length, refl, ap, sym, subst, arith}
use Rattle.mp_logic.specs.Keeping.{State}
use Rattle.mp_logic.specs.Carrying.{WrittenForm}
use Rattle.mp_logic.specs.Labelled.{names_rise, IsProper}
use Rattle.mp_logic.specs.declared.instances.Repair.{Repair}
use Rattle.mp_labels.specs.UnitForm.{names_of, IsUnitForm}
use Rattle.mp_labels.specs.Tables.{IsNumbering}
use Rattle.mp_labels.proofs.Numbers.{length_names}
use Rattle.mp_labels.proofs.Presented.{names_rising, formula_units}
use Rattle.mp_labels.proofs.Tabled.{hard_numbers, cost_numbers, units_from_tables}
use Rattle.mp_labels.proofs.unit_form.renamed.Goals as goal

pub numbers_of-requires : goal.numbers_of-requires
numbers_of-requires c =
    let s : State = record { vars = c.labelled.inside.vars; hard = c.labelled.inside.hard; costs = c.labelled.inside.costs; offset = c.labelled.inside.offset } in
    let names : c.in_ok-names.names ≡ names_of s = c.in_ok-names.ensures ∙ ap names_of (sym c.labelled.view_is) in
    subst (λ (xs : List ℕ). IsTrue (names_rise 0 s.vars xs)) (sym names) (names_rising s)

pub renumbered-requires : goal.renumbered-requires
renumbered-requires c =
    let s : State = record { vars = c.labelled.inside.vars; hard = c.labelled.inside.hard; costs = c.labelled.inside.costs; offset = c.labelled.inside.offset } in
    let names : c.in_ok-names.names ≡ names_of s = c.in_ok-names.ensures ∙ ap names_of (sym c.labelled.view_is) in
    let table = subst (λ (xs : List ℕ). IsNumbering xs c.in_ok-numbers.numbers.items) names c.in_ok-numbers.ensures in
    hard_numbers s c.deref.result.now c.labelled.invariant (subst (λ (t : List ℕ). IsNumbering (names_of s) t) (sym c.deref.ensures.value) table)

pub softened-requires : goal.softened-requires
softened-requires c =
    let s : State = record { vars = c.labelled.inside.vars; hard = c.labelled.inside.hard; costs = c.labelled.inside.costs; offset = c.labelled.inside.offset } in
    let names : c.in_ok-names.names ≡ names_of s = c.in_ok-names.ensures ∙ ap names_of (sym c.labelled.view_is) in
    let table = subst (λ (xs : List ℕ). IsNumbering xs c.in_ok-numbers.numbers.items) names c.in_ok-numbers.ensures in
    cost_numbers s c.deref-2.result.now c.labelled.invariant (subst (λ (t : List ℕ). IsNumbering (names_of s) t) (sym c.deref-2.ensures.value) table)

pub overflow_cast-result : goal.overflow_cast-result
overflow_cast-result c =
    let s : State = record { vars = c.labelled.inside.vars; hard = c.labelled.inside.hard; costs = c.labelled.inside.costs; offset = c.labelled.inside.offset } in
    let names : c.in_ok-names.names ≡ names_of s = c.in_ok-names.ensures ∙ ap names_of (sym c.labelled.view_is) in
    let few = length_names (names_of s) 0 s.vars (names_rising s) (omega arith) in
    let count = ap length names in
    let made = c.len.ensures in
    omega arith

pub invariant_of-result : goal.invariant_of-result
invariant_of-result c =
    let s : State = record { vars = c.labelled.inside.vars; hard = c.labelled.inside.hard; costs = c.labelled.inside.costs; offset = c.labelled.inside.offset } in
    let w : WrittenForm = record {
      «instance» = record { vars = c.len.result; hard = c.in_ok-hard.hard; soft = c.in_ok-soft.soft };
      names = c.in_ok-names.names;
      inner = s.vars;
      offset = s.offset;
      repairs = [];
    } in
    let names : c.in_ok-names.names ≡ names_of s = c.in_ok-names.ensures ∙ ap names_of (sym c.labelled.view_is) in
    let table = subst (λ (xs : List ℕ). IsNumbering xs c.in_ok-numbers.numbers.items) names c.in_ok-numbers.ensures in
    formula_units s w c.labelled.invariant
    (units_from_tables s w c.in_ok-numbers.numbers.items c.deref.result.now c.deref-2.result.now c.labelled.invariant table c.deref.ensures.value c.deref-2.ensures.value names c.len.ensures
    c.in_ok-hard.ensures.moved c.in_ok-hard.ensures.sorted c.in_ok-soft.ensures refl refl refl)

pub invariant_of-result-2 : goal.invariant_of-result-2
invariant_of-result-2 c =
    let s : State = record { vars = c.labelled.inside.vars; hard = c.labelled.inside.hard; costs = c.labelled.inside.costs; offset = c.labelled.inside.offset } in
    let names : c.in_ok-names.names ≡ names_of s = c.in_ok-names.ensures ∙ ap names_of (sym c.labelled.view_is) in
    record {
      each_named = sym c.len.ensures;
      names_rising = subst (λ (xs : List ℕ). IsTrue (names_rise 0 s.vars xs)) (sym names) (names_rising s);
      repairs_proper = subst (λ (rs : List Repair). All (IsProper s.vars) rs) (sym c.new.ensures) (λ k d l. absurd (omega arith));
    }

pub returns : goal.returns
returns c =
    let s : State = record { vars = c.labelled.inside.vars; hard = c.labelled.inside.hard; costs = c.labelled.inside.costs; offset = c.labelled.inside.offset } in
    let w : WrittenForm = record {
      «instance» = record { vars = c.len.result; hard = c.in_ok-hard.hard; soft = c.in_ok-soft.soft };
      names = c.in_ok-names.names;
      inner = s.vars;
      offset = s.offset;
      repairs = c.new.result;
    } in
    let names : c.in_ok-names.names ≡ names_of s = c.in_ok-names.ensures ∙ ap names_of (sym c.labelled.view_is) in
    let table = subst (λ (xs : List ℕ). IsNumbering xs c.in_ok-numbers.numbers.items) names c.in_ok-numbers.ensures in
    subst (λ (t : State). IsUnitForm t w) c.labelled.view_is
    (units_from_tables s w c.in_ok-numbers.numbers.items c.deref.result.now c.deref-2.result.now c.labelled.invariant table c.deref.ensures.value c.deref-2.ensures.value names c.len.ensures
    c.in_ok-hard.ensures.moved c.in_ok-hard.ensures.sorted c.in_ok-soft.ensures refl refl c.new.ensures)
