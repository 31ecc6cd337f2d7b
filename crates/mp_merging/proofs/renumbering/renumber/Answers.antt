use Rattle.std.proofs.Common.{◌≡◌, ◌∙◌, ℕ, List, IsTrue, length, ap, sym, subst, arith}
use Rattle.mp_logic.specs.Formula.{Formula}
use Rattle.mp_logic.specs.Labelled.{names_rise}
use Rattle.mp_labels.specs.Tables.{IsNumbering}
use Rattle.mp_labels.proofs.Numbers.{length_names}
use Rattle.mp_merging.specs.MergedForm.{variables_of, IsRenumbered}
use Rattle.mp_merging.proofs.Numbered.{variables_rising, all_stand, hard_have, soft_have, IsRenumbered-from, IsFormula-renumbered}
use Rattle.mp_merging.proofs.renumbering.renumber.Goals as goal

pub numbers_of-requires : goal.numbers_of-requires
numbers_of-requires c =
    let f : Formula = record { vars = c.whole.inside.vars; hard = c.whole.inside.hard; soft = c.whole.inside.soft } in
    let names : c.in_ok-names.names ≡ variables_of f = c.in_ok-names.ensures ∙ ap variables_of (sym c.whole.view_is) in
    subst (λ (xs : List ℕ). IsTrue (names_rise 0 f.vars xs)) (sym names) (variables_rising f)

pub renumbered-requires : goal.renumbered-requires
renumbered-requires c =
    let f : Formula = record { vars = c.whole.inside.vars; hard = c.whole.inside.hard; soft = c.whole.inside.soft } in
    let names : c.in_ok-names.names ≡ variables_of f = c.in_ok-names.ensures ∙ ap variables_of (sym c.whole.view_is) in
    let table = subst (λ (xs : List ℕ). IsNumbering xs c.in_ok-numbers.numbers.items) names c.in_ok-numbers.ensures in
    hard_have f c.deref.result.now (all_stand f c.whole.invariant) (subst (λ (t : List ℕ). IsNumbering (variables_of f) t) (sym c.deref.ensures.value) table)

pub renumbered_soft-requires : goal.renumbered_soft-requires
renumbered_soft-requires c =
    let f : Formula = record { vars = c.whole.inside.vars; hard = c.whole.inside.hard; soft = c.whole.inside.soft } in
    let names : c.in_ok-names.names ≡ variables_of f = c.in_ok-names.ensures ∙ ap variables_of (sym c.whole.view_is) in
    let table = subst (λ (xs : List ℕ). IsNumbering xs c.in_ok-numbers.numbers.items) names c.in_ok-numbers.ensures in
    soft_have f c.deref-2.result.now (all_stand f c.whole.invariant) (subst (λ (t : List ℕ). IsNumbering (variables_of f) t) (sym c.deref-2.ensures.value) table)

pub overflow_cast-result : goal.overflow_cast-result
overflow_cast-result c =
    let f : Formula = record { vars = c.whole.inside.vars; hard = c.whole.inside.hard; soft = c.whole.inside.soft } in
    let names : c.in_ok-names.names ≡ variables_of f = c.in_ok-names.ensures ∙ ap variables_of (sym c.whole.view_is) in
    let few = length_names (variables_of f) 0 f.vars (variables_rising f) (omega arith) in
    let count = ap length names in
    let made = c.len.ensures in
    omega arith

pub invariant_of-result : goal.invariant_of-result
invariant_of-result c =
    let f : Formula = record { vars = c.whole.inside.vars; hard = c.whole.inside.hard; soft = c.whole.inside.soft } in
    let g : Formula = record { vars = c.len.result; hard = c.in_ok-hard.hard; soft = c.in_ok-soft.soft } in
    let names : c.in_ok-names.names ≡ variables_of f = c.in_ok-names.ensures ∙ ap variables_of (sym c.whole.view_is) in
    let table = subst (λ (xs : List ℕ). IsNumbering xs c.in_ok-numbers.numbers.items) names c.in_ok-numbers.ensures in
    let are = all_stand f c.whole.invariant in
    IsFormula-renumbered f g c.in_ok-names.names are
    (IsRenumbered-from f g c.in_ok-names.names c.in_ok-numbers.numbers.items c.deref.result.now c.deref-2.result.now are table c.deref.ensures.value c.deref-2.ensures.value names c.len.ensures c.in_ok-hard.ensures.moved c.in_ok-hard.ensures.sorted c.in_ok-soft.ensures)

pub returns : goal.returns
returns c =
    let f : Formula = record { vars = c.whole.inside.vars; hard = c.whole.inside.hard; soft = c.whole.inside.soft } in
    let g : Formula = record { vars = c.len.result; hard = c.in_ok-hard.hard; soft = c.in_ok-soft.soft } in
    let names : c.in_ok-names.names ≡ variables_of f = c.in_ok-names.ensures ∙ ap variables_of (sym c.whole.view_is) in
    let table = subst (λ (xs : List ℕ). IsNumbering xs c.in_ok-numbers.numbers.items) names c.in_ok-numbers.ensures in
    subst (λ (h : Formula). IsRenumbered h c.in_ok-names.names g) c.whole.view_is
    (IsRenumbered-from f g c.in_ok-names.names c.in_ok-numbers.numbers.items c.deref.result.now c.deref-2.result.now (all_stand f c.whole.invariant) table c.deref.ensures.value c.deref-2.ensures.value names c.len.ensures c.in_ok-hard.ensures.moved
    c.in_ok-hard.ensures.sorted c.in_ok-soft.ensures)
