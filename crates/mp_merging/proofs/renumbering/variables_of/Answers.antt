use Rattle.std.proofs.Common.{◌≡◌, ◌||◌, Bool, List, false, IfOk, ap, subst, length, drop, filter, replicate, ◌∙◌, arith}
use Rattle.std.specs.List.{range_with_len}
use Rattle.std.proofs.lemmas.List.{take_at}
use Rattle.mp_logic.specs.Formula.{Formula}
use Rattle.mp_logic.specs.Truth.{value_of}
use Rattle.mp_merging.specs.MergedForm.{stands_in, variables_of}
use Rattle.mp_merging.proofs.Numbered.{variables_from_marks}
use Rattle.mp_merging.proofs.renumbering.variables_of.Goals as goal

pub returns : goal.returns
returns c =
    let f : Formula = c.args.whole.now in
    let used = c.mark.new.used in
    let vars : c.whole.inside.vars ≡ f.vars = ap (λ (g : Formula). g.vars) c.whole.view_is in
    let len = c.mark.ensures.len in
    let len_before = c.deref_mut.ensures.len in
    let len_made = c.in_ok-used.ensures.len in
    let table : c.deref.result.now ≡ used = c.deref.ensures.value ∙ take_at used (drop (length used) c.in_ok-used.used.items) c.in_ok-used.used.len (omega arith) in
    let blank : c.deref_mut.result.now ≡ replicate f.vars false = c.deref_mut.ensures.value ∙ (c.in_ok-used.ensures.items_if_clones_equal (λ y e. e) ∙ ap (λ n. replicate n false) vars) in
    let names : filter (value_of used) (range_with_len 1 (length used)) ≡ variables_of f =
    variables_from_marks f used (omega arith) (λ v h. c.mark.ensures.marks v h ∙ ap (λ (xs : List Bool). value_of xs v || stands_in f v) blank) in
    let all : filter (value_of c.deref.result.now) (range_with_len 1 (length c.deref.result.now)) ≡ variables_of f = ap (λ (xs : List Bool). filter (value_of xs) (range_with_len 1 (length xs))) table ∙ names in
    subst (λ t. IfOk c.marked.result (λ made. made ≡ t)) all c.marked.ensures
