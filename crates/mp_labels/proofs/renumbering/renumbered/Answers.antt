use Rattle.std.proofs.Common.{rules, ◌≡◌, Bool, List, is_lt, sym, ◌∙◌, subst}
use Rattle.std.specs.List.Sorted.{IsSorted}
use Rattle.std.specs.Cmp.Lexicographic.{slice_cmp}
use Rattle.std.proofs.lemmas.Cmp.{lists_total}
use Rattle.std.proofs.lemmas.List.Sorted.{ranks_by, answers_always}
use Rattle.mp_logic.specs.Literal.{Literal}
use Rattle.mp_logic.specs.Normal.{lit_cmp}
use Rattle.mp_logic.proofs.LiteralOrder.{lit_cmp_total}
use Rattle.mp_labels.proofs.renumbering.renumbered.Goals as goal

pub returns-clause-sorted : goal.returns-clause-sorted
returns-clause-sorted c =
    let before : List Literal → List Literal → Bool = λ x y. is_lt (slice_cmp lit_cmp x y) in
    subst (λ (xs : List (List Literal)). IsSorted (slice_cmp lit_cmp) xs) (sym (c.from_vec.ensures ∙ c.in_ok-without_keys.ensures))
    (c.sort_unstable_by.ensures.sorted before (ranks_by (lists_total lit_cmp_total) (λ x. x)) (answers_always _ (λ a r. is_lt r ≡ before a.0.now a.1.0.now) _ (λ f a r g k. search rules)))
