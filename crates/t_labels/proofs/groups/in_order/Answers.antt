use Rattle.std.proofs.Common.{rules, ◌≡◌, Bool, List, is_lt, subst}
use Rattle.std.specs.List.Sorted.{IsPermutation}
use Rattle.std.specs.Cmp.Lexicographic.{slice_cmp}
use Rattle.std.proofs.lemmas.Cmp.{lists_total}
use Rattle.std.proofs.lemmas.List.Sorted.{ranks_by, answers_always}
use Rattle.mp_logic.specs.Literal.{Literal}
use Rattle.mp_logic.specs.Normal.{lit_cmp}
use Rattle.mp_logic.proofs.LiteralOrder.{lit_cmp_total}
use Rattle.t_labels.proofs.groups.in_order.Goals as goal

pub returns : goal.returns
returns c =
    let before : List Literal → List Literal → Bool = λ x y. is_lt (slice_cmp lit_cmp x y) in
    record {
      moved = subst (λ (cs : List (List Literal)). IsPermutation cs c.sort_unstable_by.new.self.items) c.in_ok-made.ensures c.sort_unstable_by.ensures.permutation;
      sorted = c.sort_unstable_by.ensures.sorted before (ranks_by (lists_total lit_cmp_total) (λ x. x)) (answers_always _ (λ a r. is_lt r ≡ before a.0.now a.1.0.now) _ (λ f a r g k. search rules));
    }
