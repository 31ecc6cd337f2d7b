use Rattle.std.proofs.Common.{rules, ℕ, List, subst}
use Rattle.std.specs.List.Sorted.{IsPermutation}
use Rattle.std.proofs.lemmas.List.Sorted.{IsNonDecreasingBy-from_sort_by_key}
use Rattle.mp_labels.specs.declared.charges.Charge.{Charge}
use Rattle.mp_labels.proofs.charges.in_order.Goals as goal

pub returns : goal.returns
returns c =
    record {
      moved = subst (λ (es : List (ℕ × Charge)). IsPermutation es c.sort_unstable_by_key.new.self.items) c.in_ok-entries.ensures.same c.sort_unstable_by_key.ensures.permutation;
      distinct = c.in_ok-entries.ensures.distinct;
      in_order = IsNonDecreasingBy-from_sort_by_key (λ (e : ℕ × Charge). e.0) _ c.sort_unstable_by_key.ensures.sorted (λ a r q k. search rules);
    }
