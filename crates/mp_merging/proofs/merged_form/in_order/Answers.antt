use Rattle.std.proofs.Common.{rules}
use Rattle.std.proofs.lemmas.List.Sorted.{IsNonDecreasingBy-from_sort_by_key}
use Rattle.mp_logic.specs.declared.instances.Cost.{Cost}
use Rattle.mp_merging.proofs.merged_form.in_order.Goals as goal

pub returns-clause-in_order : goal.returns-clause-in_order
returns-clause-in_order c = IsNonDecreasingBy-from_sort_by_key (λ (p : Cost). p.lit.variable) _ c.sort_unstable_by_key.ensures.sorted (λ a r q k. search rules)
