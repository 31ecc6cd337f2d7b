use Rattle.std.proofs.Common.{rules, ◌≡◌, ◌∙◌, List, All, map, subst, sym, ap}
use Rattle.std.specs.List.Sorted.{IsPermutation}
use Rattle.std.proofs.lemmas.Result.{IfOk-weaker}
use Rattle.std.proofs.lemmas.List.Sorted.{IsNonDecreasingBy-from_sort_by_key, All-permutation}
use Rattle.mp_logic.specs.declared.instances.Cost.{Cost}
use Rattle.mp_labels.specs.Tables.{HasNumber, AreSofts, soft_by_number}
use Rattle.mp_labels.proofs.unit_form.softened.Goals as goal

pub softs_of-requires : goal.softs_of-requires
softs_of-requires c =
    let P : Cost → Type 0 = λ p. HasNumber c.args.numbers.now p.lit in
    let before : c.into_vec-ordered.result.items ≡ c.args.costs.now = c.into_vec-ordered.ensures ∙ c.in_ok-copy.ensures in
    let all : All P c.into_vec-ordered.result.items = subst (λ (ps : List Cost). All P ps) (sym before) c.requires in
    subst (λ (ps : List Cost). All P ps) (sym c.deref.ensures.value) (All-permutation P c.into_vec-ordered.result.items _ c.sort_unstable_by_key.ensures.permutation all)

pub returns : goal.returns
returns c =
    let numbers = c.args.numbers.now in
    let before : c.into_vec-ordered.result.items ≡ c.args.costs.now = c.into_vec-ordered.ensures ∙ c.in_ok-copy.ensures in
    IfOk-weaker c.softs_of.result (λ made. made ≡ map (soft_by_number numbers) c.deref.result.now) (AreSofts numbers c.args.costs.now)
    (λ made e. record {
      ordered = c.sort_unstable_by_key.new.self.items;
      moved = subst (λ (ps : List Cost). IsPermutation ps c.sort_unstable_by_key.new.self.items) before c.sort_unstable_by_key.ensures.permutation;
      in_order = IsNonDecreasingBy-from_sort_by_key (λ (p : Cost). p.lit.variable) _ c.sort_unstable_by_key.ensures.sorted (λ a r q k. search rules);
      each = e ∙ ap (map (soft_by_number numbers)) c.deref.ensures.value;
    })
    c.softs_of.ensures
