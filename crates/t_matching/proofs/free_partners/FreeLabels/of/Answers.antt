use Rattle.std.proofs.Common.{ℕ, refl, ◌∙◌, subst, Contains}
use Rattle.std.proofs.lemmas.List.{drop_all}
use Rattle.t_matching.specs.FreePartners.{class_of}
use Rattle.t_matching.proofs.FreeLabels.{noted-some, noted-none, none-plain, all-noted}
use Rattle.t_matching.proofs.free_partners.FreeLabels.of.Goals.{in-Some+in_ok-put, in_default}
use Rattle.t_matching.proofs.free_partners.FreeLabels.of.Goals as goal

pub loop-item-preserved : goal.loop-item-preserved
loop-item-preserved c =
    elim c.match-plain_at.branch [
      | in-Some+in_ok-put w ↦ rw w.made-is (record {
        numbers = w.in_ok-put.ensures.numbers;
        noted = noted-some c.args.store.now c.args.items.now c.loop-item.item-index _ w.in-Some.lit c.loop-item.made w.put.new.self c.loop-item-test.true refl w.in-Some.ensures
            (subst (λ (v : ℕ). Contains (class_of w.put.new.self v).labels w.in-Some.lit) w.weight.ensures w.in_ok-put.ensures.own) w.in_ok-put.ensures.others c.loop-item.invariant.noted;
        passed = λ v. w.in_ok-put.ensures.passed v ∙ c.loop-item.invariant.passed v;
      })
      | in_default w ↦ rw w.made-is (record {
        numbers = c.loop-item.invariant.numbers;
        noted = noted-none c.args.store.now c.args.items.now c.loop-item.item-index _ c.loop-item.made c.loop-item-test.true refl (none-plain c.args.store.now _ c.plain_at.result w.in_default.not-Some c.plain_at.ensures) c.loop-item.invariant.noted;
        passed = c.loop-item.invariant.passed;
      })
    ]

pub returns : goal.returns
returns c = all-noted c.args.store.now c.args.items.now c.loop-item.item-index c.loop-item.made _ c.requires (drop_all c.loop-item.item-index c.args.items.now c.loop-item-test.false) c.loop-item.invariant.numbers c.loop-item.invariant.noted c.loop-item.invariant.passed refl c.put_in_order.ensures.len c.put_in_order.ensures.each
