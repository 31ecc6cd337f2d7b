use Rattle.std.proofs.Common.{◌<◌, arith, sym, ◌∙◌, subst, sum_by}
use Rattle.mp_logic.specs.declared.instances.Cost.{Cost}
use Rattle.mp_logic.specs.Weights.{weight_bound}
use Rattle.t_probe.proofs.Hardened.{cost-room}
use Rattle.t_probe.proofs.hardening.cost_of.Goals as goal

pub overflow_add-total : goal.overflow_add-total
overflow_add-total c =
    let room = cost-room c.args.model.now c.items-cost-items.result.now c.loop-cost.cost-index c.loop-cost.total c.cost-item.result c.loop-cost-test.true c.cost-item.is (sym c.holds.ensures ∙ c.if-holds.true) c.loop-cost.invariant (subst (λ ps. sum_by (λ (p : Cost). p.weight) ps < weight_bound) (sym c.items-cost-items.ensures) c.requires) in
    omega (arith, room)
