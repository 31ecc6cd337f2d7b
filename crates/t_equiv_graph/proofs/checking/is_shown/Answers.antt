use Rattle.std.proofs.Common.{List, ℕ, arith, subst}
use Rattle.t_equiv_graph.specs.Graphs.{AreComponents}
use Rattle.t_equiv_graph.proofs.Shown.{IsShown, shown}
use Rattle.t_equiv_graph.proofs.checking.is_shown.Goals as goal

pub returns : goal.returns
returns c = λ yes.
    let w : IsShown c.args.count c.args.from.now c.args.to.now c.as_slice-numbers.result.now c.as_slice-roots.result.now c.as_slice-up_steps.result.now c.as_slice-up_ranks.result.now c.as_slice-down_steps.result.now c.as_slice-down_ranks.result.now = record {
      many = omega arith;
      even = c.requires;
      never_rise = c.never_rise.ensures c.if-not-never_rise.false;
      up = c.are_led.ensures c.if-not-are_led.false;
      down = c.are_led-2.ensures yes;
    } in
    subst (λ (ns : List ℕ). AreComponents c.args.count c.args.from.now c.args.to.now ns) c.as_slice-numbers.ensures.value (shown _ _ _ _ _ _ _ _ _ w)
