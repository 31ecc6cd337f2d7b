use Rattle.std.proofs.Common.{◌∙◌, ◌<◌, ◌≤◌, length, arith}
use Rattle.std.proofs.lemmas.List.{length-set}
use Rattle.std.proofs.lemmas.Grind.{common_steps}
use Rattle.t_matching.proofs.FreeLabels.{order-more, order-all}
use Rattle.t_matching.proofs.free_partners.put_in_order.Goals as goal

pub loop-number-preserved : goal.loop-number-preserved
loop-number-preserved c =
    let within : c.loop-number.number < length c.loop-number.classes.items = grind (arith, common_steps) in
    let more = order-more c.args.classes.now.items c.loop-number.classes.items c.loop-number.number c.index_mut-class.result.now c.put_in_order.new.self within c.index_mut-class.ensures.value c.put_in_order.ensures c.loop-number.invariant.done c.loop-number.invariant.rest in
    record {
      len = length-set c.loop-number.classes.items c.loop-number.number c.put_in_order.new.self ∙ c.loop-number.invariant.len;
      done = more.0;
      rest = more.1;
    }

pub returns-clause-each : goal.returns-clause-each
returns-clause-each c =
    let end : length c.loop-number.classes.items ≤ c.loop-number.number = grind (arith, common_steps) in
    order-all c.args.classes.now.items c.loop-number.classes.items c.loop-number.number c.loop-number.invariant.len end c.loop-number.invariant.done
