use Rattle.t_amo.proofs.Joined.{at_most_ones_are_valid}
use Rattle.t_amo.proofs.joining.join.Goals as goal

pub rewrite-requires-clause-valid : goal.rewrite-requires-clause-valid
rewrite-requires-clause-valid c = let j = c.in_ok-rewrite.ensures in rw j.is (at_most_ones_are_valid c.args.store.now c.args.chosen.now c.least_weight-least.result j.shift j.top c.vars.ensures.sound j.chosen)

pub returns-clause-ok : goal.returns-clause-ok
returns-clause-ok c =
    let j = c.in_ok-rewrite.ensures in
    record {
      w = c.least_weight-least.result;
      least = c.least_weight-least.ensures;
      each_two = c.requires.each_two;
      shift = j.shift;
      top = j.top;
      chosen = j.chosen;
      made = rw j.is at c.in_ok-rewrite-2.ensures.ok;
    }
