use Rattle.t_elim.proofs.Counted.{worth-turned}
use Rattle.t_elim.proofs.counting.are_worth_it.Goals as goal

pub returns-then-negative-positive : goal.returns-then-negative-positive
returns-then-negative-positive c = worth-turned c.args.variable c.args.store.now.slots c.args.negative.now c.args.positive.now c.in_ok-turned.turned c.in_ok-turned.ensures
