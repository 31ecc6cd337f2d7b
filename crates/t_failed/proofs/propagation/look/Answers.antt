use Rattle.t_failed.proofs.Settling.{look-conflict, look-true, look-open}
use Rattle.t_failed.proofs.propagation.look.Goals as goal

pub returns-in_default : goal.returns-in_default
returns-in_default c = look-conflict c.args.trail.now c.args.clause.now c.in_default.ensures

pub returns-then-has : goal.returns-then-has
returns-then-has c = look-true c.args.trail.now c.args.clause.now c.in-Some.first c.index-clause-first.result c.in-Some.ensures.within c.index-clause-first.is c.if-has.ensures.found

pub returns-in-Some-next_open : goal.returns-in-Some-next_open
returns-in-Some-next_open c = look-open c.args.trail.now c.args.clause.now c.in-Some.first c.in-Some-next_open.field-0 c.index-clause-first.result c.requires c.index-clause-first.is c.in-Some.ensures c.in-Some-next_open.ensures
