use Rattle.mp_clauses.specs.Slots.{live_clauses}
use Rattle.t_failed.proofs.Settling.{extended-none}
use Rattle.t_failed.proofs.Visits.{look-rises, look-rest, look-refuted, look-extended, look-settled}
use Rattle.t_failed.proofs.propagation.settle.Goals as goal

pub look-requires : goal.look-requires
look-requires c = look-rises c.args.store.now c.args.id c.clause.result.now c.vars.ensures.sound c.clause.ensures

pub returns-in-AtRest-clause-extended : goal.returns-in-AtRest-clause-extended
returns-in-AtRest-clause-extended c = extended-none c.args.store.now.vars (live_clauses c.args.store.now.slots) c.args.trail.now

pub returns-in-AtRest-clause-answer : goal.returns-in-AtRest-clause-answer
returns-in-AtRest-clause-answer c = look-rest c.args.store.now.slots c.args.id _ c.args.trail.now c.clause.result.now c.clause.ensures c.in-AtRest.ensures

pub returns-in-Conflict-clause-extended : goal.returns-in-Conflict-clause-extended
returns-in-Conflict-clause-extended c = extended-none c.args.store.now.vars (live_clauses c.args.store.now.slots) c.args.trail.now

pub returns-in-Conflict-clause-answer : goal.returns-in-Conflict-clause-answer
returns-in-Conflict-clause-answer c = look-refuted c.args.store.now.slots c.args.id c.args.trail.now c.clause.result.now c.clause.ensures c.in-Conflict.ensures

pub returns-in_ok-push-in-Unit-clause-extended : goal.returns-in_ok-push-in-Unit-clause-extended
returns-in_ok-push-in-Unit-clause-extended c = look-extended c.args.store.now c.args.id c.args.trail.now c.push.new.self c.clause.result.now c.in-Unit.lit c.vars.ensures.sound c.clause.ensures c.in-Unit.ensures.0 c.in-Unit.ensures.3 c.in_ok-push-in-Unit.ensures

pub returns-in_ok-push-in-Unit-clause-answer : goal.returns-in_ok-push-in-Unit-clause-answer
returns-in_ok-push-in-Unit-clause-answer c = look-settled c.args.store.now.slots c.args.id c.args.trail.now c.push.new.self c.clause.result.now c.in-Unit.lit c.clause.ensures c.in-Unit.ensures.0 c.in_ok-push-in-Unit.ensures
