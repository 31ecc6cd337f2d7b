use Rattle.std.proofs.Common.{arith}
use Rattle.mp_logic.specs.Learning.{IsPropagated}
use Rattle.mp_clauses.specs.Slots.{live_clauses}
use Rattle.t_failed.proofs.Settling.{extended-then, extended-longer}
use Rattle.t_failed.proofs.Visits.{answer-before, answer-true, answer-false}
use Rattle.t_failed.proofs.root.absorb.Goals as goal

pub returns-then-not-branch-clause-answer : goal.returns-then-not-branch-clause-answer
returns-then-not-branch-clause-answer c = answer-false _ _ _ c.if-not-branch.true c.in_ok-settle_each.ensures.answer

pub propagate-requires-clause-from : goal.propagate-requires-clause-from
propagate-requires-clause-from c =
    let longer = extended-longer c.args.store.now.vars (live_clauses c.args.store.now.slots) c.args.trail.now c.settle_each.new.trail c.in_ok-settle_each.ensures.extended in
    omega (arith, longer, c.len-from.ensures.len)

pub propagate-requires-clause-within : goal.propagate-requires-clause-within
propagate-requires-clause-within c = c.in_ok-settle_each.ensures.extended.within c.requires.within

pub propagate-requires-clause-settled : goal.propagate-requires-clause-settled
propagate-requires-clause-settled c = rw c.len-from.ensures.len (answer-true _ _ _ c.if-not-branch.false c.in_ok-settle_each.ensures.answer)

pub returns-clause-extended : goal.returns-clause-extended
returns-clause-extended c = extended-then c.args.store.now.vars (live_clauses c.args.store.now.slots) c.args.trail.now c.settle_each.new.trail c.propagate.new.trail c.in_ok-settle_each.ensures.extended c.in_ok-rests.ensures.extended

pub returns-clause-answer : goal.returns-clause-answer
returns-clause-answer c = answer-before (IsPropagated c.propagate.new.trail (live_clauses c.args.store.now.slots)) c.args.store.now.vars (live_clauses c.args.store.now.slots) c.args.trail.now c.settle_each.new.trail c.in_ok-rests.rests c.in_ok-settle_each.ensures.extended c.in_ok-rests.ensures.answer
