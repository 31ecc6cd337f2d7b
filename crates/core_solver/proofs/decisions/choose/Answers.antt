use Rattle.std.proofs.Common.{arith, inl}
use Rattle.core_solver.proofs.Chosen.{assumption-at, cursor-step}
use Rattle.core_solver.proofs.decisions.choose.Goals as goal

pub returns-then-not-has-clause-choice : goal.returns-then-not-has-clause-choice
returns-then-not-has-clause-choice c =
    let is = rw c.items.ensures at c.index-items-cursor.is in
    let a = assumption-at c.args.query.now c.assumptions.cursor.assumed c.index-items-cursor.result c.requires.query (omega (arith, c.assumptions-test.true, c.len.ensures)) is in
    (record { within = a.0; not_true = c.if-not-has.ensures.found; not_false = rw c.negated.ensures at c.if-has.ensures.found }, inl a.1)

pub assumptions-preserved : goal.assumptions-preserved
assumptions-preserved c =
    let is = rw c.items.ensures at c.index-items-cursor.is in
    cursor-step c.args.query.now c.args.trail.now.lits c.assumptions.cursor c.index-items-cursor.result c.len-cursor.result c.assumptions.invariant is c.if-not-has.ensures.found c.len-cursor.ensures.len
