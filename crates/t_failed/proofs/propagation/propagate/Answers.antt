use Rattle.std.proofs.Common.{arith, sym}
use Rattle.mp_clauses.specs.Slots.{live_clauses}
use Rattle.t_failed.proofs.Settling.{extended-none, extended-then, extended-longer, refuted-before, step-settled}
use Rattle.t_failed.proofs.Visits.{read-up, propagated-end, answer-true, answer-false}
use Rattle.t_failed.proofs.propagation.propagate.Goals as goal

pub propagate-init : goal.propagate-init
propagate-init c = record { extended = extended-none c.args.store.now.vars (live_clauses c.args.store.now.slots) c.args.trail.now; head = c.requires.from; within = c.requires.within; settled = c.requires.settled }

pub visit-requires : goal.visit-requires
visit-requires c = read-up c.args.store.now.vars c.propagate.trail c.propagate.head c.lit-lit.result (omega (arith, c.propagate-test.true, c.len.ensures.len)) c.lit-lit.ensures c.propagate.invariant.within

pub propagate-preserved : goal.propagate-preserved
propagate-preserved c =
    let i = c.propagate.invariant in
    let e = c.in_ok-visit.ensures in
    let cs = live_clauses c.args.store.now.slots in
    let less = c.propagate-test.true in
    let longer = extended-longer c.args.store.now.vars cs c.propagate.trail c.visit.new.trail e.extended in
    record {
      extended = extended-then c.args.store.now.vars cs c.args.trail.now c.propagate.trail c.visit.new.trail i.extended e.extended;
      head = omega (arith, longer, c.propagate-test.true, c.len.ensures.len);
      within = e.extended.within i.within;
      settled = step-settled c.args.store.now.vars cs c.propagate.trail c.visit.new.trail c.propagate.head c.lit-lit.result (omega (arith, c.propagate-test.true, c.len.ensures.len)) (sym c.lit-lit.ensures) i.settled e.extended (answer-true _ _ _ c.if-not-branch.false e.answer);
    }

pub propagate-smaller : goal.propagate-smaller
propagate-smaller c =
    let few = c.len.ensures.few c.args.store.now.vars c.propagate.invariant.within in
    omega (arith, few, c.propagate-test.true, c.len.ensures.len)

pub returns-then-not-branch-clause-extended : goal.returns-then-not-branch-clause-extended
returns-then-not-branch-clause-extended c = extended-then c.args.store.now.vars (live_clauses c.args.store.now.slots) c.args.trail.now c.propagate.trail c.visit.new.trail c.propagate.invariant.extended c.in_ok-visit.ensures.extended

pub returns-then-not-branch-clause-answer : goal.returns-then-not-branch-clause-answer
returns-then-not-branch-clause-answer c =
    refuted-before c.args.store.now.vars (live_clauses c.args.store.now.slots) c.args.trail.now c.propagate.trail c.propagate.invariant.extended (answer-false _ _ _ c.if-not-branch.true c.in_ok-visit.ensures.answer)

pub returns-clause-answer : goal.returns-clause-answer
returns-clause-answer c =
    propagated-end c.propagate.trail (live_clauses c.args.store.now.slots) c.propagate.head c.len.ensures.consistent (omega (arith, c.propagate-test.false, c.len.ensures.len)) c.propagate.invariant.head c.propagate.invariant.settled
