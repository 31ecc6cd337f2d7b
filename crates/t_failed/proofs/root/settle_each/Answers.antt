use Rattle.std.proofs.Common.{arith, sym, ◌∙◌}
use Rattle.mp_clauses.specs.Slots.{live_clauses}
use Rattle.t_failed.proofs.Settling.{extended-none, extended-then}
use Rattle.t_failed.proofs.Visits.{below-more, below-dead, below-all, visit-refuted}
use Rattle.t_failed.proofs.root.settle_each.Goals as goal

pub loop-id-init : goal.loop-id-init
loop-id-init c = record { extended = extended-none c.args.store.now.vars (live_clauses c.args.store.now.slots) c.args.trail.now; settled = c.requires.settled }

pub loop-id-preserved-then-not-live : goal.loop-id-preserved-then-not-live
loop-id-preserved-then-not-live c = record {
  extended = c.loop-id.invariant.extended;
  settled = below-dead c.args.store.now.slots c.loop-id.id _ c.loop-id.trail (sym c.live.ensures ∙ c.if-not-live.true) c.loop-id.invariant.settled;
}

pub loop-id-preserved : goal.loop-id-preserved
loop-id-preserved c =
    let i = c.loop-id.invariant in
    let e = c.in_ok-settle.ensures in
    record {
      extended = extended-then c.args.store.now.vars (live_clauses c.args.store.now.slots) c.args.trail.now c.loop-id.trail c.settle.new.trail i.extended e.extended;
      settled = below-more c.args.store.now.vars c.args.store.now.slots c.loop-id.id c.args.trail.now c.loop-id.trail c.settle.new.trail _ i.extended e.extended e.answer c.if-not-branch.false i.settled;
    }

pub returns-then-not-branch-clause-extended : goal.returns-then-not-branch-clause-extended
returns-then-not-branch-clause-extended c = extended-then c.args.store.now.vars (live_clauses c.args.store.now.slots) c.args.trail.now c.loop-id.trail c.settle.new.trail c.loop-id.invariant.extended c.in_ok-settle.ensures.extended

pub returns-then-not-branch-clause-answer : goal.returns-then-not-branch-clause-answer
returns-then-not-branch-clause-answer c =
    visit-refuted c.args.store.now.vars c.args.store.now.slots c.loop-id.id c.args.trail.now c.loop-id.trail c.settle.new.trail _ c.loop-id.invariant.extended c.in_ok-settle.ensures.answer c.if-not-branch.true

pub returns-clause-answer : goal.returns-clause-answer
returns-clause-answer c = below-all c.args.store.now.slots c.loop-id.id _ c.loop-id.trail (omega (arith, c.loop-id-test.false, c.next_id-id-end.ensures)) c.loop-id.invariant.settled
