use Rattle.std.proofs.Common.{refl}
use Rattle.mp_clauses.specs.Slots.{live_clauses}
use Rattle.t_failed.proofs.Settling.{extended-none, extended-then}
use Rattle.t_failed.proofs.Visits.{visit-start, visit-more, visit-refuted, visit-done, visit-live}
use Rattle.t_failed.proofs.propagation.visit.Goals as goal

pub loop-id-init : goal.loop-id-init
loop-id-init c = record { extended = extended-none c.args.store.now.vars (live_clauses c.args.store.now.slots) c.args.trail.now; settled = visit-start c.args.store.now.slots c.args.trail.now _ }

pub settle-requires : goal.settle-requires
settle-requires c = visit-live c.args.store.now.slots c.negated.result c.occurrences-id-items.result.now c.loop-id.id-index c.occurrences-id-items.ensures.exact c.loop-id-test.true

pub loop-id-preserved : goal.loop-id-preserved
loop-id-preserved c =
    let i = c.loop-id.invariant in
    let e = c.in_ok-settle.ensures in
    record {
      extended = extended-then c.args.store.now.vars (live_clauses c.args.store.now.slots) c.args.trail.now c.loop-id.trail c.settle.new.trail i.extended e.extended;
      settled = visit-more c.args.store.now.vars c.args.store.now.slots c.occurrences-id-items.result.now c.loop-id.id-index _ c.args.trail.now c.loop-id.trail c.settle.new.trail _ c.loop-id-test.true refl i.extended e.extended e.answer c.if-not-branch.false i.settled;
    }

pub returns-clause-answer : goal.returns-clause-answer
returns-clause-answer c = visit-done c.args.store.now.slots c.args.lit c.negated.result c.occurrences-id-items.result.now c.loop-id.id-index c.loop-id.trail _ c.negated.ensures c.occurrences-id-items.ensures.exact c.loop-id-test.false c.loop-id.invariant.settled

pub returns-then-not-branch-clause-extended : goal.returns-then-not-branch-clause-extended
returns-then-not-branch-clause-extended c = extended-then c.args.store.now.vars (live_clauses c.args.store.now.slots) c.args.trail.now c.loop-id.trail c.settle.new.trail c.loop-id.invariant.extended c.in_ok-settle.ensures.extended

pub returns-then-not-branch-clause-answer : goal.returns-then-not-branch-clause-answer
returns-then-not-branch-clause-answer c =
    visit-refuted c.args.store.now.vars c.args.store.now.slots _ c.args.trail.now c.loop-id.trail c.settle.new.trail _ c.loop-id.invariant.extended c.in_ok-settle.ensures.answer c.if-not-branch.true
