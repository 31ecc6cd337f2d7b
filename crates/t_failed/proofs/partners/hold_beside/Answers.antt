use Rattle.std.proofs.Common.{arith, refl}
use Rattle.t_failed.proofs.Visits.{visit-live}
use Rattle.t_failed.proofs.Searching.{besides-none, besides-short, besides-long, besides-done}
use Rattle.t_failed.proofs.partners.hold_beside.Goals as goal

pub loop-id-init : goal.loop-id-init
loop-id-init c = besides-none c.args.store.now.slots c.args.lit _ c.clear.ensures.items

pub clause-clause-requires : goal.clause-clause-requires
clause-clause-requires c = visit-live c.args.store.now.slots c.args.lit c.occurrences-id-items.result.now c.loop-id.id-index c.occurrences-id-items.ensures.exact c.loop-id-test.true

pub loop-id-preserved : goal.loop-id-preserved
loop-id-preserved c =
    besides-short c.args.store.now.slots c.args.lit c.occurrences-id-items.result.now c.loop-id.id-index _ c.loop-id.lits.items _ c.clause-clause.result.now c.occurrences-id-items.ensures.exact c.loop-id-test.true refl c.clause-clause.ensures
    (omega (arith, c.if-clause-gt2.false)) c.in_ok-extend_from_slice.ensures.items c.loop-id.invariant

pub returns : goal.returns
returns c =
    besides-done c.args.store.now.slots c.args.lit c.occurrences-id-items.result.now c.loop-id.id-index _ _ c.occurrences-id-items.ensures.exact c.loop-id-test.false (rw c.deref.ensures.value at c.in_ok-hold.ensures) c.loop-id.invariant

pub loop-id-preserved-then-clause-gt2 : goal.loop-id-preserved-then-clause-gt2
loop-id-preserved-then-clause-gt2 c =
    besides-long c.args.store.now.slots c.args.lit c.occurrences-id-items.result.now c.loop-id.id-index _ c.loop-id.lits.items c.clause-clause.result.now c.loop-id-test.true refl c.clause-clause.ensures (omega (arith, c.if-clause-gt2.true)) c.loop-id.invariant
