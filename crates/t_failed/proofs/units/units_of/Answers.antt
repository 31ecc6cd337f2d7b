use Rattle.std.proofs.Common.{arith, sym, ◌∙◌}
use Rattle.t_failed.proofs.UnitSets.{units-start, units-dead, units-longer, units-more, units-done}
use Rattle.t_failed.proofs.units.units_of.Goals as goal

pub loop-id-init : goal.loop-id-init
loop-id-init c = units-start c.args.store.now.slots _ c.new-lits.ensures.items

pub loop-id-preserved-then-not-live : goal.loop-id-preserved-then-not-live
loop-id-preserved-then-not-live c = units-dead c.args.store.now.slots c.loop-id.id _ (sym c.live.ensures ∙ c.if-not-live.true) c.loop-id.invariant

pub loop-id-preserved-then-clause-ne1 : goal.loop-id-preserved-then-clause-ne1
loop-id-preserved-then-clause-ne1 c = units-longer c.args.store.now.slots c.loop-id.id _ c.clause-clause.result.now c.clause-clause.ensures c.if-clause-ne1.true c.loop-id.invariant

pub loop-id-preserved : goal.loop-id-preserved
loop-id-preserved c = units-more c.args.store.now.slots c.loop-id.id _ _ c.clause-clause.result.now c.clause-clause.ensures c.if-clause-ne1.false c.in_ok-extend_from_slice.ensures.items c.loop-id.invariant

pub returns : goal.returns
returns c = units-done c.args.store.now c.loop-id.id _ _ (omega (arith, c.loop-id-test.false, c.next_id-id-end.ensures)) (rw c.deref.ensures.value at c.in_ok-hold.ensures) c.loop-id.invariant
