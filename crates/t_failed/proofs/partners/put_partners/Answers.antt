use Rattle.t_failed.proofs.Searching.{partners-none, partners-more, partners-same, partners-sorted}
use Rattle.t_failed.proofs.partners.put_partners.Goals as goal

pub loop-other-init : goal.loop-other-init
loop-other-init c = partners-none c.args.store.now c.args.lit _ c.requires.empty

pub loop-other-preserved-then-not-is_partner : goal.loop-other-preserved-then-not-is_partner
loop-other-preserved-then-not-is_partner c = partners-same c.args.store.now c.args.lit c.args.lits.now c.loop-other.other-index c.other-item.result _ c.loop-other-test.true c.other-item.is c.if-not-is_partner.ensures c.loop-other.invariant

pub loop-other-preserved : goal.loop-other-preserved
loop-other-preserved c = partners-more c.args.store.now c.args.lit c.args.lits.now c.loop-other.other-index c.other-item.result _ _ c.loop-other-test.true c.other-item.is c.if-not-is_partner.ensures c.in_ok-push.ensures.items c.loop-other.invariant

pub returns : goal.returns
returns c = partners-sorted c.args.store.now c.args.lit c.args.lits.now c.loop-other.other-index _ _ c.loop-other-test.false c.sort_unstable.ensures.permutation c.loop-other.invariant
