use Rattle.std.proofs.Common.{arith}
use Rattle.std.proofs.lemmas.Bool.{leb-true}
use Rattle.t_subsume.proofs.Nearby.{apart-subsumes-none}
use Rattle.t_subsume.proofs.Subsuming.{clause-some, passed-idle}
use Rattle.t_subsume.proofs.subsumption.SubsumptionTurn.is_known_idle.Goals as goal

pub returns-then-passes : goal.returns-then-passes
returns-then-passes c t =
    apart-subsumes-none c.args.store.now c.args.self.now.mark c.args.self.now.near c.args.item (λ x e. clause-some c.args.store.now c.args.item x c.vars.ensures.sound c.requires.unrefuted e) c.requires.fits.0 c.requires.fits.2 (c.passes.ensures.all c.if-passes.true) (c.passes.ensures.apart c.if-passes.true)

pub returns : goal.returns
returns c t = passed-idle c.args.store.now.slots c.args.item c.least.result (omega (arith, leb-true c.next_id.result c.least.result t, c.next_id.ensures)) c.least.ensures
