use Rattle.t_subsume.proofs.Nearby.{apart-strengthens-none}
use Rattle.t_subsume.proofs.strengthening.StrengtheningTurn.is_known_idle.Goals as goal

pub returns : goal.returns
returns c t = apart-strengthens-none c.args.store.now c.args.self.now.mark c.args.self.now.near c.args.item c.requires.fits.0 c.requires.fits.2 (c.passes.ensures.all t) (c.passes.ensures.apart t)
