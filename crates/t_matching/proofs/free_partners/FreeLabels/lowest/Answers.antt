use Rattle.std.proofs.Common.{◌≡◌, refl}
use Rattle.std.specs.Prelude.{Some, nat_eq}
use Rattle.std.specs.HashMap.{get}
use Rattle.t_matching.proofs.FreeLabels.{known-set}
use Rattle.t_matching.proofs.free_partners.FreeLabels.lowest.Goals as goal

pub returns-clause-fits : goal.returns-clause-fits
returns-clause-fits c =
    let found : get nat_eq c.args.self.now.numbers c.weight-weight.result ≡ Some c.in-Some.number = cc in
    known-set c.args.store.now c.args.self.now _ c.in-Some.number c.index_mut-class.result.now c.lowest.new.self c.requires.fits refl refl (c.requires.fits.numbers c.weight-weight.result c.in-Some.number found) c.index_mut-class.ensures.value c.lowest.ensures.kept
