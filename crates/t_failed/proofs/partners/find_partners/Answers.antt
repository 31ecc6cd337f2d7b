use Rattle.t_failed.proofs.FailedTurns.{cut-back, cut-same}
use Rattle.t_failed.proofs.Searching.{alone-found, set-has, set-lacks}
use Rattle.t_failed.proofs.partners.find_partners.Goals as goal

pub cut-requires : goal.cut-requires
cut-requires c = (cut-back _ _ c.len-from.result c.in_ok-put_found.ensures.grown c.len-from.ensures.len).0

pub returns-clause-trail : goal.returns-clause-trail
returns-clause-trail c = cut-same _ _ _ c.len-from.result c.in_ok-put_found.ensures.grown c.len-from.ensures.len c.cut.ensures

pub returns-then-has-clause-found : goal.returns-then-has-clause-found
returns-then-has-clause-found c = alone-found c.args.store.now c.args.lit _ (c.requires.units.some c.args.lit (set-has c.args.units.now c.args.lit c.has.result c.has.ensures c.if-has.true)) c.clear.ensures.items

pub put_found-requires-clause-alone : goal.put_found-requires-clause-alone
put_found-requires-clause-alone c m = set-lacks c.args.units.now c.args.lit c.has.result c.has.ensures c.if-has.false (c.requires.units.all c.args.lit m)
