use Rattle.std.proofs.Common.{get_or, ap}
use Rattle.t_equiv.proofs.PooledStores.{note-more}
use Rattle.t_equiv.proofs.pooling.note.Goals as goal

pub returns : goal.returns
returns c = note-more c.args.store.now c.args.weights.now c.args.costs.now c.push.new.self c.args.lit _ c.requires.sound c.requires.many c.requires.up (ap (λ x. get_or c.args.weights.now x 0) c.place.ensures) c.in_ok-push.ensures.ok c.requires.noted
