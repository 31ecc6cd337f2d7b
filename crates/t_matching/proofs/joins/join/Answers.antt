use Rattle.t_matching.proofs.Joining.{join-is}
use Rattle.t_matching.proofs.joins.join.Goals as goal

pub returns : goal.returns
returns c = join-is _ _ _ _ _ c.in_ok-made.ensures c.normalise.ensures.rising c.normalise.ensures.same
