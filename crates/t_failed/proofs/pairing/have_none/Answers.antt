use Rattle.t_failed.proofs.PairTurns.{none-or-some}
use Rattle.t_failed.proofs.pairing.have_none.Goals as goal

pub returns : goal.returns
returns c = none-or-some c.args.lits.now c.is_empty.result c.is_empty.ensures
