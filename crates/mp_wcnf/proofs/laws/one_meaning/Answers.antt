use Rattle.mp_wcnf.proofs.Public.{one_meaning}
use Rattle.mp_wcnf.proofs.laws.one_meaning.Goals as goal

pub returns : goal.returns
returns c = one_meaning
