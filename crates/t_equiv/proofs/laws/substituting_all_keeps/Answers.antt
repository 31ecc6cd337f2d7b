use Rattle.t_equiv.proofs.Imaged.{substituting_all_keeps}
use Rattle.t_equiv.proofs.laws.substituting_all_keeps.Goals as goal

pub returns : goal.returns
returns c = substituting_all_keeps
