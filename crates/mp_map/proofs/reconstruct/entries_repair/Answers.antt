use Rattle.mp_map.proofs.Mending.{entries_repair}
use Rattle.mp_map.proofs.reconstruct.entries_repair.Goals as goal

pub returns : goal.returns
returns c = entries_repair
