use Rattle.std.proofs.Common.{rules}
use Rattle.mp_modes.proofs.status.Status.number.Goals as goal

pub returns : goal.returns
returns c = search rules
