use Rattle.mp_modes.proofs.OptimumKept.{optimum_kept}
use Rattle.mp_modes.proofs.preprocess.optimum_is_kept.Goals as goal

pub returns : goal.returns
returns c = optimum_kept
