use Rattle.std.proofs.Common.{refl, sym, ap, [], ◌∷◌}
use Rattle.mp_modes.proofs.Modes.{workload_wants, workload_built}
use Rattle.mp_modes.proofs.workload.workload_run.Goals as goal

pub returns-in-Err-clause-stopped : goal.returns-in-Err-clause-stopped
returns-in-Err-clause-stopped g c = workload_wants _ _ _

pub returns-in-Ok-clause-prepared : goal.returns-in-Ok-clause-prepared
returns-in-Ok-clause-prepared g c = workload_built _ _ _ _ _ c.in-Ok.ensures refl refl
