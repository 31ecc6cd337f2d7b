use Rattle.mp_workload.proofs.Colouring.{workloads_have_models}
use Rattle.mp_workload.proofs.laws.workloads_have_models.Goals as goal

pub returns : goal.returns
returns c = workloads_have_models
