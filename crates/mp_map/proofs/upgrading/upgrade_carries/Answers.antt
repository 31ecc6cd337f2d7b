use Rattle.mp_map.proofs.Mending.{upgrade_carries}
use Rattle.mp_map.proofs.upgrading.upgrade_carries.Goals as goal

pub returns : goal.returns
returns c = upgrade_carries
