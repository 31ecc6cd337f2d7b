use Rattle.mp_map.proofs.Mending.{upgraded_valid}
use Rattle.mp_map.proofs.upgrading.upgrade.Goals as goal

pub returns-clause-valid : goal.returns-clause-valid
returns-clause-valid c = rw (c.in_ok-copy.ensures, c.in_ok-joined_neighbours.ensures) (upgraded_valid c.args.map.now c.requires)
