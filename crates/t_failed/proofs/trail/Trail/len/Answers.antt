use Rattle.t_failed.proofs.Trails.{few}
use Rattle.t_failed.proofs.trail.Trail.len.Goals as goal

pub returns-clause-consistent : goal.returns-clause-consistent
returns-clause-consistent c = rw (← c.self.view_is) c.self.invariant.consistent

pub returns-clause-few : goal.returns-clause-few
returns-clause-few c = rw (← c.self.view_is) (λ vars up. few c.self.inside.marks.items c.self.inside.lits.items vars c.self.invariant up)
