use Rattle.t_failed.proofs.Trails.{found-marked}
use Rattle.t_failed.proofs.trail.Trail.has.Goals as goal

pub returns-clause-found : goal.returns-clause-found
returns-clause-found c = rw (← c.self.view_is) (found-marked c.self.inside.marks.items c.self.inside.lits.items c.args.lit c.is_marked.result c.self.invariant (rw c.deref.ensures.value at c.is_marked.ensures))

pub returns-clause-consistent : goal.returns-clause-consistent
returns-clause-consistent c = rw (← c.self.view_is) c.self.invariant.consistent
