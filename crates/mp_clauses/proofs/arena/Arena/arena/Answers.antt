use Rattle.std.proofs.Common.{◌∙◌}
use Rattle.mp_clauses.proofs.Laid.{placed-laid}
use Rattle.mp_clauses.proofs.arena.Arena.arena.Goals as goal

pub returns-clause-placed : goal.returns-clause-placed
returns-clause-placed c = rw (← c.self.view_is) (placed-laid c.self.inside.literals.items c.self.inside.places.items c.self.inside.order.items c.self.invariant.0)
