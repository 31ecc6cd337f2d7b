use Rattle.std.proofs.Common.{refl}
use Rattle.mp_clauses.proofs.Steps.{refuted-table, refuted-slots}
use Rattle.mp_clauses.proofs.clauses.ClauseTable.refute.Goals as goal

pub invariant_of-self : goal.invariant_of-self
invariant_of-self c = refuted-table _ _ _ _ _ _ _ _ c.self.invariant c.kill_every.ensures.len c.kill_every.ensures.same c.kill_every.ensures.dead c.push.ensures.rows c.clear_every.ensures.len c.clear_every.ensures.items refl refl

pub returns-clause-slots : goal.returns-clause-slots
returns-clause-slots c = rw (← c.self.view_is) (refuted-slots c.self.inside.rows.rows _ _ c.kill_every.ensures.dead c.kill_every.ensures.len c.push.ensures.rows)
