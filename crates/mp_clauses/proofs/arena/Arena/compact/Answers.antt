use Rattle.mp_clauses.proofs.Laid.{inside-all}
use Rattle.mp_clauses.proofs.arena.Arena.compact.Goals as goal

pub invariant_of-self-2 : goal.invariant_of-self-2
invariant_of-self-2 c = (c.pack.ensures.laid, inside-all _ _ _ c.pack.ensures.laid)
