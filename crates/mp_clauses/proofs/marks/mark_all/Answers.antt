use Rattle.mp_clauses.proofs.marks.mark_all.Goals as goal

pub mark-requires : goal.mark-requires
mark-requires c = rw (c.loop-id.invariant.len, c.clause.ensures.clause) (c.requires.within _)
