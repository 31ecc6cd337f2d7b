use Rattle.mp_clauses.proofs.links.sweep_all.Goals as goal

pub sweep-requires-clause-within : goal.sweep-requires-clause-within
sweep-requires-clause-within c = rw (c.loop-id.invariant.len, c.clause.ensures.clause) (c.requires.within _)
