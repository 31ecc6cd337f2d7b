use Rattle.mp_store.proofs.Clashes.{ids-live}
use Rattle.t_labels.proofs.lowering.note_beside.Goals as goal

pub note_clauses-requires : goal.note_clauses-requires
note_clauses-requires c = rw c.occurrences.ensures.rising (ids-live c.args.lit c.args.store.now.slots)
