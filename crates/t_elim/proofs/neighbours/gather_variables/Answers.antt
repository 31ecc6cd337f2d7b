use Rattle.mp_store.proofs.Clashes.{ids-live}
use Rattle.t_elim.proofs.neighbours.gather_variables.Goals as goal

pub note_all-requires : goal.note_all-requires
note_all-requires c = rw c.occurrences.ensures.rising (ids-live c.new-positive.result c.args.store.now.slots)

pub note_all-requires-2 : goal.note_all-requires-2
note_all-requires-2 c = rw c.occurrences-2.ensures.rising (ids-live c.new-negative.result c.args.store.now.slots)
