use Rattle.std.proofs.Common.{◌∙◌}
use Rattle.mp_clauses.proofs.Unlinked.{found-id, missed-id}
use Rattle.mp_clauses.proofs.occurrences.Occurrences.take_out.Goals as goal

pub returns-in-Ok-clause-items : goal.returns-in-Ok-clause-items
returns-in-Ok-clause-items c =
    let rises = rw (← c.self.view_is) at c.requires in
    rw (← c.self.view_is) (c.remove.ensures.items ∙ found-id c.args.id c.in-Ok.place c.self.inside.items.items rises (rw c.deref.ensures.value at c.in-Ok.ensures.position))

pub returns-in_default-clause-items : goal.returns-in_default-clause-items
returns-in_default-clause-items c =
    let rises = rw (← c.self.view_is) at c.requires in
    rw (← c.self.view_is) (missed-id c.args.id _ c.self.inside.items.items rises (rw c.deref.ensures.value at c.in_default.ensures.position))
