use Rattle.std.proofs.Common.{◌∙◌, refl}
use Rattle.std.proofs.lemmas.List.{length-map}
use Rattle.mp_clauses.proofs.Steps.{room-read, ids_where-rows}
use Rattle.mp_clauses.proofs.clauses.ClauseTable.occurrences.Goals as goal

pub returns : goal.returns
returns c =
    let below = simp length-map at (rw (← c.self.view_is) at c.requires) in
    let read = room-read _ _ _ _ c.index.ensures refl below in
    rw (← c.self.view_is) (c.items.ensures ∙ (read ∙ (c.self.invariant.matched.each c.args.place ∙ ids_where-rows c.args.place 0 c.self.inside.rows.rows)))
