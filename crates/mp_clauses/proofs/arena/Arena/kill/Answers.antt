use Rattle.std.proofs.lemmas.List.{length-map}
use Rattle.mp_clauses.proofs.ArenaPlaces.{row-killed}
use Rattle.mp_clauses.proofs.Laid.{laid-killed, inside-all}
use Rattle.mp_clauses.proofs.arena.Arena.kill.Goals as goal

pub invariant_of-self : goal.invariant_of-self
invariant_of-self c =
    let below = simp length-map at (rw (← c.self.view_is) at c.requires) in
    let laid = laid-killed c.self.inside.literals.items c.self.inside.places.items c.self.inside.order.items c.args.id c.index_mut-place.result.now below c.index_mut-place.ensures.value c.self.invariant.0 in
    (laid, inside-all _ _ _ laid)

pub returns-clause-rows : goal.returns-clause-rows
returns-clause-rows c =
    let below = simp length-map at (rw (← c.self.view_is) at c.requires) in
    rw (← c.self.view_is) (row-killed c.self.inside.literals.items c.self.inside.places.items c.args.id c.index_mut-place.result.now below c.index_mut-place.ensures.value)
