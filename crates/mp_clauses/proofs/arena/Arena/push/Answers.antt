use Rattle.std.proofs.Common.{◌≡◌, arith, ap, ◌++◌, refl}
use Rattle.std.proofs.lemmas.Grind.{common_steps}
use Rattle.mp_clauses.proofs.ArenaPlaces.{rows-pushed}
use Rattle.mp_clauses.proofs.Laid.{laid-pushed, inside-all}
use Rattle.mp_clauses.proofs.arena.Arena.push.Goals as goal

pub invariant_of-self : goal.invariant_of-self
invariant_of-self c =
    let room = rw (← c.self.view_is) at c.requires.room in
    let done = c.extend_from_slice.ensures.succeeds (omega (arith, room)) in
    let items : c.extend_from_slice.new.self.items ≡ c.self.inside.literals.items ++ c.args.clause.now = grind (arith, common_steps, done, c.extend_from_slice.ensures.items) in
    let laid = laid-pushed c.self.inside.literals.items c.args.clause.now c.self.inside.places.items c.self.inside.order.items c.len.result _ c.self.invariant.0 (omega (arith, c.len.ensures, c.self.inside.places.ok)) (omega (arith, c.len-start.ensures, c.self.inside.literals.ok)) refl in
    (rw (items, c.push_reserved.ensures.items, c.push_reserved-2.ensures.items) laid, rw (items, c.push_reserved-2.ensures.items) (inside-all _ _ _ laid))

pub returns-clause-rows : goal.returns-clause-rows
returns-clause-rows c =
    let room = rw (← c.self.view_is) at c.requires.room in
    let done = c.extend_from_slice.ensures.succeeds (omega (arith, room)) in
    let items : c.extend_from_slice.new.self.items ≡ c.self.inside.literals.items ++ c.args.clause.now = grind (arith, common_steps, done, c.extend_from_slice.ensures.items) in
    rw (← c.self.view_is, items, c.push_reserved-2.ensures.items) (rows-pushed c.self.inside.literals.items c.args.clause.now c.self.inside.places.items _ _ _ c.self.invariant.1 (omega (arith, c.len-start.ensures, c.self.inside.literals.ok)) refl c.signature.ensures)
