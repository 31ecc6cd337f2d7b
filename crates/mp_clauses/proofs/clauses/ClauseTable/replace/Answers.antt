use Rattle.std.proofs.Common.{arith, ◌∙◌, ◌≡◌, ap, length, refl}
use Rattle.std.proofs.lemmas.List.{length-map}
use Rattle.mp_clauses.specs.Tables.{slots_of, rising_from}
use Rattle.mp_clauses.proofs.Steps.{killed-length, known-after, within-after, replaced-table, replaced-slots, live_le}
use Rattle.mp_clauses.proofs.Unlinked.{ids_from-rising}
use Rattle.mp_clauses.proofs.clauses.ClauseTable.replace.Goals as goal

pub unlink_all-requires-clause-known : goal.unlink_all-requires-clause-known
unlink_all-requires-clause-known c =
    let known = simp length-map at (rw (← c.self.view_is) at c.requires.known) in
    known-after _ _ _ _ known refl c.kill.ensures.rows

pub unlink_all-requires-clause-within : goal.unlink_all-requires-clause-within
unlink_all-requires-clause-within c = within-after _ c.args.gone.now _ _ c.self.invariant.matched.within c.kill.ensures.rows

pub unlink_all-requires-clause-rising : goal.unlink_all-requires-clause-rising
unlink_all-requires-clause-rising c = λ p. ap (rising_from 0) (c.self.invariant.matched.each p) ∙ ids_from-rising p 0 c.self.inside.rows.rows

pub overflow_add-self : goal.overflow_add-self
overflow_add-self c =
    let room = (rw (← c.self.view_is) at c.requires.room).rows in
    let below = live_le (slots_of c.kill.new.rows.rows) in
    let slots : length (slots_of c.kill.new.rows.rows) ≡ length c.kill.new.rows.rows = simp length-map in
    let len = ap length c.kill.ensures.rows ∙ killed-length c.args.gone.now c.self.inside.rows.rows in
    omega (arith, room, below, slots, len, c.kill.ensures.sized.clauses, c.len.ensures, c.len-first.ensures.fits)

pub link_all-requires-clause-fits : goal.link_all-requires-clause-fits
link_all-requires-clause-fits c =
    let room = (rw (← c.self.view_is) at c.requires.room).rows in
    rw c.items.ensures (omega (arith, room, c.len-first.ensures.len, c.len-first.ensures.fits))

pub overflow_add-self-2 : goal.overflow_add-self-2
overflow_add-self-2 c =
    let room = (rw (← c.self.view_is) at c.requires.room).size in
    let count = rw c.items-2.ensures at c.literals.ensures in
    omega (arith, room, count, c.kill.ensures.less)

pub invariant_of-self : goal.invariant_of-self
invariant_of-self c =
    let linked = rw (c.items.ensures, c.len-first.ensures.len) at c.link_all.ensures.items in
    let left = c.unlink_all.ensures.items c.self.inside.rows.rows c.kill.ensures.rows c.self.invariant.matched.each in
    replaced-table c.args.gone.now _ _ _ _ _ _ _ _ _ _ _ _ c.self.invariant (simp length-map at (rw (← c.self.view_is) at c.requires.within)) c.kill.ensures.rows c.kill.ensures.sized c.unlink_all.ensures.len c.unlink_all.ensures.marks_len c.unlink_all.ensures.unmarked left c.link_all.ensures.len linked c.move_in.ensures (omega (arith, c.len.ensures)) (omega (arith, rw c.items-2.ensures at c.literals.ensures))

pub returns-clause-slots : goal.returns-clause-slots
returns-clause-slots c = rw (← c.self.view_is) (replaced-slots c.args.gone.now _ _ _ _ c.kill.ensures.rows c.move_in.ensures)
