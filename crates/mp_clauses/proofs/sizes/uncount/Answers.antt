use Rattle.std.proofs.Common.{◌≡◌, ◌+◌, ◌-◌, arith, cond, length, sym, true}
use Rattle.mp_clauses.specs.Tables.{live_in, clause_at}
use Rattle.mp_clauses.proofs.Steps.{count-room, count-less}
use Rattle.mp_clauses.proofs.sizes.uncount.Goals as goal

pub overflow_sub-size : goal.overflow_sub-size
overflow_sub-size c = (count-room c.args.rows.now.rows c.args.id c.args.size.now c.requires.known c.requires.sized (sym c.if-is_live.ensures)).0

pub overflow_sub-size-then-is_live : goal.overflow_sub-size-then-is_live
overflow_sub-size-then-is_live c = rw c.clause.ensures.clause (count-room c.args.rows.now.rows c.args.id c.args.size.now c.requires.known c.requires.sized (sym c.if-is_live.ensures)).1

pub returns-then-is_live-clause-sized : goal.returns-then-is_live-clause-sized
returns-then-is_live-clause-sized c =
    let live : live_in c.args.rows.now.rows c.args.id ≡ true = sym c.if-is_live.ensures in
    let room = count-room c.args.rows.now.rows c.args.id c.args.size.now c.requires.known c.requires.sized live in
    let one : c.args.size.now.clauses - 1 + cond (live_in c.args.rows.now.rows c.args.id) 1 0 ≡ c.args.size.now.clauses = rw live (omega (arith, room.0)) in
    let many : c.args.size.now.literals - length c.clause.result.now + cond (live_in c.args.rows.now.rows c.args.id) (length (clause_at c.args.rows.now.rows c.args.id)) 0 ≡ c.args.size.now.literals = rw (live, c.clause.ensures.clause) (omega (arith, room.1)) in
    count-less c.args.rows.now.rows c.args.id c.args.size.now _ c.requires.known c.requires.sized one many
