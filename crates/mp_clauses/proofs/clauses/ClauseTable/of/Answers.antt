use Rattle.std.proofs.Common.{◌∙◌, ap}
use Rattle.mp_clauses.specs.Tables.{slots_of}
use Rattle.mp_clauses.proofs.Steps.{slots-alive}
use Rattle.mp_clauses.proofs.FirstLists.{first-table, alive-live, alive-apart, alive-inside}
use Rattle.mp_clauses.proofs.clauses.ClauseTable.of.Goals as goal

pub lists_of-requires-clause-live : goal.lists_of-requires-clause-live
lists_of-requires-clause-live c = let rows = rw c.in_ok-rows.ensures.rows at c.move_in.ensures in rw rows (alive-live c.args.clauses)

pub lists_of-requires-clause-within : goal.lists_of-requires-clause-within
lists_of-requires-clause-within c = let rows = rw c.in_ok-rows.ensures.rows at c.move_in.ensures in rw rows (alive-inside c.args.places c.args.clauses c.requires.within)

pub lists_of-requires-clause-distinct : goal.lists_of-requires-clause-distinct
lists_of-requires-clause-distinct c = let rows = rw c.in_ok-rows.ensures.rows at c.move_in.ensures in rw rows (alive-apart c.args.clauses c.requires.distinct)

pub invariant_of-result : goal.invariant_of-result
invariant_of-result c =
    let rows = rw c.in_ok-rows.ensures.rows at c.move_in.ensures in
    let unmarked = rw c.in_ok-marks.ensures.items at c.widen_marks.ensures.same in
    first-table c.args.clauses _ _ _ _ c.args.places c.requires.within rows c.in_ok-lists.ensures.len c.in_ok-lists.ensures.items c.in_ok-widen_marks.ensures.ok unmarked c.len.ensures (rw c.items-2.ensures at c.literals.ensures)

pub returns-clause-slots : goal.returns-clause-slots
returns-clause-slots c =
    let rows = rw c.in_ok-rows.ensures.rows at c.move_in.ensures in
    ap slots_of rows ∙ slots-alive c.args.clauses
