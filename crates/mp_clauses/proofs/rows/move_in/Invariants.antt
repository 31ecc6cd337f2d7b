use Rattle.std.proofs.Common.{◌≡◌, ◌≤◌, ◌++◌, length}
use Rattle.std.specs.Prelude.{map}
use Rattle.std.specs.Vec.Iter.{into_iter_items}
use Rattle.mp_clauses.specs.Tables.{alive, literals_of, AreShort}
use Rattle.mp_clauses.proofs.rows.move_in.Given as goal

abbrev pub invariant-loop-clause : goal.invariant-loop-clause
invariant-loop-clause l = record {
  free : length (into_iter_items l.clause-iterator) ≤ l.rows.free;
  room : literals_of (into_iter_items l.clause-iterator) ≤ l.rows.room;
  short : AreShort (into_iter_items l.clause-iterator);
  items : l.yielded ++ into_iter_items l.clause-iterator ≡ into_iter_items l.initial.clause-iterator;
  rows : l.rows.rows ≡ l.initial.rows.rows ++ map alive l.yielded;
}
