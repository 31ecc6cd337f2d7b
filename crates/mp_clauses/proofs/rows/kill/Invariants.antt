use Rattle.std.proofs.Common.{◌≡◌, ◌≤◌, length, drop}
use Rattle.mp_clauses.specs.Tables.{killed, IsSize, slots_of}
use Rattle.mp_clauses.proofs.rows.kill.Given as goal

abbrev pub invariant-loop-id : goal.invariant-loop-id
invariant-loop-id l = record {
  len : length l.rows.rows ≡ length l.initial.rows.rows;
  free : l.rows.free ≡ l.initial.rows.free;
  room : l.rows.room ≡ l.initial.rows.room;
  rows : killed (drop l.id-index l.gone) l.rows.rows ≡ killed l.gone l.initial.rows.rows;
  sized : IsSize l.size (slots_of l.rows.rows);
  less : l.size.literals ≤ l.initial.size.literals;
}
