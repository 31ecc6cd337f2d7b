use Rattle.std.proofs.Common.{◌≡◌, ◌++◌, drop}
use Rattle.mp_clauses.specs.Slots.{live_clauses}
use Rattle.mp_clauses.specs.Tables.{slots_of}
use Rattle.mp_clauses.proofs.clauses.ClauseTable.copy_live.Given as goal

abbrev pub invariant-loop-id : goal.invariant-loop-id
invariant-loop-id l = l.made ++ live_clauses (slots_of (drop l.id l.self-inside.rows.rows)) ≡ live_clauses (slots_of l.self-inside.rows.rows)
