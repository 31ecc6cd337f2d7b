use Rattle.std.proofs.Common.{◌≡◌, ◌+◌, ◌<◌, ◌^◌, take}
use Rattle.mp_clauses.specs.Tables.{literals_of}
use Rattle.mp_clauses.proofs.sizes.are_countable.Given as goal

abbrev pub invariant-loop-clause : goal.invariant-loop-clause
invariant-loop-clause l = record {
  total : l.total ≡ l.counted + literals_of (take l.clause-index l.clauses);
  fits : l.total < 2 ^ 64;
}
