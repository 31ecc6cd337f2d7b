use Rattle.std.proofs.Common.{◌≡◌, drop, length, replicate}
use Rattle.mp_merging.specs.Tables.{all_housed}
use Rattle.mp_merging.proofs.homes.homes_of.Given as goal

abbrev pub invariant-loop-clause : goal.invariant-loop-clause
invariant-loop-clause l = record {
  count : l.number ≡ l.clause-index;
  len : length l.homes.items ≡ l.vars;
  table : all_housed l.marks l.number (drop l.clause-index l.clause-items) l.homes.items ≡ all_housed l.marks 0 l.clause-items (replicate l.vars 0);
}
