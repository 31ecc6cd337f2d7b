use Rattle.std.proofs.Common.{◌≡◌, ◌≤◌, ◌-◌, ◌+◌, ◌++◌, replicate}
use Rattle.std.specs.Prelude.{vec_len, vec_capacity}
use Rattle.mp_clauses.proofs.costs.lengthen.Given as goal

abbrev pub invariant-loop : goal.invariant-loop
invariant-loop l = record {
  room : vec_len l.numbers + (l.more - l.counter) ≤ vec_capacity l.numbers;
  items : l.numbers.items ≡ l.initial.numbers.items ++ replicate l.counter 0;
}
