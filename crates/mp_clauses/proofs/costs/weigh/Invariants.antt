use Rattle.std.proofs.Common.{◌≡◌, ◌+◌, ◌-◌, ◌≤◌, ◌^◌, length, drop}
use Rattle.std.specs.Prelude.{vec_len, vec_capacity}
use Rattle.mp_clauses.specs.Weighing.{costs_of, weighted}
use Rattle.mp_clauses.specs.Numbering.{numbered, AreNumbered}
use Rattle.mp_clauses.proofs.costs.weigh.Given as goal

abbrev pub invariant-loop-cost : goal.invariant-loop-cost
invariant-loop-cost l = record {
  len : length l.numbers.items ≡ length l.initial.numbers.items;
  each : AreNumbered l.numbers.items l.weights.items;
  weights : weighted (drop l.cost-index l.costs) (numbered l.weights.items l.numbers.items) ≡ weighted l.costs (numbered l.initial.weights.items l.initial.numbers.items);
  count : l.count ≡ length (costs_of (numbered l.weights.items l.numbers.items));
  room : vec_len l.weights + (length l.costs - l.cost-index) ≤ vec_capacity l.weights;
  few : vec_len l.weights + (length l.costs - l.cost-index) ≤ 2 ^ 32;
}
