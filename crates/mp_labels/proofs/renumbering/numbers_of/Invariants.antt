use Rattle.std.proofs.Common.{◌≡◌, drop, length, replicate}
use Rattle.mp_labels.proofs.Numbers.{numbered}
use Rattle.mp_labels.proofs.renumbering.numbers_of.Given as goal

abbrev pub invariant-loop-name : goal.invariant-loop-name
invariant-loop-name l = record {
  count : l.number ≡ l.name-index;
  len : length l.numbers.items ≡ l.vars;
  table : numbered l.number (drop l.name-index l.name-items) l.numbers.items ≡ numbered 0 l.name-items (replicate l.vars 0);
}
