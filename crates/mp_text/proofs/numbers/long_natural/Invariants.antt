use Rattle.std.proofs.Common.{◌≡◌, ◌≤◌, drop}
use Rattle.mp_text.specs.Numbers.{decimal_after, at_most}
use Rattle.mp_text.proofs.numbers.long_natural.Given as goal

abbrev pub invariant-loop-byte : goal.invariant-loop-byte
invariant-loop-byte l = record {
  few : l.value ≤ l.max;
  same : at_most l.max (decimal_after l.value (drop l.byte-index l.text)) ≡ at_most l.max (decimal_after 0 l.text);
}
