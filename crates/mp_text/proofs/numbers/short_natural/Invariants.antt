use Rattle.std.proofs.Common.{◌≡◌, ◌<◌, ◌^◌, drop}
use Rattle.mp_text.specs.Numbers.{decimal_after}
use Rattle.mp_text.proofs.numbers.short_natural.Given as goal

abbrev pub invariant-loop-byte : goal.invariant-loop-byte
invariant-loop-byte l = record {
  few : l.value < 10 ^ l.byte-index;
  same : decimal_after l.value (drop l.byte-index l.text) ≡ decimal_after 0 l.text;
}
