use Rattle.std.proofs.Common.{◌≡◌, ◌++◌, take}
use Rattle.mp_map.specs.Solutions.{bits_text}
use Rattle.mp_map.proofs.answering.write_bits.Given as goal

abbrev pub invariant-loop-value : goal.invariant-loop-value
invariant-loop-value l = l.text ≡ l.initial.text ++ bits_text (take l.value-index l.values)
