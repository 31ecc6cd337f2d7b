use Rattle.std.specs.Prelude.{take}
use Rattle.mp_words.specs.Modes.{options_of}
use Rattle.mp_words.specs.Reading.{texts, AreRead}
use Rattle.mp_words.proofs.lines.is_line.Given as goal

abbrev pub invariant-loop-place : goal.invariant-loop-place
invariant-loop-place l = AreRead (options_of l.mode) (take l.place l.words) (texts l.sorted.plain.items) (texts l.sorted.names.items)
