use Rattle.std.specs.Prelude.{◌≡◌, drop}
use Rattle.mp_words.specs.CommandLines.{no_twins}
use Rattle.mp_words.specs.Reading.{texts}
use Rattle.mp_words.proofs.lines.are_apart.Given as goal

abbrev pub invariant-loop-place : goal.invariant-loop-place
invariant-loop-place l = no_twins (texts l.names) ≡ no_twins (drop l.place (texts l.names))
