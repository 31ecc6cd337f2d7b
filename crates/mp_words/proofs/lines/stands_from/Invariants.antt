use Rattle.std.specs.Prelude.{◌≡◌, drop}
use Rattle.std.specs.List.{list_any}
use Rattle.std.specs.Str.{bytes_eq}
use Rattle.mp_words.specs.Reading.{texts}
use Rattle.mp_words.proofs.lines.stands_from.Given as goal

abbrev pub invariant-loop-place : goal.invariant-loop-place
invariant-loop-place l = list_any (λ other. bytes_eq l.text other) (drop l.fn.first (texts l.names)) ≡ list_any (λ other. bytes_eq l.text other) (drop l.place (texts l.names))
