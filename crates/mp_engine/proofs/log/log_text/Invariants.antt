use Rattle.std.proofs.Common.{◌≡◌, take}
use Rattle.std.specs.List.{flat_map}
use Rattle.mp_engine.specs.LogText.{line_text}
use Rattle.mp_engine.proofs.log.log_text.Given as goal

abbrev pub invariant-loop-line : goal.invariant-loop-line
invariant-loop-line l = l.text ≡ flat_map line_text (take l.line-index l.line-items)
