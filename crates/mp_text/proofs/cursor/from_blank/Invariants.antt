use Rattle.std.proofs.Common.{◌≡◌, length}
use Rattle.mp_text.specs.Fronts.{word_rest}
use Rattle.mp_text.proofs.cursor.from_blank.Given as goal

abbrev pub invariant-loop-first : goal.invariant-loop-first
invariant-loop-first l = word_rest l.rest ≡ word_rest l.bytes

abbrev pub decreases-loop-first : goal.decreases-loop-first
decreases-loop-first l = length l.rest
