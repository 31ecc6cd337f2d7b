use Rattle.std.proofs.Common.{◌≡◌, ◌≤◌, length}
use Rattle.mp_text.specs.Fronts.{from_line_end}
use Rattle.mp_text.proofs.cursor.after_comment.Given as goal

abbrev pub invariant-loop-first : goal.invariant-loop-first
invariant-loop-first l = record { shorter : length l.rest ≤ length l.bytes; same : from_line_end l.rest ≡ from_line_end l.bytes }

abbrev pub decreases-loop-first : goal.decreases-loop-first
decreases-loop-first l = length l.rest
