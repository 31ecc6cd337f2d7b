use Rattle.std.proofs.Common.{◌≡◌, length, map}
use Rattle.mp_map.specs.Solutions.{words_on, solution_lines, status_in}
use Rattle.mp_map.proofs.reporting.first_status.Given as goal

abbrev pub invariant-loop-line : goal.invariant-loop-line
invariant-loop-line l = status_in (map words_on l.lines) ≡ status_in (solution_lines l.text)

abbrev pub decreases-loop-line : goal.decreases-loop-line
decreases-loop-line l = length l.lines
