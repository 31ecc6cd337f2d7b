use Rattle.std.proofs.Common.{◌≡◌, length, map}
use Rattle.mp_map.specs.Solutions.{words_on, solution_lines, has_values}
use Rattle.mp_map.proofs.reporting.has_values.Given as goal

abbrev pub invariant-loop-line : goal.invariant-loop-line
invariant-loop-line l = has_values (map words_on l.lines) ≡ has_values (solution_lines l.text)

abbrev pub decreases-loop-line : goal.decreases-loop-line
decreases-loop-line l = length l.lines
