use Rattle.std.proofs.Common.{◌≡◌, ◌≤◌, ◌+◌, false, length, map}
use Rattle.mp_map.specs.Solutions.{words_on, solution_lines, first_wrong}
use Rattle.mp_map.proofs.reporting.first_wrong.Given as goal

abbrev pub invariant-loop-piece : goal.invariant-loop-piece
invariant-loop-piece l = record {
  same : first_wrong l.line l.seen (map words_on l.lines) ≡ first_wrong 1 false (solution_lines l.text);
  few : l.line + length l.lines ≤ length l.text + 2;
}

abbrev pub decreases-loop-piece : goal.decreases-loop-piece
decreases-loop-piece l = length l.lines
